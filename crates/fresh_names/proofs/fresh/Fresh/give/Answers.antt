use Rattle.std.proofs.Common.{sym, ◌∙◌, subst}
use Rattle.fresh_names.specs.Giving.{Gives}
use Rattle.fresh_names.proofs.NamingLaws.{kept_given}
use Rattle.fresh_names.proofs.fresh.Fresh.give.Goals as goal

pub returns-in_ok-take-in-Asked-clause-gives : goal.returns-in_ok-take-in-Asked-clause-gives
returns-in_ok-take-in-Asked-clause-gives c =
    subst (λ w. Gives c.args.self.now.taken.keys c.take.new.self.taken.keys c.take.new.self.next.entries c.args.names.now c.args.names.now w c.in-Asked.name) (sym c.in-Asked.is)
    (kept_given c.args.self.now.taken.keys c.take.new.self.taken.keys c.args.self.now.next.entries c.take.new.self.next.entries c.args.names.now c.in-Asked.name (sym c.has.ensures ∙ c.if-has.false) c.requires.ready c.in_ok-take-in-Asked.ensures.taken c.in_ok-take-in-Asked.ensures.next)
