use Rattle.std.proofs.Common.{◌++◌, sym, ◌∙◌, subst}
use Rattle.fresh_names.specs.Giving.{Gives}
use Rattle.static_rename.proofs.LocalLaws.{local_kept}
use Rattle.static_rename.proofs.locals.FunctionNames.give.Goals as goal

pub returns-in_ok-take-in-Asked-clause-gives : goal.returns-in_ok-take-in-Asked-clause-gives
returns-in_ok-take-in-Asked-clause-gives c =
    subst (λ w. Gives (c.args.file.now.names.taken.keys ++ c.args.self.now.given.taken.keys) (c.args.file.now.names.taken.keys ++ c.take.new.self.taken.keys) c.take.new.self.next.entries c.args.names.now c.args.names.now w c.in-Asked.name) (sym c.in-Asked.is)
    (local_kept c.args.file.now.names.taken.keys c.args.self.now.given.taken.keys c.take.new.self.taken.keys c.args.self.now.given.next.entries c.take.new.self.next.entries c.args.names.now c.in-Asked.name c.requires.ready (sym c.has.ensures ∙ c.if-has.false) c.in_ok-take-in-Asked.ensures.taken c.in_ok-take-in-Asked.ensures.next)
