use Rattle.std.proofs.Common.{subst}
use Rattle.fresh_names.specs.Giving.{IsLeastFrom}
use Rattle.fresh_names.proofs.NamingLaws.{made_given}
use Rattle.fresh_names.proofs.fresh.Fresh.make.Goals as goal

pub returns-clause-gives : goal.returns-clause-gives
returns-clause-gives c =
    made_given c.args.self.now.taken.keys c.take_suffixed.new.self.taken.keys c.args.self.now.next.entries c.take_suffixed.new.self.next.entries c.args.names.now c.free_from.new.names c.args.base c.in_ok-name.name c.in_ok-name.number c.requires.ready c.in_ok-name.ensures.stays
    (subst (λ s. IsLeastFrom c.args.self.now.taken.keys c.free_from.new.names c.args.base s c.in_ok-name.name c.in_ok-name.number) c.start-from.ensures c.in_ok-name.ensures.least) c.in_ok-take_suffixed.ensures.taken c.in_ok-take_suffixed.ensures.next
