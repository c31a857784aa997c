use Rattle.std.proofs.Common.{length, subst}
use Rattle.type_partition.specs.Keys.{AreNumbered}
use Rattle.type_things.specs.Webs.{things_of}
use Rattle.type_partition.proofs.refining.numbered.Goals as goal

pub returns-clause-numbers : goal.returns-clause-numbers
returns-clause-numbers c = subst (λ l. AreNumbered (things_of c.args.web.now) c.args.web.now.aggregates c.number_types.new.keys.keys l c.number_types.new.numbers.items (length c.args.web.now.things.items)) c.in_ok-numbers.ensures c.in_ok-number_types.ensures
