use Rattle.type_partition.specs.Keys.{AreNumbered}
use Rattle.type_things.specs.Webs.{things_of}
use Rattle.type_partition.proofs.refining.number_types.Given as goal

abbrev pub invariant-loop-x : goal.invariant-loop-x
invariant-loop-x l = AreNumbered (things_of l.web) l.web.aggregates l.keys.keys l.fn.numbers.items l.numbers.items l.x
