use Rattle.type_partition.specs.Keys.{num_at, AreRanked}
use Rattle.type_things.specs.Webs.{things_of}
use Rattle.type_partition.proofs.refining.split.Given as goal

abbrev pub invariant-loop-x : goal.invariant-loop-x
invariant-loop-x l = AreRanked (things_of l.web) l.keys.keys (num_at l.numbers) l.seen.keys l.next.items l.x
