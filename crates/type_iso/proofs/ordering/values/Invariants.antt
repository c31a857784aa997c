use Rattle.type_things.specs.Webs.{things_of}
use Rattle.type_iso.specs.Ordering.{AreValues}
use Rattle.type_iso.proofs.ordering.values.Given as goal

abbrev pub invariant-loop-x : goal.invariant-loop-x
invariant-loop-x l = AreValues (things_of l.web) l.all.items l.x
