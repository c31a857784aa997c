use Rattle.type_iso.specs.Ordering.{AreSettledTo}
use Rattle.type_iso.proofs.ordering.parts_settled.Given as goal

abbrev pub invariant-loop-i : goal.invariant-loop-i
invariant-loop-i l = AreSettledTo l.settled l.parts l.i
