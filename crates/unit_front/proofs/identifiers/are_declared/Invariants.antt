use Rattle.unit_front.proofs.Declaring.{AreDeclaredTo}
use Rattle.unit_front.proofs.identifiers.are_declared.Given as goal

abbrev pub invariant-loop-i : goal.invariant-loop-i
invariant-loop-i l = AreDeclaredTo l.tokens l.f l.i
