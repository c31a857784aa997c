use Rattle.type_iso.specs.Standing.{AreNumbersOf}
use Rattle.type_iso.proofs.merging.class_numbers.Given as goal

abbrev pub invariant-loop-k : goal.invariant-loop-k
invariant-loop-k l = AreNumbersOf l.order l.standing l.numbers.items l.k
