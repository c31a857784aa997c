use Rattle.type_iso.specs.Standing.{OrderedUpTo}
use Rattle.type_iso.proofs.merging.numbered.Given as goal

abbrev pub invariant-loop-x : goal.invariant-loop-x
invariant-loop-x l = OrderedUpTo l.order l.standing l.of.items l.numbers.items l.x
