use Rattle.type_iso.specs.Places.{ArePlacedUpTo}
use Rattle.type_iso.proofs.merging.representatives.Given as goal

abbrev pub invariant-loop-k : goal.invariant-loop-k
invariant-loop-k l = ArePlacedUpTo l.web.firsts.items l.order l.k l.all.items
