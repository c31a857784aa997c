use Rattle.type_iso.specs.Places.{ArePlaces}
use Rattle.type_iso.proofs.merging.places.Given as goal

abbrev pub invariant-loop-x : goal.invariant-loop-x
invariant-loop-x l = ArePlaces l.web.firsts.items l.x l.all.items
