use Rattle.type_iso.specs.Standing.{AreLeast, StandUpTo}
use Rattle.type_things.specs.Webs.{things_of}
use Rattle.type_iso.proofs.merging.standing_for.Given as goal

abbrev pub invariant-loop-x : goal.invariant-loop-x
invariant-loop-x l = AreLeast l.classes → StandUpTo (things_of l.web) l.classes l.standing.items l.x
