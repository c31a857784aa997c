use Rattle.type_iso.specs.Standing.{AllUpTo}
use Rattle.type_things.specs.Webs.{things_of}
use Rattle.type_iso.proofs.merging.all_standing.Given as goal

abbrev pub invariant-loop-x : goal.invariant-loop-x
invariant-loop-x l = AllUpTo (things_of l.web) l.classes l.standing.items l.all.items l.x
