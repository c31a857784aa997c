use Rattle.std.proofs.Common.{◌≡◌, drop}
use Rattle.cil_link.specs.Units.{units_in}
use Rattle.cil_link.specs.MainGlobals.{main_among}
use Rattle.cil_link.proofs.mains.main_entity.Given as goal

abbrev pub invariant-loop-k : goal.invariant-loop-k
invariant-loop-k l = main_among (drop l.k (units_in l.l)) ≡ main_among (units_in l.l)
