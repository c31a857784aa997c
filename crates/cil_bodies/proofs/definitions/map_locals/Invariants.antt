use Rattle.cil_bodies.specs.Maps.{MapsLocal}
use Rattle.cil_bodies.proofs.Replaced.{Replaced}
use Rattle.cil_bodies.proofs.definitions.map_locals.Given as goal

abbrev pub invariant-loop-i : goal.invariant-loop-i
invariant-loop-i l = Replaced (MapsLocal l.m) l.i l.fn.locals.items l.locals.items
