use Rattle.cil_bodies.specs.Maps.{MapsExp}
use Rattle.cil_bodies.proofs.Replaced.{Replaced}
use Rattle.cil_bodies.proofs.statements.map_arguments.Given as goal

abbrev pub invariant-loop-i : goal.invariant-loop-i
invariant-loop-i l = Replaced (MapsExp l.m) l.i l.fn.arguments.items l.arguments.items
