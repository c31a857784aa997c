use Rattle.cil_bodies.specs.Maps.{MapsOffset}
use Rattle.cil_bodies.proofs.Replaced.{Replaced}
use Rattle.cil_bodies.proofs.expressions.+rewrite.Given as goal

abbrev pub invariant-map_offsets-loop-i : goal.invariant-map_offsets-loop-i
invariant-map_offsets-loop-i l = record { unvisited : goal.unvisited-map_offsets-loop-i l; replaced : Replaced (MapsOffset l.m) l.i l.fn.offsets.items l.offsets.items }
