use Rattle.cil_bodies.specs.Maps.{MapsStmt}
use Rattle.cil_bodies.proofs.Replaced.{Replaced}
use Rattle.cil_bodies.proofs.statements.+statements.Given as goal

abbrev pub invariant-map_stmts-loop-i : goal.invariant-map_stmts-loop-i
invariant-map_stmts-loop-i l = record { unvisited : goal.unvisited-map_stmts-loop-i l; replaced : Replaced (MapsStmt l.m) l.i l.fn.all.items l.all.items }
