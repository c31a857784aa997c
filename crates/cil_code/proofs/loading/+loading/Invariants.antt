use Rattle.std.proofs.Common.{length, drop, slice_get}
use Rattle.cil_tree.specs.View.{stmts_of}
use Rattle.cil_check.specs.Seen.{seen_scope}
use Rattle.cil_control.specs.Flat.{steps_from}
use Rattle.cil_code.proofs.Loads.{Completes}
use Rattle.cil_code.proofs.loading.+loading.Given as goal

abbrev pub invariant-push_all-loop-i : goal.invariant-push_all-loop-i
invariant-push_all-loop-i l =
    Completes (seen_scope l.s.scope) l.s.entities.now (steps_from (slice_get l.labels) (length l.code.items) l.end (stmts_of l.s.scope.unit.now.graph.nodes (drop l.i l.stmts))) l.code.items
    (steps_from (slice_get l.labels) (length l.initial.code.items) l.end (stmts_of l.s.scope.unit.now.graph.nodes l.stmts)) l.initial.code.items
