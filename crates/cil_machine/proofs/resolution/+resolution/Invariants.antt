-- Invariant: of the way of a place so much is left, from where the steps so far lead.
use Rattle.std.proofs.Common.{◌<◌, IfSome, drop, length}
use Rattle.cil_tree.specs.View.{offsets_of, lval_of}
use Rattle.cil_check.specs.Seen.{seen_scope}
use Rattle.cil_machine.specs.Typed.{IsOnWay}
use Rattle.cil_machine.proofs.resolution.+resolution.Given as goal

abbrev pub invariant-resolve_place-loop-offset : goal.invariant-resolve_place-loop-offset
invariant-resolve_place-loop-offset l =
    IfSome l.at.ty (λ t. t.0 < length l.s.scope.unit.now.graph.nodes)
    × IsOnWay (seen_scope l.s.scope) l.s.entities.now (lval_of l.s.scope.unit.now.graph.nodes l.place) (offsets_of l.s.scope.unit.now.graph.nodes (drop l.offset-index l.place.offsets.items)) l.at
