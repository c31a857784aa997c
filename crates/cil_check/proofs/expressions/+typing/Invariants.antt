use Rattle.std.proofs.Common.{◌≡◌, ◌<◌, drop, length}
use Rattle.type_graph.specs.Shapes.{shape}
use Rattle.cil_tree.specs.Typing.{part_type, place_type}
use Rattle.cil_tree.specs.View.{offsets_of, lval_of}
use Rattle.cil_check.specs.Seen.{seen_scope}
use Rattle.cil_check.proofs.expressions.+typing.Given as goal

abbrev pub invariant-place_type-loop-offset : goal.invariant-place_type-loop-offset
invariant-place_type-loop-offset l =
    (l.t.0 < length l.s.unit.now.graph.nodes)
    × (part_type (seen_scope l.s) (offsets_of l.s.unit.now.graph.nodes (drop l.offset-index l.place.offsets.items)) (shape l.s.unit.now.graph.nodes l.t.0) ≡ place_type (seen_scope l.s) (lval_of l.s.unit.now.graph.nodes l.place))
