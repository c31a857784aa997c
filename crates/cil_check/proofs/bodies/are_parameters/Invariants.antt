use Rattle.std.proofs.Common.{◌≡◌, ◌≤◌, drop, length, map}
use Rattle.type_graph.specs.Shapes.{shape, shapes_of}
use Rattle.cil_tree.specs.View.{text_at, local_of}
use Rattle.cil_tree.specs.Bodies.{parameters_fit}
use Rattle.cil_check.proofs.bodies.are_parameters.Given as goal

abbrev pub invariant-loop-i : goal.invariant-loop-i
invariant-loop-i l =
    (l.i ≤ length l.names) × (l.i ≤ length l.locals)
    × (parameters_fit (shapes_of (shape l.s.unit.now.graph.nodes) (drop l.i l.params)) (map (text_at l.s.names.now) (drop l.i l.names)) (map (local_of l.s.unit.now.graph.nodes l.s.names.now) (drop l.i l.locals))
    ≡ parameters_fit (shapes_of (shape l.s.unit.now.graph.nodes) l.params) (map (text_at l.s.names.now) l.names) (map (local_of l.s.unit.now.graph.nodes l.s.names.now) l.locals))
