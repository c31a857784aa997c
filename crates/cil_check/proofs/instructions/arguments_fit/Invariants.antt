use Rattle.std.proofs.Common.{◌≡◌, ◌≤◌, drop, map, length}
use Rattle.type_graph.specs.Shapes.{shape, shapes_of}
use Rattle.cil_tree.specs.View.{exp_of}
use Rattle.cil_tree.specs.Bodies.{arguments_fit}
use Rattle.cil_check.specs.Seen.{seen_scope}
use Rattle.cil_check.proofs.instructions.arguments_fit.Given as goal

abbrev pub invariant-loop-i : goal.invariant-loop-i
invariant-loop-i l =
    (l.i ≤ length l.arguments)
    × (arguments_fit (seen_scope l.s) (shapes_of (shape l.s.unit.now.graph.nodes) (drop l.i l.params)) l.more (map (exp_of l.s.unit.now.graph.nodes) (drop l.i l.arguments)) ≡ arguments_fit (seen_scope l.s) (shapes_of (shape l.s.unit.now.graph.nodes) l.params) l.more (map (exp_of l.s.unit.now.graph.nodes) l.arguments))
