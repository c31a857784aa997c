use Rattle.std.proofs.Common.{◌≡◌, drop}
use Rattle.type_graph.specs.Shapes.{shape, shapes_of}
use Rattle.cil_tree.specs.WellFormedTypes.{are_parameters}
use Rattle.cil_check.proofs.nodes.are_parameters.Given as goal

abbrev pub invariant-loop-i : goal.invariant-loop-i
invariant-loop-i l = are_parameters (shapes_of (shape l.g.nodes) (drop l.i l.params)) ≡ are_parameters (shapes_of (shape l.g.nodes) l.params)
