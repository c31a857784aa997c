use Rattle.std.proofs.Common.{◌≡◌, drop, max}
use Rattle.type_graph.specs.Shapes.{shape, shapes_of}
use Rattle.cil_check.specs.Rules.{elements_top}
use Rattle.cil_check.proofs.elements.parameters_top.Given as goal

abbrev pub invariant-loop-i : goal.invariant-loop-i
invariant-loop-i l = max l.top (elements_top (shapes_of (shape l.g.nodes) (drop l.i l.params))) ≡ elements_top (shapes_of (shape l.g.nodes) l.params)
