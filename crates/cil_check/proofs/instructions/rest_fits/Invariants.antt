use Rattle.std.proofs.Common.{◌≡◌, drop, map}
use Rattle.type_graph.specs.Shapes.{NoTypes}
use Rattle.cil_tree.specs.View.{exp_of}
use Rattle.cil_tree.specs.Bodies.{arguments_fit}
use Rattle.cil_check.specs.Seen.{seen_scope}
use Rattle.cil_check.proofs.instructions.rest_fits.Given as goal

abbrev pub invariant-loop-i : goal.invariant-loop-i
invariant-loop-i l = arguments_fit (seen_scope l.s) NoTypes l.more (map (exp_of l.s.unit.now.graph.nodes) (drop l.i l.arguments)) ≡ arguments_fit (seen_scope l.s) NoTypes l.more (map (exp_of l.s.unit.now.graph.nodes) l.arguments)
