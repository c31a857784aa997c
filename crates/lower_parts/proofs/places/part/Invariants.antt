use Rattle.std.proofs.Common.{◌≡◌, List, drop}
use Rattle.type_graph.specs.declared.nodes.Node.{Node}
use Rattle.cil_tree.specs.Tree as plain
use Rattle.cil_tree.specs.View.{lval_of}
use Rattle.cil_nodes.specs.Built.{part_of}
use Rattle.lower_parts.specs.Code.{offsets_on}
use Rattle.lower_parts.proofs.places.part.Given as goal

abbrev pub invariant-loop-step : goal.invariant-loop-step
invariant-loop-step l = (nodes : List Node) → part_of (lval_of nodes l.place) (offsets_on (drop l.step-index l.path)) ≡ plain.Place (plain.Var l.fn.n.0) (offsets_on l.path)
