use Rattle.std.proofs.Common.{◌≡◌, drop, map}
use Rattle.std.specs.List.{list_all}
use Rattle.type_graph.specs.Shapes.{shape}
use Rattle.cil_tree.specs.View.{program_of, item_of}
use Rattle.cil_tree.specs.Globals.{item_fits}
use Rattle.cil_check.proofs.images.items_fit.Given as goal

abbrev pub invariant-loop-i : goal.invariant-loop-i
invariant-loop-i l = list_all (item_fits (program_of l.names l.u) (shape l.u.graph.nodes l.t.0)) (map item_of (drop l.i l.items)) ≡ list_all (item_fits (program_of l.names l.u) (shape l.u.graph.nodes l.t.0)) (map item_of l.items)
