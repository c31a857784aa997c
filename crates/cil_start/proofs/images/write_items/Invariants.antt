use Rattle.std.proofs.Common.{drop, map}
use Rattle.type_graph.specs.Shapes.{shape}
use Rattle.cil_tree.specs.View.{item_of}
use Rattle.cil_start.specs.Loads.{Writing}
use Rattle.cil_start.proofs.images.write_items.Given as goal

abbrev pub invariant-loop-i : goal.invariant-loop-i
invariant-loop-i l =
    Writing l.l.unit.now.graph l.l.entities.now (shape l.l.unit.now.graph.nodes l.t.0) l.e l.fn.mem (map item_of l.items) l.mem (map item_of (drop l.i l.items))
