use Rattle.std.proofs.Common.{◌≡◌, drop, map}
use Rattle.type_graph.specs.Shapes.{shape}
use Rattle.cil_tree.specs.View.{item_of}
use Rattle.cil_tree.specs.Globals.{item_offset, are_rising}
use Rattle.cil_check.proofs.images.are_rising.Given as goal

abbrev pub invariant-loop-i : goal.invariant-loop-i
invariant-loop-i l = are_rising (map (item_offset l.g (shape l.g.nodes l.t.0)) (map item_of (drop l.i l.items))) ≡ are_rising (map (item_offset l.g (shape l.g.nodes l.t.0)) (map item_of l.items))
