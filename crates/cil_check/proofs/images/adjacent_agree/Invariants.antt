use Rattle.std.proofs.Common.{◌≡◌, drop, map}
use Rattle.type_graph.specs.Shapes.{shape}
use Rattle.cil_tree.specs.View.{item_of}
use Rattle.cil_check.specs.Paths.{adjacent_agree}
use Rattle.cil_check.proofs.images.adjacent_agree.Given as goal

abbrev pub invariant-loop-i : goal.invariant-loop-i
invariant-loop-i l = adjacent_agree l.g (shape l.g.nodes l.t.0) (map item_of (drop l.i l.items)) ≡ adjacent_agree l.g (shape l.g.nodes l.t.0) (map item_of l.items)
