use Rattle.std.proofs.Common.{◌≡◌, ◌<◌, drop, map, length, IfSome}
use Rattle.type_graph.specs.Shapes.{shape}
use Rattle.cil_tree.specs.View.{step_of}
use Rattle.cil_tree.specs.Globals.{agree}
use Rattle.cil_check.specs.Paths.{or_void}
use Rattle.cil_check.proofs.paths.agree.Given as goal

abbrev pub invariant-loop-i : goal.invariant-loop-i
invariant-loop-i l =
    IfSome l.place (λ t. t.0 < length l.g.nodes)
    × (agree l.g (or_void l.g l.place) (map step_of (drop l.i l.path)) (map step_of (drop l.i l.other)) ≡ agree l.g (shape l.g.nodes l.fn.t.0) (map step_of l.path) (map step_of l.other))
