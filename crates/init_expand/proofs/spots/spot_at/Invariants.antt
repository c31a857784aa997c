use Rattle.std.proofs.Common.{◌≡◌, drop, map}
use Rattle.type_graph.specs.Shapes.{shape}
use Rattle.cil_tree.specs.View.{step_of}
use Rattle.cil_tree.specs.Globals.{path_part}
use Rattle.init_expand.specs.Spots.{part_of}
use Rattle.init_expand.proofs.spots.spot_at.Given as goal

abbrev pub invariant-loop-step : goal.invariant-loop-step
invariant-loop-step l = path_part l.types (map step_of l.path) (shape l.types.nodes l.fn.t.0, 0) ≡ path_part l.types (map step_of (drop l.step-index l.path)) (part_of l.types l.at)
