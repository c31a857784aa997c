use Rattle.std.proofs.Common.{◌≡◌, Some, map, length}
use Rattle.type_graph.specs.Shapes.{shape}
use Rattle.cil_tree.specs.View.{step_of}
use Rattle.cil_text.specs.ReadImages.{read_path}
use Rattle.cil_scan.specs.Said.{all_said}
use Rattle.cil_reader.specs.Settings.{env_in, type_in, TypeBelow}
use Rattle.cil_reader.specs.Images.{path_left}
use Rattle.cil_reader.proofs.images.read_path.Given as goal

abbrev pub invariant-loop-turns : goal.invariant-loop-turns
invariant-loop-turns l =
    TypeBelow (length l.r.graph.nodes) l.path.ty
    × (path_left (env_in l.r) l.turns l.path.ended (map step_of l.path.steps.items) (type_in l.r.graph.nodes l.path.ty) (all_said l.path.rest.now) ≡ read_path (env_in l.r) l.left (Some (shape l.r.graph.nodes l.fn.ty.0)) (all_said l.words))

abbrev pub decreases-loop-turns : goal.decreases-loop-turns
decreases-loop-turns l = l.turns
