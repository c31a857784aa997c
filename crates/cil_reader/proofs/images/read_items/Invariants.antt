use Rattle.std.proofs.Common.{◌≡◌, ◌-◌, Some, map}
use Rattle.std.specs.Option.{option_map}
use Rattle.type_graph.specs.Shapes.{shape}
use Rattle.cil_tree.specs.View.{item_of}
use Rattle.cil_text.specs.ReadImages.{read_items}
use Rattle.cil_scan.specs.Said.{all_said}
use Rattle.cil_reader.specs.Settings.{Onward, env_in}
use Rattle.cil_reader.specs.Images.{items_behind}
use Rattle.cil_reader.proofs.images.read_items.Given as goal

abbrev pub invariant-loop-step : goal.invariant-loop-step
invariant-loop-step l =
    Onward l.fn.r l.r
    × (option_map (items_behind (map item_of l.items.all.items)) (read_items (env_in l.fn.r) l.left (l.left - l.step) (Some (shape l.fn.r.graph.nodes l.ty.0)) (all_said l.items.rest.now))
    ≡ read_items (env_in l.fn.r) l.left l.left (Some (shape l.fn.r.graph.nodes l.ty.0)) (all_said l.words))
    × (l.r.graph.nodes ≡ l.fn.r.graph.nodes)
