use Rattle.std.proofs.Common.{rules, ◌≡◌, true, map}
use Rattle.std.specs.List.{list_all}
use Rattle.type_graph.specs.Shapes.{shape}
use Rattle.cil_tree.specs.View.{program_of, item_of}
use Rattle.cil_tree.specs.Globals.{item_fits, item_offset, are_rising}
use Rattle.cil_check.proofs.OrderLaws.{rise}
use Rattle.cil_check.proofs.images.image_fits.Goals as goal

pub unions_agree-requires-clause-rise : goal.unions_agree-requires-clause-rise
unions_agree-requires-clause-rise c =
    let fit : list_all (item_fits (program_of c.args.names.now c.args.u.now) (shape c.args.u.now.graph.nodes c.args.t.0)) (map item_of c.args.items.now) ≡ true = search rules in
    let rising : are_rising (map (item_offset c.args.u.now.graph (shape c.args.u.now.graph.nodes c.args.t.0)) (map item_of c.args.items.now)) ≡ true = search rules in
    rise (program_of c.args.names.now c.args.u.now) (shape c.args.u.now.graph.nodes c.args.t.0) (map item_of c.args.items.now) fit rising
