use Rattle.std.proofs.Common.{map, ◌∙◌}
use Rattle.type_graph.specs.Shapes.{shape}
use Rattle.cil_tree.specs.View.{item_of}
use Rattle.cil_start.proofs.ObjectLaws.{begun_object, made_object}
use Rattle.cil_start.proofs.objects.make_object.Goals as goal

pub write_items-requires-clause-model : goal.write_items-requires-clause-model
write_items-requires-clause-model c = c.in_ok-make.ensures.1 ∙ c.requires.model

pub write_items-requires-clause-object : goal.write_items-requires-clause-object
write_items-requires-clause-object c =
    begun_object c.args.l.now.unit.now.graph (shape c.args.l.now.unit.now.graph.nodes c.args.t.0) c.size_of-size.result c.args.mem.now c.make.new.self c.args.e c.size_of-size.ensures c.in_ok-make.ensures

pub returns : goal.returns
returns c =
    made_object c.args.l.now.unit.now.graph c.args.l.now.entities.now (shape c.args.l.now.unit.now.graph.nodes c.args.t.0) c.size_of-size.result c.args.mem.now c.make.new.self c.write_items.new.mem c.args.e (map item_of c.args.items.now)
    c.size_of-size.ensures c.in_ok-make.ensures c.write_items.ensures
