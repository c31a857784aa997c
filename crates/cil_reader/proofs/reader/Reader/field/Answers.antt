use Rattle.std.proofs.Common.{◌≡◌, Some, rules, ap, ◌∙◌}
use Rattle.type_graph.specs.declared.nodes.Node.TheVariants.{Agg}
use Rattle.type_graph.specs.Shapes.{AggType, shape, shape_of}
use Rattle.cil_reader.proofs.SettingsLaws.{field_number, field_typed, field_below}
use Rattle.cil_reader.proofs.reader.Reader.field.Goals as goal

pub returns-in-Agg-clause-found : goal.returns-in-Agg-clause-found
returns-in-Agg-clause-found c =
    let some : c.args.t ≡ Some c.in_ok-t.field-0 = search rules in
    let node : c.node.result.now ≡ Agg c.in-Agg.a = search rules in
    let agg : shape c.self.inside.graph.nodes c.in_ok-t.field-0.0 ≡ AggType c.in-Agg.a.0 = c.node.ensures.shape ∙ ap (shape_of (shape c.self.inside.graph.nodes)) node in
    field_number c.self.inside.graph c.self.inside.known c.args.self.now c.args.name.now c.args.t c.in_ok-t.field-0 c.in-Agg.a.0 c.find_member.result c.self.view_is some agg c.find_member.ensures

pub returns-in-Agg-clause-typed : goal.returns-in-Agg-clause-typed
returns-in-Agg-clause-typed c =
    let some : c.args.t ≡ Some c.in_ok-t.field-0 = search rules in
    let node : c.node.result.now ≡ Agg c.in-Agg.a = search rules in
    let agg : shape c.self.inside.graph.nodes c.in_ok-t.field-0.0 ≡ AggType c.in-Agg.a.0 = c.node.ensures.shape ∙ ap (shape_of (shape c.self.inside.graph.nodes)) node in
    field_typed c.self.inside.graph c.self.inside.known c.args.self.now c.args.name.now c.args.t c.in_ok-t.field-0 c.in-Agg.a.0 c.find_member.result c.self.view_is some agg c.find_member.ensures

pub returns-in-Agg-clause-below : goal.returns-in-Agg-clause-below
returns-in-Agg-clause-below c = field_below c.self.inside.graph c.self.inside.known c.args.self.now c.args.name.now c.in-Agg.a.0 c.find_member.result c.self.view_is c.self.invariant c.find_member.ensures
