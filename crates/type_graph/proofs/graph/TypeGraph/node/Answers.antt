use Rattle.std.proofs.Common.{◌≡◌, length, subst}
use Rattle.type_graph.specs.Shapes.{shape, shape_of}
use Rattle.type_graph.specs.Arena.{Graph, NamesBelow}
use Rattle.type_graph.proofs.ShapeLaws.{shape_is}
use Rattle.type_graph.proofs.graph.TypeGraph.node.Goals as goal

pub returns-clause-names : goal.returns-clause-names
returns-clause-names c = subst (λ (g : Graph). NamesBelow c.args.t.0 (length g.aggs) c.get.result.now) c.self.view_is (c.self.invariant.grounded c.args.t.0 c.get.result.now c.get.ensures)

pub returns-clause-shape : goal.returns-clause-shape
returns-clause-shape c =
    subst (λ (g : Graph). shape g.nodes c.args.t.0 ≡ shape_of (shape g.nodes) c.get.result.now) c.self.view_is
    (shape_is c.self.inside.nodes c.args.t.0 (length c.self.inside.aggs.items) c.get.result.now c.get.ensures (c.self.invariant.grounded c.args.t.0 c.get.result.now c.get.ensures))
