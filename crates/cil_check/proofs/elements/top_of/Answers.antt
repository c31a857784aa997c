use Rattle.std.proofs.Common.{sym, subst}
use Rattle.type_graph.specs.declared.nodes.Node.{Node}
use Rattle.type_graph.specs.Shapes.{shape, shape_of}
use Rattle.cil_check.specs.Rules.{IsTop}
use Rattle.cil_check.proofs.elements.top_of.Goals as goal

pub returns-in-Array : goal.returns-in-Array
returns-in-Array c = subst (λ (n : Node). IsTop c.args.g.now c.array_top.result (shape_of (shape c.args.g.now.nodes) n)) (sym c.in-Array.is)
    (c.array_top.ensures c.args.g.now c.in-Array.q.quals (shape c.args.g.now.nodes c.in-Array.q.of.0) c.entry-in-Array.ensures)
