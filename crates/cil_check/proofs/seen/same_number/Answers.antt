use Rattle.type_graph.specs.Shapes.{shape}
use Rattle.cil_check.proofs.SeenLaws.{one_test}
use Rattle.cil_check.proofs.seen.same_number.Goals as goal

pub returns : goal.returns
returns c = one_test c.is_same.result (shape c.args.g.now.nodes c.args.s.0) (shape c.args.g.now.nodes c.args.t.0) c.is_same.ensures.same c.is_same.ensures.one
