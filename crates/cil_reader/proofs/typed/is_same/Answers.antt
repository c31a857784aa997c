use Rattle.type_graph.specs.Shapes.{shape}
use Rattle.cil_reader.proofs.SameLaws.{same_tested}
use Rattle.cil_reader.proofs.typed.is_same.Goals as goal

pub returns-clause-is : goal.returns-clause-is
returns-clause-is c = same_tested c.is_same.result (shape c.args.g.now.nodes c.args.a.0) (shape c.args.g.now.nodes c.args.b.0) c.is_same.ensures.same c.is_same.ensures.one
