use Rattle.std.proofs.Common.{sym}
use Rattle.type_graph.specs.Shapes.{shape}
use Rattle.cil_check.specs.Seen.{seen_scope}
use Rattle.cil_code.proofs.OperandLaws.{place_bytes}
use Rattle.cil_code.proofs.operands.bytes.Goals as goal

pub returns-in-Some : goal.returns-in-Some
returns-in-Some c = λ p u placed means type apart.
    place_bytes (seen_scope c.args.s.now.scope) c.args.s.now.entities.now p c.args.at (shape c.args.s.now.scope.unit.now.graph.nodes c.args.t.0) u c.in-Some.size placed means type apart (sym c.in-Some.ensures.size)
