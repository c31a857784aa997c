use Rattle.std.proofs.Common.{sym, ap, ◌∙◌}
use Rattle.type_graph.specs.Shapes.{shape}
use Rattle.cil_check.specs.Seen.{seen_scope, seen_shape, told}
use Rattle.cil_code.proofs.OperandLaws.{place_scalar}
use Rattle.cil_code.proofs.operands.read_typed.Goals as goal

pub returns-in-Some-scalar_of : goal.returns-in-Some-scalar_of
returns-in-Some-scalar_of c = λ p placed means type.
    place_scalar (seen_scope c.args.s.now.scope) c.args.s.now.entities.now p c.args.at (shape c.args.s.now.scope.unit.now.graph.nodes c.args.t.0) (seen_shape c.args.s.now.scope.unit.now.graph c.in-Some.r) c.in-Some-scalar_of.of placed means
    (sym type ∙ ap (told c.args.s.now.scope.unit.now.graph) c.in-Some.is) (sym c.in-Some-scalar_of.ensures)
