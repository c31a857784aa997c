use Rattle.cil_check.specs.Seen.{seen_scope}
use Rattle.cil_code.proofs.OperandLaws.{computed_scalar, computed_other}
use Rattle.cil_code.proofs.operands.computed.Goals as goal

pub returns-in-Some-scalar_of : goal.returns-in-Some-scalar_of
returns-in-Some-scalar_of c = λ x is h. computed_scalar (seen_scope c.args.s.now.scope) c.args.s.now.entities.now x c.args.r c.in-Some.t c.in-Some-scalar_of.of is h c.in-Some.is c.in-Some-scalar_of.ensures

pub returns-in-None-scalar_of : goal.returns-in-None-scalar_of
returns-in-None-scalar_of c = λ x is h. computed_other (seen_scope c.args.s.now.scope) c.args.s.now.entities.now x c.args.r c.in-Some.t is h c.in-Some.is c.in-None-scalar_of.ensures
