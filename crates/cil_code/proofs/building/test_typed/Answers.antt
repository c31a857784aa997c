use Rattle.cil_check.specs.Seen.{seen_scope}
use Rattle.cil_code.proofs.StepTypings.{test_scalar}
use Rattle.cil_code.proofs.building.test_typed.Goals as goal

pub returns-in-Some-scalar_of : goal.returns-in-Some-scalar_of
returns-in-Some-scalar_of c = λ x is. test_scalar (seen_scope c.args.s.now.scope) c.args.s.now.entities.now x c.args.r c.in-Some.t c.in-Some-scalar_of.of c.args.fails is c.in-Some.is c.in-Some-scalar_of.ensures
