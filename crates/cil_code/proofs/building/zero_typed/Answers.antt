use Rattle.cil_check.specs.Seen.{seen_scope}
use Rattle.cil_code.proofs.StepTypings.{zero_sized}
use Rattle.cil_code.proofs.building.zero_typed.Goals as goal

pub returns-in-Some-size_of : goal.returns-in-Some-size_of
returns-in-Some-size_of c = λ p is. zero_sized (seen_scope c.args.s.now.scope) c.args.s.now.entities.now p c.args.at c.in-Some.t c.in-Some-size_of.size is c.in-Some.is c.in-Some-size_of.ensures.size
