use Rattle.cil_start.proofs.StartLaws.{model_of_none, model_of_first}
use Rattle.cil_start.proofs.starting.abi_of.Goals as goal

pub returns-in-None : goal.returns-in-None
returns-in-None c = λ names h. model_of_none names c.args.units.now _ c.in-None.ensures.value

pub returns-in-Some : goal.returns-in-Some
returns-in-Some c = λ names h. rw c.abi.ensures (model_of_first names c.args.units.now c.in-Some.u.now c.in-Some.ensures.value h)
