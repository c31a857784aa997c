use Rattle.execution.specs.Linking.{linked}
use Rattle.execution.proofs.CallLaws.{calls_are}
use Rattle.execution.proofs.LinkLaws.{linked_tame}
use Rattle.c_semantics.specs.Units.{linkables}
use Rattle.c_semantics.proofs.UnitLaws.{units_tame}
use Rattle.c_semantics.proofs.laws.calls_are_their_step.Goals as goal

pub returns : goal.returns
returns c = λ texts mode units. calls_are (linked mode.common (linkables texts mode.abi units)) (linked_tame mode.common (linkables texts mode.abi units) (units_tame texts mode.abi units))
