use Rattle.execution.proofs.RunLaws.{spends_least}
use Rattle.c_semantics.specs.Units.{linkables}
use Rattle.c_semantics.proofs.UnitLaws.{units_tame}
use Rattle.c_semantics.proofs.laws.ended_runs_spend_their_least_bound.Goals as goal

pub returns : goal.returns
returns c = λ texts mode units words input. spends_least (linkables texts mode.abi units) (units_tame texts mode.abi units) mode words input
