use Rattle.std.specs.Prelude.{map}
use Rattle.execution.proofs.RunLaws.{spends_least}
use Rattle.cil_semantics.specs.Runs.{linkables}
use Rattle.cil_semantics.proofs.ProgramLaws.{programs_tame}
use Rattle.cil_semantics.proofs.laws.ended_runs_spend_their_least_bound.Goals as goal

pub returns : goal.returns
returns c = λ programs. spends_least (map linkables programs) (programs_tame programs)
