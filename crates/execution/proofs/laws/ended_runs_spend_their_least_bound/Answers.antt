use Rattle.execution.proofs.RunLaws.{spends_least}
use Rattle.execution.proofs.laws.ended_runs_spend_their_least_bound.Goals as goal

pub returns : goal.returns
returns c = spends_least
