use Rattle.execution.proofs.CallLaws.{calls_are}
use Rattle.execution.proofs.laws.calls_are_their_step.Goals as goal

pub returns : goal.returns
returns c = calls_are
