use Rattle.cil_semantics.proofs.Quiet.{statement_quiet}
use Rattle.cil_semantics.proofs.laws.jumps_within_are_followed.Goals as goal

pub returns : goal.returns
returns c = λ enter a x en s. statement_quiet a enter x en s
