use Rattle.std.specs.Prelude.{map}
use Rattle.execution.specs.Linking.{linked}
use Rattle.execution.proofs.CallLaws.{calls_are}
use Rattle.execution.proofs.LinkLaws.{linked_tame}
use Rattle.cil_semantics.specs.Runs.{linkables}
use Rattle.cil_semantics.proofs.ProgramLaws.{programs_tame}
use Rattle.cil_semantics.proofs.laws.calls_are_their_step.Goals as goal

pub returns : goal.returns
returns c = λ common programs. calls_are (linked common (map linkables programs)) (linked_tame common (map linkables programs) (programs_tame programs))
