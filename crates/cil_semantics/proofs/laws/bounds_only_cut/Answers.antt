use Rattle.std.specs.Prelude.{map}
use Rattle.execution.specs.Linking.{linked, main_entity}
use Rattle.execution.proofs.LinkLaws.{linked_tame}
use Rattle.execution.proofs.RunLaws.{run_cuts}
use Rattle.cil_semantics.specs.Runs.{linkables}
use Rattle.cil_semantics.proofs.ProgramLaws.{programs_tame}
use Rattle.cil_semantics.proofs.laws.bounds_only_cut.Goals as goal

pub returns : goal.returns
returns c = λ programs mode words input. run_cuts mode.abi (linked mode.common (map linkables programs)) (linked_tame mode.common (map linkables programs) (programs_tame programs)) (main_entity (map linkables programs)) words input
