use Rattle.execution.specs.Linking.{linked, main_entity}
use Rattle.execution.proofs.LinkLaws.{linked_tame}
use Rattle.execution.proofs.RunLaws.{run_cuts}
use Rattle.execution.proofs.laws.bounds_only_cut.Goals as goal

pub returns : goal.returns
returns c = λ units h mode words input. run_cuts mode.abi (linked mode.common units) (linked_tame mode.common units h) (main_entity units) words input
