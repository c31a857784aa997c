use Rattle.execution.specs.Linking.{linked, main_entity}
use Rattle.execution.proofs.LinkLaws.{linked_tame}
use Rattle.execution.proofs.RunLaws.{run_cuts}
use Rattle.c_semantics.specs.Units.{linkables}
use Rattle.c_semantics.proofs.UnitLaws.{units_tame}
use Rattle.c_semantics.proofs.laws.bounds_only_cut.Goals as goal

pub returns : goal.returns
returns c = λ texts mode units words input. run_cuts mode.abi (linked mode.common (linkables texts mode.abi units)) (linked_tame mode.common (linkables texts mode.abi units) (units_tame texts mode.abi units)) (main_entity (linkables texts mode.abi units)) words input
