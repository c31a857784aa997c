use Rattle.cil_machine.proofs.Assignments.{sets_are_meant}
use Rattle.cil_machine.proofs.laws.sets_are_meant.Goals as goal

pub returns : goal.returns
returns c = sets_are_meant
