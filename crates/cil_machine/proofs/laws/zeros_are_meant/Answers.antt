use Rattle.cil_machine.proofs.Assignments.{zeros_are_meant}
use Rattle.cil_machine.proofs.laws.zeros_are_meant.Goals as goal

pub returns : goal.returns
returns c = zeros_are_meant
