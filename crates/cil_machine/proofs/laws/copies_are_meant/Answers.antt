use Rattle.cil_machine.proofs.Assignments.{copies_are_meant}
use Rattle.cil_machine.proofs.laws.copies_are_meant.Goals as goal

pub returns : goal.returns
returns c = copies_are_meant
