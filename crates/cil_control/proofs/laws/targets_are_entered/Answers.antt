use Rattle.cil_control.proofs.Entries.{enters}
use Rattle.cil_control.proofs.laws.targets_are_entered.Goals as goal

pub returns : goal.returns
returns c = enters
