use Rattle.cil_control.proofs.Entries.{starts}
use Rattle.cil_control.proofs.laws.starts_are_first.Goals as goal

pub returns : goal.returns
returns c = starts
