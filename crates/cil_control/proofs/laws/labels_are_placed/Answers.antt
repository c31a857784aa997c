use Rattle.cil_control.proofs.Labels.{labels_are}
use Rattle.cil_control.proofs.laws.labels_are_placed.Goals as goal

pub returns : goal.returns
returns c = labels_are
