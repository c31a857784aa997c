use Rattle.cil_text.proofs.TypesThere.{needed_occur}
use Rattle.cil_text.proofs.laws.needed_types_occur.Goals as goal

pub returns : goal.returns
returns c = needed_occur
