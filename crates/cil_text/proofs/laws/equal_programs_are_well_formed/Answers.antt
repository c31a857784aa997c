use Rattle.cil_text.proofs.WellFormedAlike.{well_formed_alike}
use Rattle.cil_text.proofs.laws.equal_programs_are_well_formed.Goals as goal

pub returns : goal.returns
returns c = well_formed_alike
