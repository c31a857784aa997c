use Rattle.cil_text.proofs.TextAlike.{equal_text}
use Rattle.cil_text.proofs.laws.equal_programs_have_one_text.Goals as goal

pub returns : goal.returns
returns c = equal_text
