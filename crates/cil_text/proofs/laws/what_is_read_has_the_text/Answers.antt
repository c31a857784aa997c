use Rattle.cil_text.proofs.ReadTexts.{read_has_text}
use Rattle.cil_text.proofs.laws.what_is_read_has_the_text.Goals as goal

pub returns : goal.returns
returns c = read_has_text
