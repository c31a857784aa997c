use Rattle.cil_text.proofs.OneText.{same_text}
use Rattle.cil_text.proofs.laws.one_text.Goals as goal

pub returns : goal.returns
returns c = same_text
