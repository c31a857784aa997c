use Rattle.std.proofs.Common.{arith}
use Rattle.cil_text.proofs.OneText.{text_back}
use Rattle.cil_text.proofs.EnoughWhole.{enough}
use Rattle.cil_text.proofs.laws.text_is_read.Goals as goal

pub returns : goal.returns
returns c p n is low = text_back p n is (omega (arith, enough p is, low))
