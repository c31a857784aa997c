-- Device: laws of the kinds that the operators on values stand on.
use Rattle.std.proofs.Common.{pos, arith}
use Rattle.std.proofs.lemmas.Int.{ints}
use Rattle.cil_base.specs.declared.kinds.IntKind.{IntKind}
use Rattle.cil_base.specs.declared.kinds.IntKind.TheVariants.{Bool as Boolean, Char, SChar, UChar, Short, UShort, Int, UInt, Long, ULong, LLong, ULLong, Long4, ULong4}
use Rattle.cil_base.specs.Integer.{IsOf}

-- 0 is a value of each kind
pub zero_value : (kind : IntKind) → IsOf kind (pos 0)
zero_value Boolean = (omega (arith, ints), omega (arith, ints))
zero_value Char = (omega (arith, ints), omega (arith, ints))
zero_value SChar = (omega (arith, ints), omega (arith, ints))
zero_value UChar = (omega (arith, ints), omega (arith, ints))
zero_value Short = (omega (arith, ints), omega (arith, ints))
zero_value UShort = (omega (arith, ints), omega (arith, ints))
zero_value Int = (omega (arith, ints), omega (arith, ints))
zero_value UInt = (omega (arith, ints), omega (arith, ints))
zero_value Long = (omega (arith, ints), omega (arith, ints))
zero_value ULong = (omega (arith, ints), omega (arith, ints))
zero_value LLong = (omega (arith, ints), omega (arith, ints))
zero_value ULLong = (omega (arith, ints), omega (arith, ints))
zero_value Long4 = (omega (arith, ints), omega (arith, ints))
zero_value ULong4 = (omega (arith, ints), omega (arith, ints))
