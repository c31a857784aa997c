-- Device: where a text goes: its bytes are counted, up to the greatest number that a u64 has, or kept, as many as there is room for.
use Rattle.std.specs.Prelude.{ℕ, ◌+◌, ◌-◌, ◌^◌, min, Bool, true, false, List, [], ◌∷◌, ◌++◌, length, take}
use Rattle.cil_tree.specs.Lines.{Token}
use Rattle.cil_printer.specs.Spaced.{spaced}
use Rattle.cil_printer.specs.declared.sink.Kept.{Kept}
use Rattle.cil_printer.specs.declared.sink.Kept.TheVariants.{Length, Text}

-- a number of bytes, or a room and the bytes that were kept
pub data Output : Type 0 where
  Counted : ℕ → Output
  Written : ℕ → List ℕ → Output

abbrev pub capped : ℕ → ℕ
capped n = min n (2 ^ 64 - 1)

-- bytes more; a room is a number of 64 bits
unfoldable pub put : Output → List ℕ → Output
put o [] = o
put (Counted n) (b ∷ bytes) = Counted (capped (n + length (b ∷ bytes)))
put (Written room text) (b ∷ bytes) = Written room (text ++ take (capped room - length text) (b ∷ bytes))

-- tokens more, each with a blank behind it
unfoldable pub puts : Output → List Token → Output
puts o tokens = put o (spaced tokens)

abbrev pub output_of : Kept → Output
output_of (Length n) = Counted n
output_of (Text page) = Written page.room page.bytes.items

abbrev pub counts : Output → Bool
counts (Counted n) = true
counts (Written room text) = false

-- the bytes that were kept
abbrev pub text_of : Output → List ℕ
text_of (Counted n) = []
text_of (Written room text) = text
