-- Device: laws of the writing of equal bytes.
use Rattle.std.proofs.Common.{◌≡◌, ℕ, length, replicate}
use Rattle.std.proofs.lemmas.List.{length-replicate}
use Rattle.byte_mem.specs.declared.values.Byte.{Byte}

pub replicate_long : (n : ℕ) (b : Byte) → length (replicate n b) ≡ n
replicate_long n b = length-replicate n b
