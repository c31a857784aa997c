use Rattle.std.proofs.Common.{◌≡◌, ℕ, Some, slice_get}
use Rattle.type_iso.proofs.merging.no_numbers.Given as goal

abbrev pub invariant-loop-a : goal.invariant-loop-a
invariant-loop-a l = (i n : ℕ) → slice_get l.numbers.items i ≡ Some (Some n) → ⊥
