-- Device: the laws of conversion: it gives a value of the kind, and keeps such a value.
use Rattle.std.proofs.Common.{◌≡◌, ℕ, ◌-◌, ◌*◌, ◌%◌, ◌^◌, ◌<◌, Bool, true, false, cond, ℤ, pos, negsuc, ◌-ℤ◌, ◌≤ℤ◌, ◌<ℤ◌, int_lt, ap, arith, lit<}
use Rattle.std.proofs.lemmas.Int.{ints}
use Rattle.std.proofs.Math.Nat.{mod-eq_of_lt}
use Rattle.std.proofs.lemmas.Nat.{mod_below}
use Rattle.std.specs.Ordering.{int_eq}
use Rattle.cil_base.specs.declared.kinds.IntKind.{IntKind}
use Rattle.cil_base.specs.declared.kinds.IntKind.TheVariants.{Bool as Boolean, Char, SChar, UChar, Short, UShort, Int, UInt, Long, ULong, LLong, ULLong, Long4, ULong4}
use Rattle.cil_base.specs.Integer.{IsOf, wrapped, truth, reduced, balanced}

reduced_bounds : (m : ℕ) (v : ℤ) → 0 < m → (pos 0 ≤ℤ reduced m v) × (reduced m v ≤ℤ pos (m - 1))
reduced_bounds m (pos a) h = let below : a % m < m = mod_below a m h in (omega (arith, ints), omega (arith, ints))
reduced_bounds m (negsuc a) h = let below : a % m < m = mod_below a m h in (omega (arith, ints), omega (arith, ints))

balanced_bounds : (half : ℕ) (v : ℤ) → 0 < half → ((pos 0 -ℤ pos half) ≤ℤ balanced half v) × (balanced half v ≤ℤ pos (half - 1))
balanced_bounds half v h = at (reduced (2 * half) v) (reduced_bounds (2 * half) v (omega arith)).0 (reduced_bounds (2 * half) v (omega arith)).1
  where
    at : (r : ℤ) → pos 0 ≤ℤ r → r ≤ℤ pos (2 * half - 1) → ((pos 0 -ℤ pos half) ≤ℤ cond (int_lt r (pos half)) r (r -ℤ pos (2 * half))) × (cond (int_lt r (pos half)) r (r -ℤ pos (2 * half)) ≤ℤ pos (half - 1))
    at r low high = (grind (arith, ints), grind (arith, ints))

truth_bounds : (v : ℤ) → (pos 0 ≤ℤ truth v) × (truth v ≤ℤ pos 1)
truth_bounds v = at (int_eq v (pos 0))
  where
    at : (b : Bool) → (pos 0 ≤ℤ cond b (pos 0) (pos 1)) × (cond b (pos 0) (pos 1) ≤ℤ pos 1)
    at true = (omega (arith, ints), omega (arith, ints))
    at false = (omega (arith, ints), omega (arith, ints))

-- a conversion gives a value of the kind
pub wrapped_value : (kind : IntKind) (v : ℤ) → IsOf kind (wrapped kind v)
wrapped_value Boolean v = truth_bounds v
wrapped_value Char v = balanced_bounds (2 ^ 7) v (lit< tt)
wrapped_value SChar v = balanced_bounds (2 ^ 7) v (lit< tt)
wrapped_value UChar v = reduced_bounds (2 ^ 8) v (lit< tt)
wrapped_value Short v = balanced_bounds (2 ^ 15) v (lit< tt)
wrapped_value UShort v = reduced_bounds (2 ^ 16) v (lit< tt)
wrapped_value Int v = balanced_bounds (2 ^ 31) v (lit< tt)
wrapped_value UInt v = reduced_bounds (2 ^ 32) v (lit< tt)
wrapped_value Long v = balanced_bounds (2 ^ 63) v (lit< tt)
wrapped_value ULong v = reduced_bounds (2 ^ 64) v (lit< tt)
wrapped_value LLong v = balanced_bounds (2 ^ 63) v (lit< tt)
wrapped_value ULLong v = reduced_bounds (2 ^ 64) v (lit< tt)
wrapped_value Long4 v = balanced_bounds (2 ^ 31) v (lit< tt)
wrapped_value ULong4 v = reduced_bounds (2 ^ 32) v (lit< tt)

reduced_same : (m : ℕ) (v : ℤ) → 0 < m → pos 0 ≤ℤ v → v ≤ℤ pos (m - 1) → reduced m v ≡ v
reduced_same m (pos a) h low high = ap pos (mod-eq_of_lt (omega (arith, ints)))
reduced_same m (negsuc a) h low high = absurd (omega (arith, ints))

balanced_same : (half : ℕ) (v : ℤ) → 0 < half → (pos 0 -ℤ pos half) ≤ℤ v → v ≤ℤ pos (half - 1) → balanced half v ≡ v
balanced_same half (pos a) h low high =
    let same : a % (2 * half) ≡ a = mod-eq_of_lt (omega (arith, ints)) in
    rw same (at (pos a) (omega (arith, ints)))
  where
    at : (r : ℤ) → r <ℤ pos half → cond (int_lt r (pos half)) r (r -ℤ pos (2 * half)) ≡ r
    at r below = grind (arith, ints)
balanced_same half (negsuc a) h low high =
    let same : a % (2 * half) ≡ a = mod-eq_of_lt (omega (arith, ints)) in
    rw same (at (pos (2 * half - 1 - a)) (omega (arith, ints)) (omega (arith, ints)))
  where
    at : (r : ℤ) → pos half ≤ℤ r → r -ℤ pos (2 * half) ≡ negsuc a → cond (int_lt r (pos half)) r (r -ℤ pos (2 * half)) ≡ negsuc a
    at r above is = grind (arith, ints)

truth_same : (v : ℤ) → pos 0 ≤ℤ v → v ≤ℤ pos 1 → truth v ≡ v
truth_same v low high = grind (arith, ints)

-- a conversion keeps a value of the kind
pub wrapped-IsOf : (kind : IntKind) (v : ℤ) → IsOf kind v → wrapped kind v ≡ v
wrapped-IsOf Boolean v h = truth_same v h.0 h.1
wrapped-IsOf Char v h = balanced_same (2 ^ 7) v (lit< tt) h.0 h.1
wrapped-IsOf SChar v h = balanced_same (2 ^ 7) v (lit< tt) h.0 h.1
wrapped-IsOf UChar v h = reduced_same (2 ^ 8) v (lit< tt) h.0 h.1
wrapped-IsOf Short v h = balanced_same (2 ^ 15) v (lit< tt) h.0 h.1
wrapped-IsOf UShort v h = reduced_same (2 ^ 16) v (lit< tt) h.0 h.1
wrapped-IsOf Int v h = balanced_same (2 ^ 31) v (lit< tt) h.0 h.1
wrapped-IsOf UInt v h = reduced_same (2 ^ 32) v (lit< tt) h.0 h.1
wrapped-IsOf Long v h = balanced_same (2 ^ 63) v (lit< tt) h.0 h.1
wrapped-IsOf ULong v h = reduced_same (2 ^ 64) v (lit< tt) h.0 h.1
wrapped-IsOf LLong v h = balanced_same (2 ^ 63) v (lit< tt) h.0 h.1
wrapped-IsOf ULLong v h = reduced_same (2 ^ 64) v (lit< tt) h.0 h.1
wrapped-IsOf Long4 v h = balanced_same (2 ^ 31) v (lit< tt) h.0 h.1
wrapped-IsOf ULong4 v h = reduced_same (2 ^ 32) v (lit< tt) h.0 h.1
