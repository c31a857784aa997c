-- Device: the law of arithmetic that a result is a value of the kind.
use Rattle.std.proofs.Common.{◌≡◌, ℕ, zero, suc, ◌/◌, ◌%◌, ◌^◌, ◌≤◌, Bool, true, false, cond, ◌&&◌, Option, Some, None, IfSome, ℤ, pos, negsuc, ◌+ℤ◌, ◌-ℤ◌, ◌*ℤ◌, neg_ℤ, not, ◌≤ℤ◌, int_lt, int_le, int_div, int_rem, unsigned_abs, bit_and, bit_or, bit_xor, refl, arith}
use Rattle.std.proofs.lemmas.Int.{ints}
use Rattle.std.proofs.Math.Nat.{mod-le, div-le_self}
use Rattle.std.specs.Option.{option_map, option_and_then}
use Rattle.std.specs.Ordering.{int_eq}
use Rattle.cil_base.specs.declared.kinds.IntKind.{IntKind}
use Rattle.cil_base.specs.declared.kinds.IntKind.TheVariants.{Bool as Boolean, Char, SChar, UChar, Short, UShort, Int, UInt, Long, ULong, LLong, ULLong, Long4, ULong4}
use Rattle.cil_base.specs.declared.operators.BinOp.{BinOp}
use Rattle.cil_base.specs.declared.operators.BinOp.TheVariants.{Mul, Div, Rem, Add, Sub, Shl, Shr, Lt, Gt, Le, Ge, Eq, Ne, And, Xor, Or}
use Rattle.cil_base.specs.Integer.{IsOf, is_signed, least, greatest, wrapped}
use Rattle.cil_base.specs.Arithmetic.{arith_of, fits, settled, quotient, shift_count, left_shifted, right_shifted, told, bits_of}
use Rattle.cil_base.proofs.IntegerLaws.{wrapped_value}

-- 0 and 1 are values of each kind
zero_and_one : (kind : IntKind) → (least kind ≤ℤ pos 0) × (pos 1 ≤ℤ greatest kind)
zero_and_one Boolean = (omega (arith, ints), omega (arith, ints))
zero_and_one Char = (omega (arith, ints), omega (arith, ints))
zero_and_one SChar = (omega (arith, ints), omega (arith, ints))
zero_and_one UChar = (omega (arith, ints), omega (arith, ints))
zero_and_one Short = (omega (arith, ints), omega (arith, ints))
zero_and_one UShort = (omega (arith, ints), omega (arith, ints))
zero_and_one Int = (omega (arith, ints), omega (arith, ints))
zero_and_one UInt = (omega (arith, ints), omega (arith, ints))
zero_and_one Long = (omega (arith, ints), omega (arith, ints))
zero_and_one ULong = (omega (arith, ints), omega (arith, ints))
zero_and_one LLong = (omega (arith, ints), omega (arith, ints))
zero_and_one ULLong = (omega (arith, ints), omega (arith, ints))
zero_and_one Long4 = (omega (arith, ints), omega (arith, ints))
zero_and_one ULong4 = (omega (arith, ints), omega (arith, ints))

-- what lies between 0 and a value of a kind is one
between : (low high v r : ℤ) → low ≤ℤ pos 0 → pos 1 ≤ℤ high → low ≤ℤ v → v ≤ℤ high → (pos 0 ≤ℤ r) × (r ≤ℤ v) → (low ≤ℤ r) × (r ≤ℤ high)
between low high v r a b c d e = (omega (arith, ints), omega (arith, ints))

between_negative : (low high v r : ℤ) → low ≤ℤ pos 0 → pos 1 ≤ℤ high → low ≤ℤ v → v ≤ℤ high → (v ≤ℤ r) × (r ≤ℤ pos 0) → (low ≤ℤ r) × (r ≤ℤ high)
between_negative low high v r a b c d e = (omega (arith, ints), omega (arith, ints))

told_value : (kind : IntKind) (holds : Bool) → IsOf kind (told holds)
told_value kind true = let both = zero_and_one kind in (omega (arith, ints), both.1)
told_value kind false = let both = zero_and_one kind in (both.0, omega (arith, ints))

fits_value : (low high v : ℤ) → (int_le low v && int_le v high) ≡ true → (low ≤ℤ v) × (v ≤ℤ high)
fits_value low high v e = (grind (arith, ints), grind (arith, ints))

settled_value : (kind : IntKind) (v : ℤ) → IfSome (settled kind v) (IsOf kind)
settled_value kind v = at (is_signed kind) (fits kind v) refl
  where
    at : (s f : Bool) → fits kind v ≡ f → IfSome (cond s (cond f (Some v) None) (Some (wrapped kind v))) (IsOf kind)
    at true true e = fits_value (least kind) (greatest kind) v e
    at true false e = tt
    at false f e = wrapped_value kind v

within : (a m : ℕ) → m ≤ a → (pos 0 ≤ℤ pos m) × (pos m ≤ℤ pos a)
within a m h = (omega (arith, ints), omega (arith, ints))

within_negative : (a m : ℕ) → m ≤ suc a → (negsuc a ≤ℤ neg_ℤ (pos m)) × (neg_ℤ (pos m) ≤ℤ pos 0)
within_negative a zero h = (omega (arith, ints), omega (arith, ints))
within_negative a (suc m) h = (omega (arith, ints), omega (arith, ints))

remainder_value : (kind : IntKind) (a b : ℤ) → IsOf kind a → IsOf kind (int_rem a b)
remainder_value kind (pos a) b h =
    let both = zero_and_one kind in
    between (least kind) (greatest kind) (pos a) (int_rem (pos a) b) both.0 both.1 h.0 h.1 (within a (a % unsigned_abs b) (mod-le a (unsigned_abs b)))
remainder_value kind (negsuc a) b h =
    let both = zero_and_one kind in
    between_negative (least kind) (greatest kind) (negsuc a) (int_rem (negsuc a) b) both.0 both.1 h.0 h.1 (within_negative a (suc a % unsigned_abs b) (mod-le (suc a) (unsigned_abs b)))

right_value : (kind : IntKind) (a : ℤ) (n : ℕ) → IsOf kind a → IsOf kind (right_shifted a n)
right_value kind (pos a) n h =
    let both = zero_and_one kind in
    let low : a / 2 ^ n ≤ a = div-le_self a (2 ^ n) in
    between (least kind) (greatest kind) (pos a) (pos (a / 2 ^ n)) both.0 both.1 h.0 h.1 (omega (arith, ints), omega (arith, ints))
right_value kind (negsuc a) n h =
    let both = zero_and_one kind in
    let low : a / 2 ^ n ≤ a = div-le_self a (2 ^ n) in
    between_negative (least kind) (greatest kind) (negsuc a) (negsuc (a / 2 ^ n)) both.0 both.1 h.0 h.1 (omega (arith, ints), omega (arith, ints))

-- a value under a test is one where there is one
under_test : (kind : IntKind) (test : Bool) (o : Option ℤ) → IfSome o (IsOf kind) → IfSome (cond test None o) (IsOf kind)
under_test kind true o h = tt
under_test kind false o h = h

same_value : {X : Type 0} (kind : IntKind) (v : ℤ) (o : Option X) → IsOf kind v → IfSome (option_map (λ _. v) o) (IsOf kind)
same_value kind v None h = tt
same_value kind v (Some x) h = h

left_shift_value : (kind : IntKind) (a : ℤ) (n : Option ℕ) → IfSome (option_and_then (left_shifted kind a) n) (IsOf kind)
left_shift_value kind a None = tt
left_shift_value kind a (Some n) = under_test kind (int_lt a (pos 0)) (settled kind (a *ℤ pos (2 ^ n))) (settled_value kind (a *ℤ pos (2 ^ n)))

right_shift_value : (kind : IntKind) (a : ℤ) (n : Option ℕ) → IsOf kind a → IfSome (option_map (right_shifted a) n) (IsOf kind)
right_shift_value kind a None h = tt
right_shift_value kind a (Some n) h = right_value kind a n h

-- a result of arithmetic is a value of the kind
pub arith_value : (op : BinOp) (kind : IntKind) (a b : ℤ) → IsOf kind a → IfSome (arith_of op kind a b) (IsOf kind)
arith_value Mul kind a b h = settled_value kind (a *ℤ b)
arith_value Div kind a b h = under_test kind (int_eq b (pos 0)) (settled kind (int_div a b)) (settled_value kind (int_div a b))
arith_value Rem kind a b h = same_value kind (int_rem a b) (quotient kind a b) (remainder_value kind a b h)
arith_value Add kind a b h = settled_value kind (a +ℤ b)
arith_value Sub kind a b h = settled_value kind (a -ℤ b)
arith_value Shl kind a b h = left_shift_value kind a (shift_count kind b)
arith_value Shr kind a b h = right_shift_value kind a (shift_count kind b) h
arith_value Lt kind a b h = told_value kind (int_lt a b)
arith_value Gt kind a b h = told_value kind (int_lt b a)
arith_value Le kind a b h = told_value kind (int_le a b)
arith_value Ge kind a b h = told_value kind (int_le b a)
arith_value Eq kind a b h = told_value kind (int_eq a b)
arith_value Ne kind a b h = told_value kind (not (int_eq a b))
arith_value And kind a b h = wrapped_value kind (pos (bit_and (bits_of kind a) (bits_of kind b)))
arith_value Xor kind a b h = wrapped_value kind (pos (bit_xor (bits_of kind a) (bits_of kind b)))
arith_value Or kind a b h = wrapped_value kind (pos (bit_or (bits_of kind a) (bits_of kind b)))
