-- Definition: integer arithmetic (C11 6.5.5 to 6.5.12 over operands of one kind, but for shifts), None exactly where the result is undefined. C11 promotes narrower operands first (6.3.1.1p2), so it is C's arithmetic at int and wider kinds; at narrower ones the same rules are own.
use Rattle.std.specs.Prelude.{ℕ, ◌^◌, ◌/◌, Bool, true, false, ◌&&◌, not, nat_lt, if◌then◌else◌, Option, Some, None, ℤ, pos, negsuc, ◌+ℤ◌, ◌-ℤ◌, ◌*ℤ◌, int_lt, int_le, int_div, int_rem, bit_and, bit_or, bit_xor, unsigned_abs}
use Rattle.std.specs.Option.{option_map, option_and_then}
use Rattle.std.specs.Ordering.{int_eq}
use Rattle.cil_base.specs.declared.kinds.IntKind.{IntKind}
use Rattle.cil_base.specs.declared.operators.BinOp.{BinOp}
use Rattle.cil_base.specs.declared.operators.BinOp.TheVariants.{Mul, Div, Rem, Add, Sub, Shl, Shr, Lt, Gt, Le, Ge, Eq, Ne, And, Xor, Or}
use Rattle.cil_base.specs.declared.operators.UnOp.{UnOp}
use Rattle.cil_base.specs.declared.operators.UnOp.TheVariants.{Neg, Compl, Not}
use Rattle.cil_base.specs.Integer.{width_of, is_signed, least, greatest, wrapped, reduced}

-- the kind has the number as a value
abbrev pub fits : IntKind → ℤ → Bool
fits kind v = int_le (least kind) v && int_le v (greatest kind)

-- what an operation gives whose mathematical result is v: unsigned arithmetic is modulo 2^w (C11 6.2.5p9),
-- and a signed result that its type has not is undefined (C11 6.5p5)
abbrev pub settled : IntKind → ℤ → Option ℤ
settled kind v = if is_signed kind then (if fits kind v then Some v else None) else Some (wrapped kind v)

-- C11 6.5.5p5, p6: a zero divisor is undefined; the quotient is truncated toward zero
abbrev pub quotient : IntKind → ℤ → ℤ → Option ℤ
quotient kind a b = if int_eq b (pos 0) then None else settled kind (int_div a b)

-- C11 6.5.5p6: a - (a / b) * b, and undefined where the quotient is
abbrev pub remainder : IntKind → ℤ → ℤ → Option ℤ
remainder kind a b = option_map (λ _. int_rem a b) (quotient kind a b)

-- C11 6.5.7p3: a shift by a negative count, or by at least the width of the left operand, is undefined
abbrev pub shift_count : IntKind → ℤ → Option ℕ
shift_count kind (pos n) = if nat_lt n (width_of kind) then Some n else None
shift_count kind (negsuc n) = None

-- C11 6.5.7p4: a times 2^n, and undefined for a negative a
abbrev pub left_shifted : IntKind → ℤ → ℕ → Option ℤ
left_shifted kind a n = if int_lt a (pos 0) then None else settled kind (a *ℤ pos (2 ^ n))

-- C11 6.5.7p5: the integral part of a / 2^n; of a negative a (own) the greatest integer that is not above a / 2^n
abbrev pub right_shifted : ℤ → ℕ → ℤ
right_shifted (pos a) n = pos (a / 2 ^ n)
right_shifted (negsuc a) n = negsuc (a / 2 ^ n)

-- C11 6.5.8p6, 6.5.9p3: 1 where the relation holds, else 0
abbrev pub told : Bool → ℤ
told holds = if holds then pos 1 else pos 0

-- the bits of a value of the kind, in two's complement (C11 6.2.6.2p2), as a natural number
abbrev pub bits_of : IntKind → ℤ → ℕ
bits_of kind v = unsigned_abs (reduced (2 ^ width_of kind) v)

-- C11 6.5.10 to 6.5.12: each bit of the result comes from the operands' bits at its place
abbrev pub bitwise : (ℕ → ℕ → ℕ) → IntKind → ℤ → ℤ → ℤ
bitwise by kind a b = wrapped kind (pos (by (bits_of kind a) (bits_of kind b)))

-- the value of `a op b` where a and b are values of the kind (of a shift, b of any kind), None where it is undefined
abbrev pub arith_of : BinOp → IntKind → ℤ → ℤ → Option ℤ
arith_of Mul kind a b = settled kind (a *ℤ b)
arith_of Div kind a b = quotient kind a b
arith_of Rem kind a b = remainder kind a b
arith_of Add kind a b = settled kind (a +ℤ b)
arith_of Sub kind a b = settled kind (a -ℤ b)
arith_of Shl kind a b = option_and_then (left_shifted kind a) (shift_count kind b)
arith_of Shr kind a b = option_map (right_shifted a) (shift_count kind b)
arith_of Lt kind a b = Some (told (int_lt a b))
arith_of Gt kind a b = Some (told (int_lt b a))
arith_of Le kind a b = Some (told (int_le a b))
arith_of Ge kind a b = Some (told (int_le b a))
arith_of Eq kind a b = Some (told (int_eq a b))
arith_of Ne kind a b = Some (told (not (int_eq a b)))
arith_of And kind a b = Some (bitwise bit_and kind a b)
arith_of Xor kind a b = Some (bitwise bit_xor kind a b)
arith_of Or kind a b = Some (bitwise bit_or kind a b)

-- a shift takes a right operand of any kind (C11 6.5.7p3)
abbrev pub is_shift : BinOp → Bool
is_shift Shl = true
is_shift Shr = true
is_shift _ = false

-- the value of `op v` where v is a value of the kind (C11 6.5.3.3p3 to p5), None where it is undefined
abbrev pub unary_of : UnOp → IntKind → ℤ → Option ℤ
unary_of Neg kind v = arith_of Sub kind (pos 0) v
unary_of Compl kind v = Some (wrapped kind (negsuc 0 -ℤ v))
unary_of Not kind v = Some (told (int_eq v (pos 0)))
