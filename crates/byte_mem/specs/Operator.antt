-- Definition: what C computes from scalar values (C11 6.3.1, 6.3.2.3, 6.5.2.1, 6.5.2.3, 6.5.3, 6.5.6, 6.5.8, 6.5.9, 6.8.4.1), None where it is undefined.
use Rattle.std.specs.Prelude.{ℕ, Bool, true, false, ◌&&◌, ◌||◌, not, nat_eq, nat_le, if◌then◌else◌, length, Option, Some, None, option_map, ℤ, pos, negsuc, neg_ℤ, ◌+ℤ◌, ◌-ℤ◌, ◌*ℤ◌, int_lt, int_le, int_div, int_rem, unsigned_abs, ◌≤◌, ◌^◌}
use Rattle.std.specs.Ordering.{int_eq}
use Rattle.cil_base.specs.declared.kinds.Abi.{Abi}
use Rattle.cil_base.specs.declared.kinds.IntKind.{IntKind}
use Rattle.cil_base.specs.declared.operators.BinOp.{BinOp}
use Rattle.cil_base.specs.declared.operators.BinOp.TheVariants.{Lt, Gt, Le, Ge, Eq, Ne}
use Rattle.cil_base.specs.declared.operators.UnOp.{UnOp}
use Rattle.cil_base.specs.Integer.{wrapped, long_of, pointer_size_of}
use Rattle.cil_base.specs.Arithmetic.{arith_of, fits, unary_of}
use Rattle.byte_mem.specs.declared.pointers.Pointer.{Pointer}
use Rattle.byte_mem.specs.declared.values.Scalar.{Scalar}
use Rattle.byte_mem.specs.declared.values.Scalar.TheVariants.{Int as OfKind, Ptr as OfPointer}
use Rattle.byte_mem.specs.declared.values.Value.{Value}
use Rattle.byte_mem.specs.declared.values.Value.TheVariants.{Int, Ptr, Unknown, Part}
use Rattle.byte_mem.specs.Steps.{◌>>=◌, only_if}
use Rattle.byte_mem.specs.Name.{same_name}
use Rattle.byte_mem.specs.Scalar.{kind_of, scalar_size, is_boolean}
use Rattle.byte_mem.specs.Object.{Held}
use Rattle.byte_mem.specs.Memory.{Memory, load}

abbrev pub is_boolean_scalar : Scalar → Bool
is_boolean_scalar (OfKind kind) = is_boolean kind
is_boolean_scalar OfPointer = false

-- C11 6.3.2.3p6 (own): a pointer stays what it is in a type of its size, is 1 as _Bool, and else has no value
abbrev pub converted_pointer : Abi → Scalar → Pointer → Value
converted_pointer abi s p = if is_boolean_scalar s then Int (pos 1) else (if nat_eq (scalar_size abi s) (pointer_size_of abi) then Ptr p else Unknown)

-- own: a part stays what it is in a type of one byte other than _Bool, and else has no value
abbrev pub converted_part : Abi → Scalar → Pointer → ℕ → Value
converted_part abi s p k = if is_boolean_scalar s then Unknown else (if nat_eq (scalar_size abi s) 1 then Part p k else Unknown)

-- the value converted to the scalar's type (C11 6.3.1.2, 6.3.1.3; 6.3.2.3p5 for a number converted to a pointer, own)
abbrev pub converted : Abi → Scalar → Value → Value
converted abi s (Int v) = Int (wrapped (kind_of abi s) v)
converted abi s (Ptr p) = converted_pointer abi s p
converted abi s Unknown = Unknown
converted abi s (Part p k) = converted_part abi s p k

-- the number that an operand of an operator has (own: a pointer in an integer type, a part and Unknown have none)
abbrev pub number_in : Value → Option ℤ
number_in (Int v) = Some v
number_in (Ptr p) = None
number_in Unknown = None
number_in (Part p k) = None

-- the number that is stored as the value of an integer type (C11 6.3.2.1p2)
abbrev pub load_number : Abi → Memory → Pointer → IntKind → Option ℤ
load_number abi m p kind = load abi m p (OfKind kind) >>= number_in

-- the pointer that an operand of an operator is (own: a number is none)
abbrev pub pointer_in : Value → Option Pointer
pointer_in (Int v) = None
pointer_in (Ptr p) = Some p
pointer_in Unknown = None
pointer_in (Part p k) = None

-- C11 6.5.3.2p4: the place that `* v` designates; it is a value, and life, room and alignment are asked where it is used
abbrev pub place_of : Value → Option Value
place_of (Int v) = Some (Int v)
place_of (Ptr p) = Some (Ptr p)
place_of Unknown = None
place_of (Part p k) = None

-- C11 6.5.6p8: an offset lies in the object or one past its last byte
abbrev pub in_reach : ℤ → ℕ → Bool
in_reach (pos i) size = nat_le i size
in_reach (negsuc i) size = false

-- what a pointer leads to that an operator may use: it is live, and the offset lies in it or one past its end
abbrev pub reached : Memory → Pointer → Option Held
reached m p = m p.name >>= λ h. only_if (in_reach p.offset (length h.bytes)) h

-- C11 6.8.4.1p2, 6.5.3.3p5: a test of a value is whether it compares unequal to 0
abbrev pub truth : Memory → Scalar → Value → Option Bool
truth m s (Int v) = Some (not (int_eq v (pos 0)))
truth m OfPointer (Ptr p) = reached m p >>= λ h. Some true
truth m (OfKind kind) (Ptr p) = None
truth m s Unknown = None
truth m s (Part p k) = None

-- one past the last byte of an object (C11 6.5.6p8); a function has no such place
abbrev pub is_past_end : Held → ℤ → Bool
is_past_end h offset = not h.function && int_eq offset (pos (length h.bytes))

-- C11 6.5.9p6; own: a place one past the end is not compared with another object's
abbrev pub equal_pointers : Memory → Pointer → Pointer → Option Bool
equal_pointers m p q =
    reached m p >>= λ h. reached m q >>= λ k.
    (if same_name p.name q.name then Some (int_eq p.offset q.offset) else only_if (not (is_past_end h p.offset || is_past_end k q.offset)) false)

-- C11 6.3.2.3p3: null is unequal to a pointer; own: another number is not compared with one
abbrev pub equal_null : Memory → ℤ → Pointer → Option Bool
equal_null m v p = only_if (int_eq v (pos 0)) false >>= λ equal. reached m p >>= λ h. Some equal

-- whether two values of pointer types are equal (C11 6.5.9p5, p6)
abbrev pub equal : Memory → Value → Value → Option Bool
equal m (Int v) (Int w) = Some (int_eq v w)
equal m (Int v) (Ptr q) = equal_null m v q
equal m (Ptr p) (Int w) = equal_null m w p
equal m (Ptr p) (Ptr q) = equal_pointers m p q
equal m v w = None

-- the offsets of two pointers into one object, for an order or a difference (C11 6.5.8p5, 6.5.6p9)
abbrev pub offsets_in : Memory → Pointer → Pointer → Option (ℤ × ℤ)
offsets_in m p q = reached m p >>= λ h. reached m q >>= λ k. only_if (same_name p.name q.name) (p.offset, q.offset)

abbrev pub offsets : Memory → Value → Value → Option (ℤ × ℤ)
offsets m v w = pointer_in v >>= λ p. pointer_in w >>= λ q. offsets_in m p q

abbrev pub ordered : Memory → (ℤ → ℤ → Bool) → Value → Value → Option Bool
ordered m holds v w = option_map (λ o. holds o.0 o.1) (offsets m v w)

-- a comparison of two values of pointer types; other operators compare nothing
abbrev pub compared : Memory → BinOp → Value → Value → Option Bool
compared m Eq v w = equal m v w
compared m Ne v w = option_map not (equal m v w)
compared m Lt v w = ordered m int_lt v w
compared m Gt v w = ordered m (λ a b. int_lt b a) v w
compared m Le v w = ordered m int_le v w
compared m Ge v w = ordered m (λ a b. int_le b a) v w
compared m op v w = None

-- the pointer that many bytes further (C11 6.5.6p8): both lie in one object or one past its end
abbrev pub further_pointer : Memory → Pointer → ℤ → Option Value
further_pointer m p count =
    reached m p >>= λ h. only_if (in_reach (p.offset +ℤ count) (length h.bytes)) (Ptr (record { name = p.name; offset = p.offset +ℤ count }))

abbrev pub further : Memory → Value → ℤ → Option Value
further m v count = pointer_in v >>= λ p. further_pointer m p count

-- an operand that is a number is in the range of the integer types (C11 5.2.4.2.1)
abbrev pub IsIndex : Value → Type 0
IsIndex (Int v) = unsigned_abs v ≤ 2 ^ 64
IsIndex (Ptr p) = Unit {0}
IsIndex Unknown = Unit {0}
IsIndex (Part p k) = Unit {0}

-- a pointer and an integer added (C11 6.5.6p8), where the elements have that size
abbrev pub pointer_sum : Memory → Value → Value → ℕ → Option Value
pointer_sum m v i size = number_in i >>= λ n. further m v (n *ℤ pos size)

-- an integer subtracted from a pointer (C11 6.5.6p8)
abbrev pub pointer_less : Memory → Value → Value → ℕ → Option Value
pointer_less m v i size = number_in i >>= λ n. further m v (neg_ℤ (n *ℤ pos size))

-- C11 6.5.6p9: undefined where the difference is no value of the data model's long (own: of ptrdiff_t); own: also where the distance is no multiple of the size
abbrev pub distance : Abi → ℕ → ℤ × ℤ → Option Value
distance abi size o = only_if (int_eq (int_rem (o.0 -ℤ o.1) (pos size)) (pos 0) && fits (long_of abi) (int_div (o.0 -ℤ o.1) (pos size))) (Int (int_div (o.0 -ℤ o.1) (pos size)))

abbrev pub pointer_difference : Abi → Memory → Value → Value → ℕ → Option Value
pointer_difference abi m v w size = offsets m v w >>= distance abi size

-- the place of a member at that offset in the aggregate at a place (C11 6.5.2.3p3)
abbrev pub member_place : Memory → Value → ℕ → Option Value
member_place m place offset = further m place (pos offset)

-- the place of an element of the array at a place (C11 6.5.2.1p2)
abbrev pub element_place : Memory → Value → Value → ℕ → Option Value
element_place m place i size = pointer_sum m place i size

-- a binary operator on two values of a kind (C11 6.5.5 to 6.5.12; of a shift, the right one is of any kind)
abbrev pub computed : BinOp → IntKind → Value → Value → Option Value
computed op kind v w = number_in v >>= λ a. number_in w >>= λ b. option_map Int (arith_of op kind a b)

-- a unary operator on a value of a kind (C11 6.5.3.3)
abbrev pub unary : UnOp → IntKind → Value → Option Value
unary op kind v = number_in v >>= λ a. option_map Int (unary_of op kind a)
