-- Device: what resolved expressions and places give in a memory. A term is asked for a value of a scalar.
use Rattle.std.specs.Prelude.{ℕ, Bool, true, false, not, if◌then◌else◌, Option, Some, None, option_map, ℤ, pos}
use Rattle.std.specs.Ordering.{int_eq}
use Rattle.cil_base.specs.declared.kinds.Abi.{Abi}
use Rattle.cil_base.specs.declared.kinds.IntKind.{IntKind}
use Rattle.cil_base.specs.declared.operators.BinOp.{BinOp}
use Rattle.cil_base.specs.declared.operators.BinOp.TheVariants.{Shl, Shr}
use Rattle.cil_base.specs.declared.operators.UnOp.{UnOp}
use Rattle.cil_base.specs.Integer.{wrapped, long_of}
use Rattle.cil_base.specs.Arithmetic.{told, arith_of}
use Rattle.byte_mem.specs.declared.pointers.ObjName.{ObjName}
use Rattle.byte_mem.specs.declared.pointers.ObjName.TheVariants.{Entity, Local}
use Rattle.byte_mem.specs.declared.pointers.Pointer.{Pointer}
use Rattle.byte_mem.specs.declared.values.Scalar.{Scalar}
use Rattle.byte_mem.specs.declared.values.Scalar.TheVariants.{Int as OfKind, Ptr as OfPointer}
use Rattle.byte_mem.specs.declared.values.Value.{Value}
use Rattle.byte_mem.specs.declared.values.Value.TheVariants.{Int, Ptr}
use Rattle.byte_mem.specs.Steps.{◌>>=◌, only_if}
use Rattle.byte_mem.specs.Scalar.{kind_of}
use Rattle.byte_mem.specs.Memory.{Memory, load}
use Rattle.byte_mem.specs.Operator.{converted, place_of, pointer_in, truth, compared, pointer_sum, pointer_less, pointer_difference, member_place, element_place, computed, unary, number_in}
use Rattle.cil_base.specs.Kinds.{same_kind}
use Rattle.cil_machine.specs.declared.terms.Term.{Term, Number, Load, Not', Unary', Arithmetic', Shift', Compare', Sum', Less', Difference', Relation', Convert', Address, Wrong as NoTerm}
use Rattle.cil_machine.specs.declared.terms.Spot.{Spot, Entity as Global, Local as Own, At', Member', Element', Wrong as NoSpot}

-- the number as a value of the scalar, none where it is not one of its kind
abbrev pub number : Abi → Scalar → ℤ → Option Value
number abi s n = only_if (int_eq (wrapped (kind_of abi s) n) n) (Int n)

-- the number, none where it is not one of the kind
abbrev pub number_as : IntKind → ℤ → Option ℤ
number_as kind n = only_if (int_eq (wrapped kind n) n) n

abbrev pub number_from : Abi → Scalar → Option ℤ → Option Value
number_from abi s n = n >>= number abi s

-- 1 or 0 for a test
abbrev pub told_from : Abi → Scalar → Option Bool → Option Value
told_from abi s holds = holds >>= λ h. number abi s (told h)

abbrev pub pointer_at : ObjName → Value
pointer_at name = Ptr (record { name = name; offset = pos 0 })

abbrev pub shifted : Bool → IntKind → Value → Value → Option Value
shifted true kind v w = computed Shl kind v w
shifted false kind v w = computed Shr kind v w

-- the value of a scalar at a place
abbrev pub loaded : Abi → Memory → Scalar → Value → Option Value
loaded abi m s place = pointer_in place >>= λ at. load abi m at s

-- the number that a comparison gives
abbrev pub compared_number : BinOp → IntKind → Value → Value → Option ℤ
compared_number op kind v w = computed op kind v w >>= number_in

-- `op v`, asked for a value of the scalar
abbrev pub unary_at : Scalar → UnOp → Value → Option Value
unary_at (OfKind kind) op v = unary op kind v
unary_at OfPointer op v = None

abbrev pub arithmetic_at : Scalar → BinOp → Value → Value → Option Value
arithmetic_at (OfKind kind) op v w = computed op kind v w
arithmetic_at OfPointer op v w = None

abbrev pub shifted_at : Scalar → Bool → Value → Value → Option Value
shifted_at (OfKind kind) left v w = shifted left kind v w
shifted_at OfPointer left v w = None

-- what is a pointer, asked for a value of the scalar
abbrev pub pointer_for : Scalar → Option Value → Option Value
pointer_for (OfKind kind) v = None
pointer_for OfPointer v = v

-- a difference is of the kind long (own; C11 6.5.6p9)
abbrev pub difference_for : Abi → Scalar → Option Value → Option Value
difference_for abi (OfKind kind) v = if same_kind kind (long_of abi) then v else None
difference_for abi OfPointer v = None

abbrev pub difference_at : Abi → Scalar → Memory → Value → Value → ℕ → Option Value
difference_at abi s m v w size = difference_for abi s (pointer_difference abi m v w size)

-- what an operand, or two of them, give goes on; undefined where one is
abbrev pub of_one : Option Value → (Value → Option Value) → Option Value
of_one v f = v >>= f

abbrev pub of_two : Option Value → Option Value → (Value → Value → Option Value) → Option Value
of_two v w f = v >>= λ v. w >>= f v

abbrev pub of_number : Option ℤ → (ℤ → Option ℤ) → Option ℤ
of_number a f = a >>= f

abbrev pub of_numbers : Option ℤ → Option ℤ → (ℤ → ℤ → Option ℤ) → Option ℤ
of_numbers a b f = a >>= λ a. b >>= f a

-- the number of a value, none where it is undefined, or no number
abbrev pub number_of : Option Value → Option ℤ
number_of v = v >>= number_in

-- a value that is a number wherever it is defined, where an integer is asked for
abbrev pub as_number : Scalar → Option Value → Option Value
as_number (OfKind kind) v = option_map Int (number_of v)
as_number OfPointer v = None

-- 1 or 0 for a test, as a number of the kind
abbrev pub told_as : IntKind → Option Bool → Option ℤ
told_as kind holds = holds >>= λ h. number_as kind (told h)

-- a shift of a number
abbrev pub moved : Bool → IntKind → ℤ → ℤ → Option ℤ
moved true kind a b = arith_of Shl kind a b
moved false kind a b = arith_of Shr kind a b

-- the value of a scalar where a pointer leads
abbrev pub read_at : Abi → Memory → Scalar → Option Pointer → Option Value
read_at abi m s place = place >>= λ at. load abi m at s

abbrev mutual
  -- the value of a term, for an activation, as a value of the scalar
  pub term_value : Abi → Memory → ℕ → Scalar → Term → Option Value
  term_value abi m act s (Number n) = number abi s (pos n)
  term_value abi m act s (Load p) = spot_place abi m act p >>= loaded abi m s
  term_value abi m act s (Not' t p e) = term_value abi m act t e >>= λ v. told_from abi s (option_map not (truth m t v))
  term_value abi m act s (Unary' op p e) = term_value abi m act s e >>= unary_at s op
  term_value abi m act s (Arithmetic' op p e q f) = term_value abi m act s e >>= λ v. term_value abi m act s f >>= arithmetic_at s op v
  term_value abi m act s (Shift' left by p e q f) = term_value abi m act s e >>= λ v. term_value abi m act (OfKind by) f >>= shifted_at s left v
  term_value abi m act s (Compare' op kind p e q f) = term_value abi m act (OfKind kind) e >>= λ v. term_value abi m act (OfKind kind) f >>= λ w. number_from abi s (compared_number op kind v w)
  term_value abi m act s (Sum' size kind p e q f) = term_value abi m act OfPointer e >>= λ v. term_value abi m act (OfKind kind) f >>= λ i. pointer_for s (pointer_sum m v i size)
  term_value abi m act s (Less' size kind p e q f) = term_value abi m act OfPointer e >>= λ v. term_value abi m act (OfKind kind) f >>= λ i. pointer_for s (pointer_less m v i size)
  term_value abi m act s (Difference' size p e q f) = term_value abi m act OfPointer e >>= λ v. term_value abi m act OfPointer f >>= λ w. difference_at abi s m v w size
  term_value abi m act s (Relation' op p e q f) = term_value abi m act OfPointer e >>= λ v. term_value abi m act OfPointer f >>= λ w. told_from abi s (compared m op v w)
  term_value abi m act s (Convert' t p e) = term_value abi m act t e >>= λ v. Some (converted abi s v)
  term_value abi m act s (Address p) = pointer_for s (spot_place abi m act p)
  term_value abi m act s NoTerm = None

  -- the place that a resolved place is
  pub spot_place : Abi → Memory → ℕ → Spot → Option Value
  spot_place abi m act (Global e) = Some (pointer_at (Entity e))
  spot_place abi m act (Own l) = Some (pointer_at (Local act l))
  spot_place abi m act (At' p e) = term_value abi m act OfPointer e >>= place_of
  spot_place abi m act (Member' offset p whole) = spot_place abi m act whole >>= λ v. member_place m v offset
  spot_place abi m act (Element' size kind p whole q e) = spot_place abi m act whole >>= λ v. term_value abi m act (OfKind kind) e >>= λ i. element_place m v i size
  spot_place abi m act NoSpot = None

-- the number that a term is as a value of the kind; none where it is undefined, or no number
abbrev pub number_by : Abi → Memory → ℕ → IntKind → Term → Option ℤ
number_by abi m act kind t = number_of (term_value abi m act (OfKind kind) t)

-- whether a term compares unequal to 0 (C11 6.8.4.1p2)
abbrev pub tested : Abi → Memory → ℕ → Scalar → Term → Option Bool
tested abi m act of t = term_value abi m act of t >>= truth m of
