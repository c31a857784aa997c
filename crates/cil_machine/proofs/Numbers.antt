-- Device: what gives only numbers is what it gives on the numbers of its operands.
use Rattle.std.proofs.Common.{◌≡◌, Bool, true, false, not, Option, Some, None, option_map, ℤ, pos, refl, ap, ◌∙◌, if◌then◌else◌}
use Rattle.std.specs.Prelude.{nat_eq}
use Rattle.std.specs.Ordering.{int_eq}
use Rattle.cil_base.specs.declared.kinds.Abi.{Abi}
use Rattle.cil_base.specs.declared.kinds.IntKind.{IntKind}
use Rattle.cil_base.specs.declared.operators.BinOp.{BinOp}
use Rattle.cil_base.specs.declared.operators.UnOp.{UnOp}
use Rattle.cil_base.specs.Arithmetic.{arith_of, unary_of, told}
use Rattle.cil_base.specs.Integer.{wrapped, pointer_size_of}
use Rattle.byte_mem.specs.declared.pointers.Pointer.{Pointer}
use Rattle.byte_mem.specs.declared.values.Scalar.{Scalar}
use Rattle.byte_mem.specs.declared.values.Scalar.TheVariants.{Int as OfKind, Ptr as OfPointer}
use Rattle.byte_mem.specs.declared.values.Value.{Value}
use Rattle.byte_mem.specs.declared.values.Value.TheVariants.{Int, Ptr, Unknown, Part}
use Rattle.byte_mem.specs.Steps.{◌>>=◌, only_if}
use Rattle.byte_mem.specs.Scalar.{scalar_size, is_boolean}
use Rattle.byte_mem.specs.Memory.{Memory, store}
use Rattle.byte_mem.specs.Operator.{number_in, pointer_in, truth, converted}
use Rattle.execution.specs.Data.{OfScalar, Single, store_datum}
use Rattle.cil_machine.specs.Terms.{of_one, of_two, of_number, of_numbers, number_as, number, number_from, number_of, as_number, told_from, told_as, compared_number, unary_at, arithmetic_at, shifted_at, moved}

-- no number, whatever went before
no_number : (a : Option ℤ) (f : ℤ → ℤ → Option ℤ) → of_numbers a None f ≡ None
no_number None f = refl
no_number (Some a) f = refl

-- a number is the number of its value
number_is : (n : Option ℤ) → n ≡ (option_map Int n >>= number_in)
number_is None = refl
number_is (Some n) = refl

-- a value that has a number is that number
pub number_alone : (v : Option Value) (n : ℤ) → Some n ≡ number_of v → v ≡ Some (Int n)
number_alone None n h = absurd (cc)
number_alone (Some (Int a)) n h = cc
number_alone (Some (Ptr p)) n h = absurd (cc)
number_alone (Some Unknown) n h = absurd (cc)
number_alone (Some (Part p k)) n h = absurd (cc)

kept_number : (holds : Bool) (n : ℤ) → only_if holds n ≡ (only_if holds (Int n) >>= number_in)
kept_number true n = refl
kept_number false n = refl

-- a constant
pub constant_number : (abi : Abi) (kind : IntKind) (n : ℤ) → number_as kind n ≡ (number abi (OfKind kind) n >>= number_in)
constant_number abi kind n = kept_number (int_eq (wrapped kind n) n) n

-- a test of a value of an integer type
pub number_tested : (m : Memory) (kind : IntKind) (v : Option Value) → option_map (λ n. not (int_eq n (pos 0))) (number_of v) ≡ (v >>= truth m (OfKind kind))
number_tested m kind None = refl
number_tested m kind (Some (Int n)) = refl
number_tested m kind (Some (Ptr p)) = refl
number_tested m kind (Some Unknown) = refl
number_tested m kind (Some (Part p k)) = refl

-- `!` of it
tested_not : {A : Type 0} (f : Option Bool → Option A) (test : Value → Option Bool) (v : Option Value) → f None ≡ None → f (option_map not (v >>= test)) ≡ (v >>= λ v. f (option_map not (test v)))
tested_not f test None e = e
tested_not f test (Some v) e = refl

pub value_negated : (abi : Abi) (m : Memory) (s t : Scalar) (v : Option Value) → told_from abi s (option_map not (v >>= truth m t)) ≡ of_one v (λ v. told_from abi s (option_map not (truth m t v)))
value_negated abi m s t v = tested_not (told_from abi s) (truth m t) v refl

told_number : (abi : Abi) (kind : IntKind) (holds : Option Bool) → told_as kind holds ≡ number_of (told_from abi (OfKind kind) holds)
told_number abi kind None = refl
told_number abi kind (Some h) = constant_number abi kind (told h)

pub number_negated : (abi : Abi) (m : Memory) (kind : IntKind) (t : Scalar) (v : Option Value) → told_as kind (option_map not (v >>= truth m t)) ≡ number_of (of_one v (λ v. told_from abi (OfKind kind) (option_map not (truth m t v))))
number_negated abi m kind t v = told_number abi kind (option_map not (v >>= truth m t)) ∙ ap number_of (value_negated abi m (OfKind kind) t v)

-- a unary operator
pub unary_number : (op : UnOp) (kind : IntKind) (v : Option Value) → of_number (number_of v) (unary_of op kind) ≡ (of_one v (unary_at (OfKind kind) op) >>= number_in)
unary_number op kind None = refl
unary_number op kind (Some v) = by (number_in v)
  where
    by : (a : Option ℤ) → (a >>= unary_of op kind) ≡ ((a >>= λ a. option_map Int (unary_of op kind a)) >>= number_in)
    by None = refl
    by (Some a) = number_is (unary_of op kind a)

-- two operands
two_numbers : (f : ℤ → ℤ → Option ℤ) (v w : Option Value) → of_numbers (number_of v) (number_of w) f ≡ (of_two v w (λ v w. number_in v >>= λ a. number_in w >>= λ b. option_map Int (f a b)) >>= number_in)
two_numbers f None w = refl
two_numbers f (Some v) None = no_number (number_in v) f
two_numbers f (Some v) (Some w) = by (number_in v) (number_in w)
  where
    by : (a b : Option ℤ) → of_numbers a b f ≡ ((a >>= λ a. b >>= λ b. option_map Int (f a b)) >>= number_in)
    by None b = refl
    by (Some a) None = refl
    by (Some a) (Some b) = number_is (f a b)

pub arithmetic_number : (op : BinOp) (kind : IntKind) (v w : Option Value) → of_numbers (number_of v) (number_of w) (arith_of op kind) ≡ (of_two v w (arithmetic_at (OfKind kind) op) >>= number_in)
arithmetic_number op kind v w = two_numbers (arith_of op kind) v w

pub shift_number : (left : Bool) (kind : IntKind) (v w : Option Value) → of_numbers (number_of v) (number_of w) (moved left kind) ≡ (of_two v w (shifted_at (OfKind kind) left) >>= number_in)
shift_number true kind v w = two_numbers (moved true kind) v w
shift_number false kind v w = two_numbers (moved false kind) v w

-- a comparison
pub compared_value : (abi : Abi) (s : Scalar) (op : BinOp) (kind : IntKind) (v w : Option Value) → (of_numbers (number_of v) (number_of w) (arith_of op kind) >>= number abi s) ≡ of_two v w (λ v w. number_from abi s (compared_number op kind v w))
compared_value abi s op kind v w = ap (λ n. n >>= number abi s) (two_numbers (arith_of op kind) v w) ∙ by v w
  where
    by : (v w : Option Value) → ((of_two v w (arithmetic_at (OfKind kind) op) >>= number_in) >>= number abi s) ≡ of_two v w (λ v w. number_from abi s (compared_number op kind v w))
    by None w = refl
    by (Some v) None = refl
    by (Some v) (Some w) = refl

pub number_compared : (abi : Abi) (kind : IntKind) (op : BinOp) (of : IntKind) (v w : Option Value) → (of_numbers (number_of v) (number_of w) (arith_of op of) >>= number_as kind) ≡ (of_two v w (λ v w. number_from abi (OfKind kind) (compared_number op of v w)) >>= number_in)
number_compared abi kind op of v w = by (of_numbers (number_of v) (number_of w) (arith_of op of)) ∙ ap (λ v. v >>= number_in) (compared_value abi (OfKind kind) op of v w)
  where
    by : (n : Option ℤ) → (n >>= number_as kind) ≡ ((n >>= number abi (OfKind kind)) >>= number_in)
    by None = refl
    by (Some n) = constant_number abi kind n

-- a conversion of a number
pub number_converted : (abi : Abi) (kind of : IntKind) (v : Option Value) → is_boolean kind ≡ false → option_map (wrapped kind) (number_of v) ≡ (of_one v (λ v. Some (converted abi (OfKind kind) v)) >>= number_in)
number_converted abi kind of None h = refl
number_converted abi kind of (Some (Int n)) h = refl
number_converted abi kind of (Some (Ptr p)) h = by (is_boolean kind) (nat_eq (scalar_size abi (OfKind kind)) (pointer_size_of abi)) h
  where
    by : (b d : Bool) → b ≡ false → None ≡ number_in (if b then Int (pos 1) else (if d then Ptr p else Unknown))
    by true d h = absurd (cc)
    by false true h = refl
    by false false h = refl
number_converted abi kind of (Some Unknown) h = refl
number_converted abi kind of (Some (Part p k)) h = by (is_boolean kind) (nat_eq (scalar_size abi (OfKind kind)) 1) h
  where
    by : (b d : Bool) → b ≡ false → None ≡ number_in (if b then Unknown else (if d then Part p k else Unknown))
    by true d h = refl
    by false true h = refl
    by false false h = refl

-- values that are numbers, where they are asked for as values of a scalar
numbered : (o : Option ℤ) → option_map Int (option_map Int o >>= number_in) ≡ option_map Int o
numbered None = refl
numbered (Some n) = refl

two_numbered : (f : ℤ → ℤ → Option ℤ) (v w : Option Value) → option_map Int (of_two v w (λ v w. number_in v >>= λ a. number_in w >>= λ b. option_map Int (f a b)) >>= number_in) ≡ of_two v w (λ v w. number_in v >>= λ a. number_in w >>= λ b. option_map Int (f a b))
two_numbered f None w = refl
two_numbered f (Some v) None = refl
two_numbered f (Some v) (Some w) = by (number_in v) (number_in w)
  where
    by : (a b : Option ℤ) → option_map Int ((a >>= λ a. b >>= λ b. option_map Int (f a b)) >>= number_in) ≡ (a >>= λ a. b >>= λ b. option_map Int (f a b))
    by None b = refl
    by (Some a) None = refl
    by (Some a) (Some b) = numbered (f a b)

nothing_of_two : (v w : Option Value) → None ≡ of_two v w (λ v w. None)
nothing_of_two None w = refl
nothing_of_two (Some v) None = refl
nothing_of_two (Some v) (Some w) = refl

pub arithmetic_whole : (s : Scalar) (op : BinOp) (v w : Option Value) → as_number s (of_two v w (arithmetic_at s op)) ≡ of_two v w (arithmetic_at s op)
arithmetic_whole (OfKind kind) op v w = two_numbered (arith_of op kind) v w
arithmetic_whole OfPointer op v w = nothing_of_two v w

-- a scalar's value is stored where the pointer leads that the place is
pub stored_there : (abi : Abi) (m : Memory) (s : Scalar) (place value : Option Value) (at : Pointer) → Some at ≡ (place >>= pointer_in) → (value >>= λ v. store abi m at s v) ≡ (place >>= λ x. value >>= λ v. store_datum abi m (OfScalar s) x (Single v))
stored_there abi m s None value at h = absurd (cc)
stored_there abi m s (Some x) None at h = refl
stored_there abi m s (Some x) (Some v) at h = ap (λ o. o >>= λ p. store abi m p s v) h
