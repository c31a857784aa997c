-- Device: values that are computed, loaded and given by the host are values of their kinds.
use Rattle.std.proofs.Common.{◌≡◌, ℕ, Bool, true, false, cond, length, Option, Some, None, IfSome, option_map, ℤ, pos, refl, subst, arith}
use Rattle.std.specs.Prelude.{nat_eq, neg_ℤ, ◌*ℤ◌, ◌+ℤ◌}
use Rattle.std.proofs.lemmas.Bool.Decides.{nat_tests}
use Rattle.cil_base.specs.declared.kinds.Abi.{Abi}
use Rattle.cil_base.specs.declared.kinds.IntKind.{IntKind}
use Rattle.cil_base.specs.declared.kinds.IntKind.TheVariants.{Bool as Boolean}
use Rattle.cil_base.specs.declared.operators.BinOp.{BinOp}
use Rattle.cil_base.specs.Integer.{IsOf, ulong_of, pointer_size_of}
use Rattle.cil_base.specs.Arithmetic.{arith_of}
use Rattle.cil_base.proofs.IntegerLaws.{wrapped_value}
use Rattle.cil_base.proofs.ArithmeticLaws.{arith_value}
use Rattle.byte_mem.specs.declared.pointers.Pointer.{Pointer}
use Rattle.byte_mem.specs.declared.values.Scalar.{Scalar}
use Rattle.byte_mem.specs.declared.values.Scalar.TheVariants.{Int as OfKind, Ptr as OfPointer}
use Rattle.byte_mem.specs.declared.values.Value.{Value}
use Rattle.byte_mem.specs.declared.values.Value.TheVariants.{Int, Ptr, Unknown, Part}
use Rattle.byte_mem.specs.Steps.{◌>>=◌, only_if}
use Rattle.byte_mem.specs.Scalar.{IsValue, scalar_size, is_boolean}
use Rattle.byte_mem.specs.Object.{Held, load_held}
use Rattle.byte_mem.specs.Memory.{Memory, load}
use Rattle.byte_mem.specs.Operator.{converted, is_boolean_scalar, number_in, pointer_in, in_reach, reached, further_pointer, further, computed}
use Rattle.byte_mem.proofs.AgainLemmas.{load_held_is_value}
use Rattle.simulation_laws.specs.Fitting.{ValuesFit}

pub numbers_same : (a b : ℕ) → nat_eq a b ≡ true → a ≡ b
numbers_same a b e = grind (arith, nat_tests)

-- 1 is a value of each kind that is _Bool
one_fits : (abi : Abi) (s : Scalar) → is_boolean_scalar s ≡ true → IsValue abi s (Int (pos 1))
one_fits abi OfPointer e = cc
one_fits abi (OfKind kind) e = subst (λ (k : IntKind). IsOf k (pos 1)) (boolean_is kind e) (wrapped_value Boolean (pos 1))
  where
    boolean_is : (k : IntKind) → is_boolean k ≡ true → Boolean ≡ k
    boolean_is Boolean e = refl
    boolean_is _ e = cc

converted_fits : (abi : Abi) (s : Scalar) (v : Value) → IsValue abi s (converted abi s v)
converted_fits abi (OfKind kind) (Int n) = wrapped_value kind n
converted_fits abi OfPointer (Int n) = wrapped_value (ulong_of abi) n
converted_fits abi s Unknown = tt
converted_fits abi s (Ptr p) = by (is_boolean_scalar s) (nat_eq (scalar_size abi s) (pointer_size_of abi)) refl refl
  where
    by : (b c : Bool) → is_boolean_scalar s ≡ b → nat_eq (scalar_size abi s) (pointer_size_of abi) ≡ c → IsValue abi s (cond b (Int (pos 1)) (cond c (Ptr p) Unknown))
    by true c e f = one_fits abi s e
    by false true e f = numbers_same (scalar_size abi s) (pointer_size_of abi) f
    by false false e f = tt
converted_fits abi s (Part p k) = by (is_boolean_scalar s) (nat_eq (scalar_size abi s) 1) refl
  where
    by : (b c : Bool) → nat_eq (scalar_size abi s) 1 ≡ c → IsValue abi s (cond b Unknown (cond c (Part p k) Unknown))
    by true c f = tt
    by false true f = numbers_same (scalar_size abi s) 1 f
    by false false f = tt

-- what comes of steps that each give what fits
if_bound : {A B : Type 0} (P : B → Type 0) (o : Option A) (g : A → Option B) → ((a : A) → IfSome (g a) P) → IfSome (o >>= g) P
if_bound P None g h = tt
if_bound P (Some a) g h = h a

if_only : {B : Type 0} (P : B → Type 0) (t : Bool) (b : B) → P b → IfSome (only_if t b) P
if_only P true b h = h
if_only P false b h = tt

pub loaded_fits : (abi : Abi) (m : Memory) (p : Pointer) (s : Scalar) → IfSome (load abi m p s) (IsValue abi s)
loaded_fits abi m p s = if_bound (IsValue abi s) (m p.name) (λ (h : Held). load_held abi h p.offset s) (λ (h : Held). load_held_is_value abi h p.offset s)

number_fits : (abi : Abi) (kind : IntKind) (o : Option ℤ) → IfSome o (IsOf kind) → IfSome (option_map Int o) (IsValue abi (OfKind kind))
number_fits abi kind None h = tt
number_fits abi kind (Some n) h = h

computed_fits : (abi : Abi) (op : BinOp) (kind : IntKind) (v w : Value) → IsValue abi (OfKind kind) v → IfSome (computed op kind v w) (IsValue abi (OfKind kind))
computed_fits abi op kind (Int a) w h = if_bound (IsValue abi (OfKind kind)) (number_in w) (λ b. option_map Int (arith_of op kind a b)) (λ b. number_fits abi kind (arith_of op kind a b) (arith_value op kind a b h))
computed_fits abi op kind (Ptr p) w h = tt
computed_fits abi op kind Unknown w h = tt
computed_fits abi op kind (Part p k) w h = tt

further_fits : (abi : Abi) (m : Memory) (v : Value) (count : ℤ) → IfSome (further m v count) (IsValue abi OfPointer)
further_fits abi m v count = if_bound (IsValue abi OfPointer) (pointer_in v) (λ p. further_pointer m p count) one
  where
    one : (p : Pointer) → IfSome (further_pointer m p count) (IsValue abi OfPointer)
    one p = if_bound (IsValue abi OfPointer) (reached m p) (λ (h : Held). only_if (in_reach (p.offset +ℤ count) (length h.bytes)) (Ptr (record { name = p.name; offset = p.offset +ℤ count })))
        (λ (h : Held). if_only (IsValue abi OfPointer) (in_reach (p.offset +ℤ count) (length h.bytes)) (Ptr (record { name = p.name; offset = p.offset +ℤ count })) refl)

pub fits : ValuesFit
fits = record {
  converted = converted_fits;
  loaded = loaded_fits;
  computed = computed_fits;
  summed = λ abi m v w size. if_bound (IsValue abi OfPointer) (number_in w) (λ n. further m v (n *ℤ pos size)) (λ n. further_fits abi m v (n *ℤ pos size));
  lessened = λ abi m v w size. if_bound (IsValue abi OfPointer) (number_in w) (λ n. further m v (neg_ℤ (n *ℤ pos size))) (λ n. further_fits abi m v (neg_ℤ (n *ℤ pos size)));
  member = λ abi m v offset. further_fits abi m v (pos offset);
}
