-- Device: a difference of two pointers is of the kind long.
use Rattle.std.proofs.Common.{◌≡◌, ℕ, ℤ, pos, ◌-ℤ◌, ◌≤ℤ◌, int_div, int_rem, int_le, Bool, true, false, ◌&&◌, Option, Some, None, refl, arith}
use Rattle.std.specs.Prelude.{IfSome}
use Rattle.std.specs.Ordering.{int_eq}
use Rattle.std.proofs.lemmas.Int.{ints}
use Rattle.cil_base.specs.declared.kinds.Abi.{Abi}
use Rattle.cil_base.specs.Integer.{least, greatest, long_of}
use Rattle.cil_base.specs.Arithmetic.{fits}
use Rattle.byte_mem.specs.declared.values.Scalar.TheVariants.{Int as OfKind}
use Rattle.byte_mem.specs.declared.values.Value.{Value}
use Rattle.byte_mem.specs.declared.values.Value.TheVariants.{Int}
use Rattle.byte_mem.specs.Scalar.{IsValue}
use Rattle.byte_mem.specs.Memory.{Memory}
use Rattle.byte_mem.specs.Steps.{◌>>=◌, only_if}
use Rattle.byte_mem.specs.Operator.{offsets, distance, pointer_difference}

fits_value : (low high v : ℤ) → (int_le low v && int_le v high) ≡ true → (low ≤ℤ v) × (v ≤ℤ high)
fits_value low high v e = (grind (arith, ints), grind (arith, ints))

pub difference_long : (abi : Abi) (m : Memory) (v w : Value) (size : ℕ) → IfSome (pointer_difference abi m v w size) (IsValue abi (OfKind (long_of abi)))
difference_long abi m v w size = by (offsets m v w)
  where
    by : (o : Option (ℤ × ℤ)) → IfSome (o >>= distance abi size) (IsValue abi (OfKind (long_of abi)))
    by None = tt
    by (Some o) = held (int_eq (int_rem (o.0 -ℤ o.1) (pos size)) (pos 0)) (fits (long_of abi) (int_div (o.0 -ℤ o.1) (pos size))) refl
      where
        held : (t u : Bool) → fits (long_of abi) (int_div (o.0 -ℤ o.1) (pos size)) ≡ u → IfSome (only_if (t && u) (Int (int_div (o.0 -ℤ o.1) (pos size)))) (IsValue abi (OfKind (long_of abi)))
        held false u e = tt
        held true false e = tt
        held true true e = fits_value (least (long_of abi)) (greatest (long_of abi)) (int_div (o.0 -ℤ o.1) (pos size)) e
