-- Device: the values of arguments by their places.
use Rattle.std.proofs.Common.{◌≡◌, ℕ, zero, suc, List, [], ◌∷◌, refl}
use Rattle.std.specs.Prelude.{slice_get}
use Rattle.std.specs.Option.{option_map}
use Rattle.byte_mem.specs.declared.values.Scalar.{Scalar}
use Rattle.byte_mem.specs.declared.values.Value.{Value}
use Rattle.host_calls.specs.Host.{values_of, value_arg}

pub value_at : (args : List (Scalar × Value)) (i : ℕ) → value_arg (values_of args) i ≡ option_map (λ a. a.1) (slice_get args i)
value_at [] i = refl
value_at (a ∷ args) zero = refl
value_at (a ∷ args) (suc i) = value_at args i
