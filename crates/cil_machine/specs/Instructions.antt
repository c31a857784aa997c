-- Device: what resolved instructions change in a memory, None where they are undefined.
use Rattle.std.specs.Prelude.{ℕ, List, Option}
use Rattle.cil_base.specs.declared.kinds.Abi.{Abi}
use Rattle.byte_mem.specs.declared.pointers.Pointer.{Pointer}
use Rattle.byte_mem.specs.declared.values.Byte.{Byte}
use Rattle.byte_mem.specs.declared.values.Scalar.{Scalar}
use Rattle.byte_mem.specs.Steps.{◌>>=◌}
use Rattle.byte_mem.specs.Memory.{Memory, load_bytes, store, store_bytes, zero}
use Rattle.byte_mem.specs.Operator.{pointer_in}
use Rattle.execution.specs.Data.{OfScalar, Single, store_datum}
use Rattle.cil_machine.specs.declared.terms.Term.{Term}
use Rattle.cil_machine.specs.declared.terms.Spot.{Spot}
use Rattle.cil_machine.specs.Terms.{term_value, spot_place}

-- the value of a scalar is stored where a pointer leads
abbrev pub value_set : Abi → Memory → ℕ → Scalar → Pointer → Term → Option Memory
value_set abi m act s at t = term_value abi m act s t >>= λ v. store abi m at s v

-- a scalar is assigned: the place, then the value (the order is own)
abbrev pub scalar_set : Abi → Memory → ℕ → Scalar → Spot → Term → Option Memory
scalar_set abi m act s place t = spot_place abi m act place >>= λ at. term_value abi m act s t >>= λ v. store_datum abi m (OfScalar s) at (Single v)

-- the pointer that a place is
abbrev pub pointer_from : Abi → Memory → ℕ → Spot → Option Pointer
pointer_from abi m act place = spot_place abi m act place >>= pointer_in

abbrev pub zeroed : Abi → Memory → ℕ → ℕ → Spot → Option Memory
zeroed abi m act size place = pointer_from abi m act place >>= λ p. zero m p size

abbrev pub bytes_from : Abi → Memory → ℕ → ℕ → Spot → Option (List Byte)
bytes_from abi m act size place = pointer_from abi m act place >>= λ p. load_bytes m p size

-- a struct or union is assigned
abbrev pub copied : Abi → Memory → ℕ → ℕ → Spot → Spot → Option Memory
copied abi m act size to from = pointer_from abi m act to >>= λ p. bytes_from abi m act size from >>= store_bytes m p
