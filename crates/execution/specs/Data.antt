-- Definition: what is passed, returned and assigned: the value of a scalar, or the bytes of a struct or union (C11 6.2.5p21, 6.5.16.1, 6.5.2.2p4); and what an activation's objects are (6.2.4).
use Rattle.std.specs.Prelude.{ℕ, suc, Bool, true, false, nat_eq, List, [], ◌∷◌, replicate, Option, Some, None, option_map}
use Rattle.cil_base.specs.declared.kinds.Abi.{Abi}
use Rattle.byte_mem.specs.declared.pointers.ObjName.{ObjName}
use Rattle.byte_mem.specs.declared.pointers.ObjName.TheVariants.{Local}
use Rattle.byte_mem.specs.declared.pointers.Pointer.{Pointer}
use Rattle.byte_mem.specs.declared.values.Byte.{Byte}
use Rattle.byte_mem.specs.declared.values.Byte.TheVariants.{Unknown as Blank}
use Rattle.byte_mem.specs.declared.values.Scalar.{Scalar}
use Rattle.byte_mem.specs.declared.values.Value.{Value}
use Rattle.byte_mem.specs.declared.values.Value.TheVariants.{Unknown}
use Rattle.byte_mem.specs.Steps.{◌>>=◌}
use Rattle.byte_mem.specs.Scalar.{bytes_of}
use Rattle.byte_mem.specs.Object.{Held}
use Rattle.byte_mem.specs.Memory.{Memory, with_held, make, end_object, load, load_bytes, store, store_bytes, zero}
use Rattle.byte_mem.specs.Operator.{pointer_in}
use Rattle.host_calls.specs.Host.{same_scalar}

-- what calls compare of a type (own): that it is void, its kind where it is scalar, and its size where it is a struct or union
pub data Kind : Type 0 where
  OfVoid : Kind
  OfScalar : (scalar : Scalar) → Kind
  OfAggregate : (size : ℕ) → Kind

-- the value of a scalar, or the bytes of a struct or union
pub data Datum : Type 0 where
  Single : (value : Value) → Datum
  Bytes : (bytes : List Byte) → Datum

abbrev pub kinds_match : Kind → Kind → Bool
kinds_match OfVoid OfVoid = true
kinds_match (OfScalar s) (OfScalar t) = same_scalar s t
kinds_match (OfAggregate m) (OfAggregate n) = nat_eq m n
kinds_match _ _ = false

-- a type without a kind is like none
abbrev pub same_kind : Option Kind → Option Kind → Bool
same_kind (Some k) (Some l) = kinds_match k l
same_kind _ _ = false

-- what nobody has given (own): Unknown, or unknown bytes
abbrev pub unknown : Kind → Datum
unknown OfVoid = Single Unknown
unknown (OfScalar s) = Single Unknown
unknown (OfAggregate size) = Bytes (replicate size Blank)

abbrev pub load_from : Abi → Memory → Kind → Pointer → Option Datum
load_from abi m OfVoid p = None
load_from abi m (OfScalar s) p = option_map Single (load abi m p s)
load_from abi m (OfAggregate size) p = option_map Bytes (load_bytes m p size)

-- C11 6.3.2.1p2: the value of what a place designates; undefined where the place is no pointer
abbrev pub load_datum : Abi → Memory → Kind → Value → Option Datum
load_datum abi m kind place = pointer_in place >>= λ p. load_from abi m kind p

abbrev pub store_to : Abi → Memory → Kind → Pointer → Datum → Option Memory
store_to abi m (OfScalar s) p (Single v) = store abi m p s v
store_to abi m (OfAggregate size) p (Bytes bytes) = store_bytes m p bytes
store_to abi m _ p _ = None

-- C11 6.5.16.1p2; of a struct or union all bytes are stored (own), and what was read before may overlap (own)
abbrev pub store_datum : Abi → Memory → Kind → Value → Datum → Option Memory
store_datum abi m kind place d = pointer_in place >>= λ p. store_to abi m kind p d

-- so many bytes from a place on become zero
abbrev pub zero_from : Memory → ℕ → Value → Option Memory
zero_from m size place = pointer_in place >>= λ p. zero m p size

-- an argument of a call, with the kind of its type
pub record Argument : Type 0 where
  pub kind : Option Kind
  pub datum : Datum

abbrev pub local_name : ℕ → ℕ → ObjName
local_name act i = Local act (record { 0 = i })

abbrev pub bytes_in : Abi → Option Kind → Datum → List Byte
bytes_in abi (Some (OfScalar s)) (Single v) = bytes_of abi s v
bytes_in abi _ (Single v) = []
bytes_in abi _ (Bytes bytes) = bytes

-- an object that holds an argument
abbrev pub argument_held : Abi → Argument → Held
argument_held abi a = record { function = false; read_only = false; bytes = bytes_in abi a.kind a.datum }

-- C11 6.5.2.2p4, 6.9.1p9, p10: the arguments stand in the first objects of the activation, from number i on
abbrev pub with_arguments : Abi → ℕ → ℕ → List Argument → Memory → Memory
with_arguments abi act i [] m = m
with_arguments abi act i (a ∷ more) m = with_arguments abi act (suc i) more (with_held m (local_name act i) (Some (argument_held abi a)))

-- an object with automatic storage duration: its number in its function, and its size
pub record Automatic : Type 0 where
  pub number : ℕ
  pub size : ℕ

-- C11 6.2.4p5, p6: they begin to live, with unknown bytes
abbrev pub with_objects : ℕ → List Automatic → Memory → Memory
with_objects act [] m = m
with_objects act (x ∷ more) m = with_objects act more (make m (local_name act x.number) x.size Blank false)

-- C11 6.2.4p5, p6: their lifetimes end
abbrev pub without_objects : ℕ → List ℕ → Memory → Memory
without_objects act [] m = m
without_objects act (i ∷ more) m = without_objects act more (end_object m (local_name act i))
