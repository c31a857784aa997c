-- Definition: how the value of a scalar type stands in the bytes of an object (C11 6.2.6.1p4; own: little-endian, and a pointer's bytes are its parts).
use Rattle.std.specs.Prelude.{◌≡◌, ◌⊎◌, ℕ, zero, suc, ◌+◌, ◌*◌, ◌/◌, ◌%◌, Bool, true, false, ◌&&◌, nat_eq, nat_lt, if◌then◌else◌, List, [], ◌∷◌, replicate, Option, Some, None, option_map, pos}
use Rattle.cil_base.specs.declared.kinds.Abi.{Abi}
use Rattle.cil_base.specs.declared.kinds.IntKind.{IntKind}
use Rattle.cil_base.specs.declared.kinds.IntKind.TheVariants.{Bool as Boolean}
use Rattle.cil_base.specs.Integer.{IsOf, size_of, wrapped, ulong_of, pointer_size_of}
use Rattle.cil_base.specs.Arithmetic.{bits_of}
use Rattle.byte_mem.specs.declared.pointers.Pointer.{Pointer}
use Rattle.byte_mem.specs.declared.values.Byte.{Byte}
use Rattle.byte_mem.specs.declared.values.Byte.TheVariants.{Known, Unknown as Blank, Part as Fragment}
use Rattle.byte_mem.specs.declared.values.Scalar.{Scalar}
use Rattle.byte_mem.specs.declared.values.Scalar.TheVariants.{Int as OfKind, Ptr as OfPointer}
use Rattle.byte_mem.specs.declared.values.Value.{Value}
use Rattle.byte_mem.specs.declared.values.Value.TheVariants.{Int, Ptr, Unknown, Part}
use Rattle.byte_mem.specs.Name.{same_pointer}

-- the kind whose values are the numbers of the scalar: those of a pointer type are of the unsigned type of its size (own)
abbrev pub kind_of : Abi → Scalar → IntKind
kind_of abi (OfKind kind) = kind
kind_of abi OfPointer = ulong_of abi

-- the size of the scalar in bytes
abbrev pub scalar_size : Abi → Scalar → ℕ
scalar_size abi (OfKind kind) = size_of kind
scalar_size abi OfPointer = pointer_size_of abi

-- the sizes that scalars have
abbrev pub IsSize : ℕ → Type 0
IsSize n = (n ≡ 1) ⊎ ((n ≡ 2) ⊎ ((n ≡ 4) ⊎ (n ≡ 8)))

-- the value is one of the scalar: an integer type of a pointer's size may hold a pointer, and one of one byte a part (own)
abbrev pub IsValue : Abi → Scalar → Value → Type 0
IsValue abi s (Int v) = IsOf (kind_of abi s) v
IsValue abi s (Ptr p) = scalar_size abi s ≡ pointer_size_of abi
IsValue abi s Unknown = Unit {0}
IsValue abi s (Part p k) = scalar_size abi s ≡ 1

-- the number whose digits to the base 256 the bytes are, the least first; none where one is not known
abbrev pub number_of : List Byte → Option ℕ
number_of [] = Some 0
number_of (Known b ∷ bytes) = option_map (λ n. b + 256 * n) (number_of bytes)
number_of (Blank ∷ bytes) = None
number_of (Fragment p k ∷ bytes) = None

-- that many digits of a number to the base 256, the least first
abbrev pub low_bytes : ℕ → ℕ → List Byte
low_bytes zero n = []
low_bytes (suc count) n = Known (n % 256) ∷ low_bytes count (n / 256)

-- that many parts of a pointer, from number k on
abbrev pub parts_of : Pointer → ℕ → ℕ → List Byte
parts_of p k zero = []
parts_of p k (suc count) = Fragment p k ∷ parts_of p (suc k) count

abbrev pub is_boolean : IntKind → Bool
is_boolean Boolean = true
is_boolean kind = false

-- the value of a kind whose bits are those of the number; of _Bool there are 0 and 1 alone (own: another byte is no value)
abbrev pub number_value : IntKind → ℕ → Value
number_value kind n = if is_boolean kind && nat_lt 1 n then Unknown else Int (wrapped kind (pos n))

-- the bytes are the parts of the pointer, from number k on
abbrev pub goes_on : Pointer → ℕ → List Byte → Bool
goes_on p k [] = true
goes_on p k (Fragment q j ∷ bytes) = same_pointer p q && (nat_eq k j && goes_on p (suc k) bytes)
goes_on p k (Known b ∷ bytes) = false
goes_on p k (Blank ∷ bytes) = false

-- the pointer whose parts the bytes are, all of them in order
abbrev pub whole_pointer : List Byte → Value
whole_pointer (Fragment p k ∷ bytes) = if nat_eq k 0 && goes_on p 1 bytes then Ptr p else Unknown
whole_pointer bytes = Unknown

-- the part that stands alone
abbrev pub lone_part : List Byte → Value
lone_part (Fragment p k ∷ []) = Part p k
lone_part bytes = Unknown

-- the value whose bytes are not all known: a pointer where the scalar has a pointer's size, a part where it has one byte
abbrev pub parts_value : ℕ → ℕ → List Byte → Value
parts_value pointer size bytes = if nat_eq size 1 then lone_part bytes else (if nat_eq size pointer then whole_pointer bytes else Unknown)

abbrev pub value_with : Abi → Scalar → List Byte → Option ℕ → Value
value_with abi s bytes (Some n) = number_value (kind_of abi s) n
value_with abi s bytes None = parts_value (pointer_size_of abi) (scalar_size abi s) bytes

-- the value of the scalar that the bytes represent
abbrev pub value_of : Abi → Scalar → List Byte → Value
value_of abi s bytes = value_with abi s bytes (number_of bytes)

-- the bytes that represent the value
abbrev pub bytes_of : Abi → Scalar → Value → List Byte
bytes_of abi s (Int v) = low_bytes (scalar_size abi s) (bits_of (kind_of abi s) v)
bytes_of abi s (Ptr p) = parts_of p 0 (scalar_size abi s)
bytes_of abi s Unknown = replicate (scalar_size abi s) Blank
bytes_of abi s (Part p k) = replicate (scalar_size abi s) (Fragment p k)
