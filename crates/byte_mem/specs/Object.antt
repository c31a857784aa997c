-- Definition: an object, and the reading and writing of its bytes (C11 6.2.6.1, 6.3.2.1p2, 6.5.3.2p4).
use Rattle.std.specs.Prelude.{ℕ, ◌+◌, ◌%◌, Bool, true, false, not, nat_eq, nat_le, List, ◌++◌, length, take, drop, replicate, Option, Some, None, ℤ, pos, negsuc}
use Rattle.cil_base.specs.declared.kinds.Abi.{Abi}
use Rattle.byte_mem.specs.declared.values.Byte.{Byte}
use Rattle.byte_mem.specs.declared.values.Byte.TheVariants.{Known}
use Rattle.byte_mem.specs.declared.values.Scalar.{Scalar}
use Rattle.byte_mem.specs.declared.values.Value.{Value}
use Rattle.byte_mem.specs.Steps.{◌>>=◌, only_if}
use Rattle.byte_mem.specs.Scalar.{scalar_size, value_of, bytes_of}

-- what is live: an object with its bytes, or a function, which has none
pub record Held : Type 0 where
  pub function : Bool
  pub read_only : Bool
  pub bytes : List Byte

abbrev pub part_at : ℕ → ℕ → List Byte → List Byte
part_at i n bytes = take n (drop i bytes)

-- the bytes with others from place i on
abbrev pub with_part : ℕ → List Byte → List Byte → List Byte
with_part i new bytes = take i bytes ++ (new ++ drop (i + length new) bytes)

-- the place of the first of n bytes at an offset into an object of that size: they all lie in it
abbrev pub inside : ℤ → ℕ → ℕ → Option ℕ
inside (pos i) n size = only_if (nat_le (i + n) size) i
inside (negsuc i) n size = None

-- the same for a scalar, whose alignment is its size (own)
abbrev pub aligned : ℤ → ℕ → ℕ → Option ℕ
aligned offset n size = inside offset n size >>= λ i. only_if (nat_eq (i % n) 0) i

abbrev pub load_held : Abi → Held → ℤ → Scalar → Option Value
load_held abi h offset s =
    aligned offset (scalar_size abi s) (length h.bytes) >>= λ i. Some (value_of abi s (part_at i (scalar_size abi s) h.bytes))

abbrev pub load_part : Held → ℤ → ℕ → Option (List Byte)
load_part h offset n = inside offset n (length h.bytes) >>= λ i. Some (part_at i n h.bytes)

-- writes go to what is not read-only (C11 6.7.3p6: an object defined with a const type; 6.4.5p7: a string literal)
abbrev pub write_at : Held → Option ℕ → List Byte → Option Held
write_at h place new =
    place >>= λ i. only_if (not h.read_only) (record { function = h.function; read_only = h.read_only; bytes = with_part i new h.bytes })

abbrev pub store_held : Abi → Held → ℤ → Scalar → Value → Option Held
store_held abi h offset s v = write_at h (aligned offset (scalar_size abi s) (length h.bytes)) (bytes_of abi s v)

abbrev pub store_part : Held → ℤ → List Byte → Option Held
store_part h offset new = write_at h (inside offset (length new) (length h.bytes)) new

-- n equal bytes
abbrev pub fill_part : Held → ℤ → ℕ → ℕ → Option Held
fill_part h offset n b = store_part h offset (replicate n (Known b))

-- an object of that size, each byte being the given one
abbrev pub new_held : ℕ → Byte → Bool → Held
new_held size fill read_only = record { function = false; read_only = read_only; bytes = replicate size fill }

-- a function is live, has no bytes, and can't be written to
abbrev pub function_held : Held
function_held = record { function = true; read_only = true; bytes = replicate 0 (Known 0) }

abbrev pub protect_held : Held → Bool → Held
protect_held h read_only = record { function = h.function; read_only = read_only; bytes = h.bytes }
