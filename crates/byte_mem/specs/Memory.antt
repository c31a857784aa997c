-- Definition: memory gives each name what is live under it (C11 6.2.4); a missing object and a dead one are the same.
use Rattle.std.specs.Prelude.{ℕ, Bool, if◌then◌else◌, List, length, Option, Some, None, option_map}
use Rattle.cil_base.specs.declared.kinds.Abi.{Abi}
use Rattle.byte_mem.specs.declared.pointers.ObjName.{ObjName}
use Rattle.byte_mem.specs.declared.pointers.Pointer.{Pointer}
use Rattle.byte_mem.specs.declared.values.Byte.{Byte}
use Rattle.byte_mem.specs.declared.values.Scalar.{Scalar}
use Rattle.byte_mem.specs.declared.values.Value.{Value}
use Rattle.byte_mem.specs.Steps.{◌>>=◌}
use Rattle.byte_mem.specs.Name.{same_name}
use Rattle.byte_mem.specs.Object.{Held, load_held, load_part, store_held, store_part, fill_part, new_held, function_held, protect_held}

abbrev pub Memory : Type 0
Memory = ObjName → Option Held

abbrev pub no_memory : Memory
no_memory n = None

-- the memory in which that stands under the name, and all else is as before
abbrev pub with_held : Memory → ObjName → Option Held → Memory
with_held m n h x = if same_name n x then h else m x

-- C11 6.2.4p2: an object begins to live
abbrev pub make : Memory → ObjName → ℕ → Byte → Bool → Memory
make m n size fill read_only = with_held m n (Some (new_held size fill read_only))

abbrev pub make_function : Memory → ObjName → Memory
make_function m n = with_held m n (Some function_held)

-- C11 6.2.4p2: its lifetime ends
abbrev pub end_object : Memory → ObjName → Memory
end_object m n = with_held m n None

abbrev pub live_size : Memory → ObjName → Option ℕ
live_size m n = option_map (λ h. length h.bytes) (m n)

abbrev pub protect : Memory → ObjName → Bool → Memory
protect m n read_only = with_held m n (option_map (λ h. protect_held h read_only) (m n))

-- C11 6.3.2.1p2: the value that is stored in the designated object
abbrev pub load : Abi → Memory → Pointer → Scalar → Option Value
load abi m p s = m p.name >>= λ h. load_held abi h p.offset s

abbrev pub load_bytes : Memory → Pointer → ℕ → Option (List Byte)
load_bytes m p n = m p.name >>= λ h. load_part h p.offset n

-- the memory in which what stands under the name is changed
abbrev pub changed : Memory → ObjName → (Held → Option Held) → Option Memory
changed m n change = (m n >>= change) >>= λ h. Some (with_held m n (Some h))

-- C11 6.5.16.1p2: the value replaces the one that is stored in the designated object
abbrev pub store : Abi → Memory → Pointer → Scalar → Value → Option Memory
store abi m p s v = changed m p.name (λ h. store_held abi h p.offset s v)

abbrev pub store_bytes : Memory → Pointer → List Byte → Option Memory
store_bytes m p new = changed m p.name (λ h. store_part h p.offset new)

-- n bytes become that number
abbrev pub fill : Memory → Pointer → ℕ → ℕ → Option Memory
fill m p n b = changed m p.name (λ h. fill_part h p.offset n b)

abbrev pub zero : Memory → Pointer → ℕ → Option Memory
zero m p n = fill m p n 0
