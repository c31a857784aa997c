-- Definition: one memory says no more than another, under other names: what is known in the first is the same in the second.
use Rattle.std.specs.Prelude.{◌≡◌, false, List, [], ◌∷◌, Option, Some, None}
use Rattle.byte_mem.specs.declared.pointers.ObjName.{ObjName}
use Rattle.byte_mem.specs.declared.pointers.Pointer.{Pointer}
use Rattle.byte_mem.specs.declared.values.Byte.{Byte}
use Rattle.byte_mem.specs.declared.values.Byte.TheVariants.{Known, Unknown as Blank, Part as Fragment}
use Rattle.byte_mem.specs.declared.values.Value.{Value}
use Rattle.byte_mem.specs.declared.values.Value.TheVariants.{Int, Ptr, Unknown, Part}
use Rattle.byte_mem.specs.Object.{Held}
use Rattle.byte_mem.specs.Memory.{Memory}

-- the name under which the second memory has what the first has under a name
abbrev pub Names : Type 0
Names = ObjName → ObjName

abbrev pub IsOneToOne : Names → Type 0
IsOneToOne f = (a b : ObjName) → f a ≡ f b → a ≡ b

abbrev pub moved : Names → Pointer → Pointer
moved f p = record { name = f p.name; offset = p.offset }

-- an unknown byte says nothing
abbrev pub BelowByte : Names → Byte → Byte → Type 0
BelowByte f (Known b) c = c ≡ Known b
BelowByte f Blank c = Unit {0}
BelowByte f (Fragment p k) c = c ≡ Fragment (moved f p) k

abbrev pub BelowBytes : Names → List Byte → List Byte → Type 0
BelowBytes f [] [] = Unit {0}
BelowBytes f [] (c ∷ more) = ⊥
BelowBytes f (b ∷ bytes) [] = ⊥
BelowBytes f (b ∷ bytes) (c ∷ more) = BelowByte f b c × BelowBytes f bytes more

-- an unknown value says nothing
abbrev pub BelowValue : Names → Value → Value → Type 0
BelowValue f (Int v) w = w ≡ Int v
BelowValue f (Ptr p) w = w ≡ Ptr (moved f p)
BelowValue f Unknown w = Unit {0}
BelowValue f (Part p k) w = w ≡ Part (moved f p) k

-- where the first is defined, so is the second, and they are related
abbrev pub Lift : {A B : Type 0} → (A → B → Type 0) → Option A → Option B → Type 0
Lift R None y = Unit {0}
Lift R (Some a) None = ⊥
Lift R (Some a) (Some b) = R a b

-- the second is the same as the first
abbrev pub Same : {A : Type 0} → A → A → Type 0
Same a b = b ≡ a

-- both are functions or neither is; where the first can be written, so can the second
pub record BelowHeld (f : Names) (h k : Held) : Type 0 where
  pub function : k.function ≡ h.function
  pub writable : h.read_only ≡ false → k.read_only ≡ false
  pub bytes : BelowBytes f h.bytes k.bytes

-- what the first memory lacks costs nothing: the second may have any objects besides
abbrev pub BelowMemory : Names → Memory → Memory → Type 0
BelowMemory f m n = (x : ObjName) → Lift (BelowHeld f) (m x) (n (f x))
