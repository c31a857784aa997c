-- Device: what memory keeps where one side alone changes, and what a change of one object leaves as it was on both sides, each object under its own name.
use Rattle.std.specs.Prelude.{◌≡◌, ℕ, false, length, Option, Some, None}
use Rattle.cil_base.specs.declared.kinds.Abi.{Abi}
use Rattle.byte_mem.specs.declared.pointers.ObjName.{ObjName}
use Rattle.byte_mem.specs.declared.values.Value.{Value}
use Rattle.byte_mem.specs.Object.{Held}
use Rattle.byte_mem.specs.Memory.{Memory, with_held, changed}
use Rattle.byte_mem.specs.Below.{Names, BelowValue, Lift, BelowHeld, BelowMemory}
use Rattle.execution.specs.Data.{Kind, Datum, store_datum}

-- where one memory says no more than another, one of them may change alone: the first to what says no more than the second has, the second under a name that the first has not
pub record ChangesAlone (f : Names) : Type 0 where
  pub first : (m n : Memory) (x : ObjName) (o : Option Held) → Lift (BelowHeld f) o (n (f x)) → BelowMemory f m n → BelowMemory f (with_held m x o) n
  pub second : (m n : Memory) (y : ObjName) (o : Option Held) → ((x : ObjName) → f x ≡ y → m x ≡ None) → BelowMemory f m n → BelowMemory f m (with_held n y o)

-- each object under its own name
abbrev pub itself : Names
itself x = x

-- an object that can be written, of so many bytes
abbrev pub HasRoom : ℕ → Option Held → Type 0
HasRoom size None = ⊥
HasRoom size (Some h) = (h.function ≡ false) × (h.read_only ≡ false) × (length h.bytes ≡ size)

-- from two memories to two: no object begins on the first side, what the first side has not stays as it is on the second, and no object loses its room there
pub record Moves (s t m n : Memory) : Type 0 where
  pub below : BelowMemory itself m n
  pub none : (x : ObjName) → s x ≡ None → m x ≡ None
  pub same : (x : ObjName) → s x ≡ None → n x ≡ t x
  pub room : (size : ℕ) (x : ObjName) → HasRoom size (t x) → HasRoom size (n x)

-- a change that leaves what an object is and its size
abbrev pub Sizes : (Held → Option Held) → Type 0
Sizes g = (h j : Held) → g h ≡ Some j → (j.function ≡ h.function) × (j.read_only ≡ h.read_only) × (length j.bytes ≡ length h.bytes)

-- changes of one object on both sides, and stores (C11 6.5.16.1p2), move so
pub record ChangesMove : Type 0 where
  pub changed : (s t : Memory) (x : ObjName) (g k : Held → Option Held) → Lift (BelowMemory itself) (changed s x g) (changed t x k) → Sizes k → Lift (Moves s t) (changed s x g) (changed t x k)
  pub stored : (abi : Abi) (s t : Memory) (kind : Kind) (v w : Value) (d e : Datum) → BelowValue itself v w
      → Lift (BelowMemory itself) (store_datum abi s kind v d) (store_datum abi t kind w e) → Lift (Moves s t) (store_datum abi s kind v d) (store_datum abi t kind w e)
