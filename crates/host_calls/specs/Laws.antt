-- Definition: the host knows no more where its arguments and its state know less, and it knows no object's name (own).
use Rattle.std.specs.Prelude.{◌≡◌, ℕ, List, [], ◌∷◌, Option}
use Rattle.cil_base.specs.declared.kinds.Abi.{Abi}
use Rattle.byte_mem.specs.declared.pointers.ObjName.TheVariants.{Heap}
use Rattle.byte_mem.specs.declared.values.Scalar.{Scalar}
use Rattle.byte_mem.specs.declared.values.Value.{Value}
use Rattle.byte_mem.specs.Below.{Names, IsOneToOne, BelowValue, BelowMemory}
use Rattle.host_calls.specs.declared.names.HostName.{HostName}
use Rattle.host_calls.specs.declared.calls.HostResult.{HostResult}
use Rattle.host_calls.specs.declared.calls.HostResult.TheVariants.{Value as Gives, Exit as Ends, Undefined, NeedsInput, Memory as WantOfMemory}
use Rattle.host_calls.specs.Host.{HostState, Outcome, host}

-- the map keeps each object of malloc under its number
abbrev pub KeepsHeap : Names → Type 0
KeepsHeap f = (i : ℕ) → f (Heap i) ≡ Heap i

-- the first state says no more than the second: of memory alone it may know less
pub record BelowState (f : Names) (s t : HostState) : Type 0 where
  pub memory : BelowMemory f s.memory t.memory
  pub ready : t.ready ≡ s.ready
  pub out : t.out ≡ s.out
  pub live : t.live ≡ s.live
  pub heap : t.heap ≡ s.heap

abbrev pub BelowArgs : Names → List (Scalar × Value) → List (Scalar × Value) → Type 0
BelowArgs f [] [] = Unit {0}
BelowArgs f [] (b ∷ more) = ⊥
BelowArgs f (a ∷ args) [] = ⊥
BelowArgs f (a ∷ args) (b ∷ more) = (b.0 ≡ a.0) × BelowValue f a.1 b.1 × BelowArgs f args more

abbrev pub BelowResult : Names → HostResult → HostResult → Type 0
BelowResult f (Gives v) (Gives w) = BelowValue f v w
BelowResult f (Gives v) (Ends status) = ⊥
BelowResult f (Gives v) Undefined = ⊥
BelowResult f (Gives v) NeedsInput = ⊥
BelowResult f (Gives v) WantOfMemory = ⊥
BelowResult f (Ends status) r = r ≡ Ends status
BelowResult f Undefined r = Unit {0}
BelowResult f NeedsInput r = r ≡ NeedsInput
BelowResult f WantOfMemory r = r ≡ WantOfMemory

-- an undefined call may be anything; another one is the same, but for what it knows
abbrev pub BelowAnswer : Names → HostResult → HostState → Outcome → Type 0
BelowAnswer f Undefined s u = Unit {0}
BelowAnswer f (Gives v) s u = BelowResult f (Gives v) u.0 × BelowState f s u.1
BelowAnswer f (Ends status) s u = BelowResult f (Ends status) u.0 × BelowState f s u.1
BelowAnswer f NeedsInput s u = BelowResult f NeedsInput u.0 × BelowState f s u.1
BelowAnswer f WantOfMemory s u = BelowResult f WantOfMemory u.0 × BelowState f s u.1

abbrev pub BelowOutcome : Names → Outcome → Outcome → Type 0
BelowOutcome f o u = BelowAnswer f o.0 o.1 u

pub record HostKeepsOrder : Type 0 where
  -- monotone in Unknown, along a map of names
  pub monotone : (f : Names) → IsOneToOne f → KeepsHeap f → (abi : Abi) (name : HostName) (wanted : Option Scalar) (args more : List (Scalar × Value)) (s t : HostState)
      → BelowArgs f args more → BelowState f s t → BelowOutcome f (host abi name wanted args s) (host abi name wanted more t)
  -- indifferent to names: where two states and arguments are the same but for names, so are the results, the undefined ones too
  pub indifferent : (f g : Names) → IsOneToOne f → IsOneToOne g → KeepsHeap f → KeepsHeap g → (abi : Abi) (name : HostName) (wanted : Option Scalar) (args more : List (Scalar × Value)) (s t : HostState)
      → BelowArgs f args more → BelowArgs g more args → BelowState f s t → BelowState g t s
      → BelowOutcome f (host abi name wanted args s) (host abi name wanted more t) × BelowOutcome g (host abi name wanted more t) (host abi name wanted args s)
