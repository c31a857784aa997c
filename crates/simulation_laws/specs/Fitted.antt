-- Device: data that fit their kinds come back as they were stored, and calls of the host leave activations' objects alone and give data that fit (C11 6.2.4p2, 6.5.2.2, 6.5.16.1p2).
use Rattle.std.specs.Prelude.{◌≡◌, ℕ, ◌<◌, List, length, Option, Some, None, IfSome, All}
use Rattle.cil_base.specs.declared.kinds.Abi.{Abi}
use Rattle.byte_mem.specs.declared.values.Scalar.{Scalar}
use Rattle.byte_mem.specs.declared.values.Value.{Value}
use Rattle.byte_mem.specs.Scalar.{IsValue}
use Rattle.byte_mem.specs.Memory.{Memory}
use Rattle.host_calls.specs.declared.names.HostName.{HostName}
use Rattle.host_calls.specs.declared.calls.HostResult.{HostResult}
use Rattle.host_calls.specs.declared.calls.HostResult.TheVariants.{Value as Gives, Exit as Ends, Undefined, NeedsInput, Memory as WantOfMemory}
use Rattle.host_calls.specs.Host.{HostState, host}
use Rattle.host_calls.specs.Laws.{BelowState, BelowArgs}
use Rattle.execution.specs.States.{State, Result, Goes, Exits, Running, Undefined as WentUndefined}
use Rattle.execution.specs.Data.{Kind, OfVoid, OfScalar, OfAggregate, Datum, Single, Bytes, load_datum, store_datum, unknown, local_name}
use Rattle.execution.specs.Calls.{Call, ready as at_hand, input_after, host_called}
use Rattle.simulation_laws.specs.Changes.{itself, HasRoom}
use Rattle.simulation_laws.specs.Fitting.{IsReady}

-- the value of a scalar is one of its kind, and a struct or union has as many bytes as its size says; of void nothing is asked
abbrev pub FitsKind : Abi → Kind → Datum → Type 0
FitsKind abi OfVoid d = Unit {0}
FitsKind abi (OfScalar s) (Single v) = IsValue abi s v
FitsKind abi (OfScalar s) (Bytes bytes) = ⊥
FitsKind abi (OfAggregate size) (Single v) = ⊥
FitsKind abi (OfAggregate size) (Bytes bytes) = length bytes ≡ size

abbrev pub FitsAny : Abi → Option Kind → Datum → Type 0
FitsAny abi None d = Unit {0}
FitsAny abi (Some kind) d = FitsKind abi kind d

-- what a part of a program gives fits a kind
abbrev pub GivesKind : Abi → Option Kind → Result Datum → Type 0
GivesKind abi kind (Goes d s) = FitsAny abi kind d
GivesKind abi kind (Exits status s) = Unit {0}
GivesKind abi kind (Running s) = Unit {0}
GivesKind abi kind (WentUndefined s) = Unit {0}

-- input is bytes, as that of an environment (`IsEnv`; 7.21.7.1p2, own)
abbrev pub AreBytes : List ℕ → Type 0
AreBytes input = All (λ b. b < 256) input

pub record DataFit : Type 0 where
  -- what is at hand of input that is bytes is a byte, and what is left behind it is bytes
  pub ready : (input : List ℕ) → AreBytes input → IsReady (at_hand input)
  pub left : (next : Option (Option ℕ)) (input : List ℕ) → AreBytes input → AreBytes (input_after next input)
  pub loaded : (abi : Abi) (m : Memory) (kind : Kind) (place : Value) → IfSome (load_datum abi m kind place) (FitsKind abi kind)
  pub unknown : (abi : Abi) (kind : Kind) → FitsKind abi kind (unknown kind)
  -- what fits is loaded again as it was stored
  pub again : (abi : Abi) (m n : Memory) (kind : Kind) (place : Value) (d : Datum) → FitsKind abi kind d → store_datum abi m kind place d ≡ Some n → load_datum abi n kind place ≡ Some d
  -- a call of the host gives the kind that the caller asked for
  pub host : (name : HostName) (c : Call) (s : State) → IsReady (at_hand s.input) → GivesKind c.abi c.result (host_called name c s)

-- from two memories to two: no object of an activation begins on the first side, what the first side has not of them stays as it is on the second, and none loses its room there
pub record Stays (s t m n : Memory) : Type 0 where
  pub none : (act i : ℕ) → s (local_name act i) ≡ None → m (local_name act i) ≡ None
  pub same : (act i : ℕ) → s (local_name act i) ≡ None → n (local_name act i) ≡ t (local_name act i)
  pub room : (size act i : ℕ) → HasRoom size (t (local_name act i)) → HasRoom size (n (local_name act i))

-- where the first call is undefined, the second may do anything
abbrev pub StaysBy : HostResult → Memory → Memory → Memory → Memory → Type 0
StaysBy Undefined s t m n = Unit {0}
StaysBy (Gives v) s t m n = Stays s t m n
StaysBy (Ends status) s t m n = Stays s t m n
StaysBy NeedsInput s t m n = Stays s t m n
StaysBy WantOfMemory s t m n = Stays s t m n

abbrev pub HostStays : Type 0
HostStays = (abi : Abi) (name : HostName) (wanted : Option Scalar) (xs ys : List (Scalar × Value)) (s t : HostState) → BelowArgs itself xs ys → BelowState itself s t
    → StaysBy (host abi name wanted xs s).0 s.memory t.memory (host abi name wanted xs s).1.memory (host abi name wanted ys t).1.memory
