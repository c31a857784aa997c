-- Device: the values that conversions, operators, loads and the host give are values of their kinds (C11 6.2.6.1p5, 6.3.1.3, 6.5p5).
use Rattle.std.specs.Prelude.{ℕ, ◌<◌, ◌^◌, List, Option, Some, None, IfSome}
use Rattle.cil_base.specs.declared.kinds.Abi.{Abi}
use Rattle.cil_base.specs.declared.kinds.IntKind.{IntKind}
use Rattle.cil_base.specs.declared.operators.BinOp.{BinOp}
use Rattle.byte_mem.specs.declared.pointers.Pointer.{Pointer}
use Rattle.byte_mem.specs.declared.values.Scalar.{Scalar}
use Rattle.byte_mem.specs.declared.values.Scalar.TheVariants.{Int as OfKind, Ptr as OfPointer}
use Rattle.byte_mem.specs.declared.values.Value.{Value}
use Rattle.byte_mem.specs.Scalar.{IsValue}
use Rattle.byte_mem.specs.Memory.{Memory, load}
use Rattle.byte_mem.specs.Operator.{converted, computed, pointer_sum, pointer_less, member_place}
use Rattle.host_calls.specs.declared.names.HostName.{HostName}
use Rattle.host_calls.specs.declared.calls.HostResult.{HostResult}
use Rattle.host_calls.specs.declared.calls.HostResult.TheVariants.{Value as Gives, Exit as Ends, Undefined, NeedsInput, Memory as WantOfMemory}
use Rattle.host_calls.specs.Host.{HostState, host}

pub record ValuesFit : Type 0 where
  pub converted : (abi : Abi) (s : Scalar) (v : Value) → IsValue abi s (converted abi s v)
  pub loaded : (abi : Abi) (m : Memory) (p : Pointer) (s : Scalar) → IfSome (load abi m p s) (IsValue abi s)
  pub computed : (abi : Abi) (op : BinOp) (kind : IntKind) (v w : Value) → IsValue abi (OfKind kind) v → IfSome (computed op kind v w) (IsValue abi (OfKind kind))
  pub summed : (abi : Abi) (m : Memory) (v w : Value) (size : ℕ) → IfSome (pointer_sum m v w size) (IsValue abi OfPointer)
  pub lessened : (abi : Abi) (m : Memory) (v w : Value) (size : ℕ) → IfSome (pointer_less m v w size) (IsValue abi OfPointer)
  pub member : (abi : Abi) (m : Memory) (v : Value) (offset : ℕ) → IfSome (member_place m v offset) (IsValue abi OfPointer)

-- a byte that is at hand is one (C11 7.21.7.1p2)
abbrev pub IsReady : Option (Option ℕ) → Type 0
IsReady None = Unit {0}
IsReady (Some None) = Unit {0}
IsReady (Some (Some b)) = b < 2 ^ 8

-- what a call of the host gives is a value of the kind that was asked for
abbrev pub FitsWanted : Abi → Option Scalar → Value → Type 0
FitsWanted abi None v = Unit {0}
FitsWanted abi (Some s) v = IsValue abi s v

abbrev pub FitsResult : Abi → Option Scalar → HostResult → Type 0
FitsResult abi wanted (Gives v) = FitsWanted abi wanted v
FitsResult abi wanted (Ends status) = Unit {0}
FitsResult abi wanted Undefined = Unit {0}
FitsResult abi wanted NeedsInput = Unit {0}
FitsResult abi wanted WantOfMemory = Unit {0}

abbrev pub HostFits : Type 0
HostFits = (abi : Abi) (name : HostName) (wanted : Option Scalar) (args : List (Scalar × Value)) (s : HostState) → IsReady s.ready → FitsResult abi wanted (host abi name wanted args s).0
