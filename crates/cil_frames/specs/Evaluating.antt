-- Device: the parts of a call, evaluated, and what the call does then.
use Rattle.std.specs.Prelude.{◌≡◌, ℕ, List, ◌++◌, Option, Some, None, option_map}
use Rattle.cil_base.specs.declared.kinds.Abi.{Abi}
use Rattle.byte_mem.specs.declared.stores.Store.{Store}
use Rattle.byte_mem.specs.declared.values.Byte.{Byte}
use Rattle.byte_mem.specs.declared.values.Value.{Value}
use Rattle.byte_mem.specs.Steps.{◌>>=◌}
use Rattle.byte_mem.specs.Memory.{Memory, store, store_bytes}
use Rattle.byte_mem.specs.Operator.{pointer_in}
use Rattle.byte_mem.specs.Store.{memory}
use Rattle.execution.specs.States.{State, Result, Undefined, bind}
use Rattle.execution.specs.Data.{Datum, store_datum}
use Rattle.execution.specs.Data as passed
use Rattle.execution.specs.Jumps.{Signal}
use Rattle.execution.specs.Calls as meaning
use Rattle.execution.specs.Calls.{Enter}
use Rattle.cil_semantics.specs.Statements.{written}
use Rattle.cil_machine.specs.Terms.{spot_place}
use Rattle.cil_code.specs.declared.calls.Kind.{Kind}
use Rattle.cil_code.specs.declared.calls.Receiver.{Receiver}
use Rattle.cil_code.specs.declared.calls.Call.{Call}
use Rattle.cil_code.specs.Calling.{kind_from, called_in}
use Rattle.cil_frames.specs.declared.calling.Destination.{Destination}
use Rattle.cil_frames.specs.declared.calling.Evaluated.{Evaluated}
use Rattle.cil_frames.specs.Kinds.{single_in, size_in}
use Rattle.cil_frames.specs.Entering.{arguments_of}

-- the call with its parts
abbrev pub call_of : Abi → Evaluated → meaning.Call
call_of abi e = record { abi = abi; callee = e.callee; result = kind_from e.result; arguments = arguments_of e.arguments.items }

-- a result of that kind goes to a place
abbrev pub goes_to : Option Kind → Value → Option Destination
goes_to kind v = Some (record { place = v; kind = kind })

-- where the result goes
abbrev pub destination : Abi → Memory → ℕ → Option Receiver → Option (Option Destination)
destination abi m act None = Some None
destination abi m act (Some r) = option_map (goes_to r.kind) (spot_place abi m act r.place)

-- the memory in which the result is stored where it is to go
abbrev pub kept_in : Abi → Option Destination → Datum → Memory → Option Memory
kept_in abi None d m = Some m
kept_in abi (Some to) d m = kind_from to.kind >>= λ k. store_datum abi m k to.place d

-- a scalar's value is stored where the result goes
abbrev pub value_kept : Abi → Destination → Value → Memory → Option Memory
value_kept abi to v m = single_in to.kind >>= λ s. pointer_in to.place >>= λ p. store abi m p s v

-- the bytes of a struct or union are
abbrev pub bytes_kept : Destination → List Byte → Memory → Option Memory
bytes_kept to bytes m = size_in to.kind >>= λ size. pointer_in to.place >>= λ p. store_bytes m p bytes

-- what comes behind the callee
abbrev pub keeps : Abi → Option Destination → Datum → State → Result Signal
keeps abi to d s = written s (kept_in abi to d s.memory)

-- what the call does, once its parts are evaluated
abbrev pub goes_into : Abi → Enter → Option Evaluated → State → Result Signal
goes_into abi enter None s = Undefined s
goes_into abi enter (Some e) s = bind (enter (call_of abi e) s) (keeps abi e.to)

-- in each state with that memory the call does what it does with these parts, whatever calls do; with none it is undefined
pub record Evaluates (mem : Store) (act : ℕ) (k : Call) (o : Option Evaluated) : Type 0 where
  pub does : (s : State) → s.memory ≡ memory mem → (enter : Enter) → called_in mem.abi act enter k s ≡ goes_into mem.abi enter o s

-- the arguments so far, and then the others
abbrev pub passed_on : List passed.Argument → Option (List passed.Argument) → Option (List passed.Argument)
passed_on done rest = rest >>= λ xs. Some (done ++ xs)
