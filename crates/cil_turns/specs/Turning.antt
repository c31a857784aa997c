-- Device: the parts of a turn, and what each leaves.
use Rattle.std.specs.Prelude.{◌≡◌, ℕ, suc, ◌<◌, ◌⊎◌, Bool, false, true, ◌&&◌, List, [], ◌++◌, length, map, Option, Some, IfSome, slice_get}
use Rattle.cil_base.specs.declared.kinds.Abi.{Abi}
use Rattle.cil_base.specs.declared.runs.Outcome.TheVariants.{Exit, Undefined as OutcomeUndefined}
use Rattle.host_calls.specs.declared.names.HostName.{HostName}
use Rattle.outside.specs.Moves.{WasRead}
use Rattle.byte_mem.specs.Memory.{Memory}
use Rattle.byte_mem.specs.Store.{memory}
use Rattle.execution.specs.States.{State, last}
use Rattle.execution.specs.Data.{Datum, Single, same_kind, without_objects}
use Rattle.execution.specs.Calls.{arguments_match, host_called, number_of}
use Rattle.execution.specs.Runs.{status_of}
use Rattle.cil_streams.specs.declared.ends.HostEnd.{HostEnd}
use Rattle.cil_streams.specs.declared.ends.HostEnd.TheVariants as host_end
use Rattle.cil_streams.specs.Held.{StreamsState}
use Rattle.cil_streams.specs.Following.{Matches}
use Rattle.cil_streams.specs.HostAnswers as host
use Rattle.cil_code.specs.declared.calls.Kind.{Kind}
use Rattle.cil_code.specs.declared.calls.Call.{Call}
use Rattle.cil_code.specs.declared.steps.Step.{Step}
use Rattle.cil_code.specs.declared.steps.Step.TheVariants.{Call as CallStep}
use Rattle.cil_code.specs.Calling.{kind_from}
use Rattle.cil_frames.specs.declared.activations.Argument.{Argument}
use Rattle.cil_frames.specs.declared.calling.Destination.{Destination}
use Rattle.cil_frames.specs.declared.calling.Evaluated.{Evaluated}
use Rattle.cil_frames.specs.declared.courses.Stop.{Stop}
use Rattle.cil_frames.specs.declared.courses.Stop.TheVariants as stop
use Rattle.cil_frames.specs.declared.frames.Function.{Function}
use Rattle.cil_frames.specs.declared.frames.Frame.{Frame}
use Rattle.cil_frames.specs.declared.frames.Entity.{Entity}
use Rattle.cil_frames.specs.declared.frames.Entity.TheVariants.{Program as OfProgram}
use Rattle.cil_frames.specs.Course.{IsCallAt, Ran}
use Rattle.cil_frames.specs.Entering.{arguments_of, objects_of, begun_in}
use Rattle.cil_frames.specs.Evaluating.{call_of, Evaluates}
use Rattle.cil_frames.specs.Frames.{counted}
use Rattle.cil_frames.specs.Keeping.{SameHeap}
use Rattle.cil_turns.specs.declared.ends.RunEnd.{RunEnd}
use Rattle.cil_turns.specs.declared.ends.RunEnd.TheVariants.{Exited, StillRunning, Undefined, ReadFault, WriteFault, Memory as WantOfMemory}
use Rattle.cil_turns.specs.declared.runs.FirstCall.{FirstCall}
use Rattle.cil_turns.specs.declared.runs.Run.{Run}
use Rattle.cil_turns.specs.declared.runs.Stand.{Stand}
use Rattle.cil_turns.specs.declared.runs.Turn.{Turn}
use Rattle.cil_turns.specs.declared.runs.Turn.TheVariants.{On, Stopped}
use Rattle.cil_turns.specs.Ends.{Sends, ReadAsNeeded}
use Rattle.cil_turns.specs.Standing.{Waits, Stands, from_kept}
use Rattle.cil_turns.specs.Moving.{TurnedQuietly}

-- a course has stopped so, and only memory and units have changed
pub record Coursed (old new : Run) (x : Stand) (code : List Step) (stop : Stop) : Type 0 where
  pub ran : Ran old.mem new.mem x.act code x.place old.left new.left stop
  pub heap : SameHeap (memory old.mem) (memory new.mem)
  pub others : new ≡ record old { mem = new.mem; left = new.left }

-- a call stands where a course has stopped at one
abbrev pub CallsAt : List Step → Stop → Type 0
CallsAt code (stop.Call q) = IsCallAt code q
CallsAt code stop.Running = Unit {0}
CallsAt code (stop.Ended d) = Unit {0}
CallsAt code stop.Undefined = Unit {0}

-- a course of a function of the table has stopped
pub record StopsAt (table : List (Option Entity)) (run : Run) (x : Stand) (f : Function) (stop : Stop) : Type 0 where
  pub waits : Waits table run
  pub running : slice_get table x.function ≡ Some (Some (OfProgram f))
  pub calls : CallsAt f.code.items stop

-- a machine has come to a call at x; y is the place behind it
pub record StandsBefore (table : List (Option Entity)) (run : Run) (x y : Stand) (k : Call) : Type 0 where
  pub function : Function
  pub stands : Stands table run x
  pub running : slice_get table x.function ≡ Some (Some (OfProgram function))
  pub there : slice_get function.code.items x.place ≡ Some (CallStep k)
  pub behind : y ≡ record x { place = suc x.place }
  pub within : suc x.place < length function.code.items

-- and its parts are evaluated
pub record StandsAtCall (table : List (Option Entity)) (run : Run) (x y : Stand) (e : Evaluated) : Type 0 where
  pub call : Call
  pub before : StandsBefore table run x y call
  pub parts : Evaluates run.mem x.act call (Some e)

-- the kinds of a call are those of a loaded function
abbrev pub kinds_agree : Function → Option Kind → List Argument → Bool
kinds_agree f result arguments = same_kind (kind_from f.result) (kind_from result) && arguments_match (map kind_from f.parameters.items) (arguments_of arguments)

-- an activation of a loaded function has begun where those activations wait: a unit is spent, and it stands at its first place
pub record Begun (old new : Run) (waiting : List Frame) (callee : ℕ) (f : Function) (arguments : List Argument) (x : Stand) : Type 0 where
  pub stand : x ≡ record { function = callee; act = old.next; place = 0 }
  pub memory : memory new.mem ≡ begun_in old.mem.abi old.next (arguments_of arguments) (objects_of f.objects.items) (memory old.mem)
  pub model : new.mem.abi ≡ old.mem.abi
  pub streams : new.streams ≡ old.streams
  pub left : suc new.left ≡ old.left
  pub next : new.next ≡ suc old.next
  pub frames : new.frames.items ≡ waiting

-- the frame of the caller, which goes on there
abbrev pub frame_of : Stand → Option Destination → Frame
frame_of x to = record { function = x.function; act = x.act; place = x.place; to = to }

-- the first call is of a function of the table, and nothing waits
pub record FirstStands (table : List (Option Entity)) (run : Run) (f : Function) (call : FirstCall) : Type 0 where
  pub waits : Waits table run
  pub running : slice_get table call.callee ≡ Some (Some (OfProgram f))
  pub frames : run.frames.items ≡ []

-- the objects of an activation have ended
pub record Left (old new : Run) (act : ℕ) (f : Function) : Type 0 where
  pub memory : memory new.mem ≡ without_objects act (counted 0 (length f.parameters.items)) (without_objects act (map number_of (objects_of f.objects.items)) (memory old.mem))
  pub model : new.mem.abi ≡ old.mem.abi
  pub others : new ≡ record old { mem = new.mem }

-- a run goes on there, or is undefined; no unit is spent, and the same activations wait
abbrev pub GoesTo : Stand → Run → Run → Turn → Type 0
GoesTo y old new (On x) = (x ≡ y) × (new.left ≡ old.left) × (new.frames.items ≡ old.frames.items)
GoesTo y old new (Stopped end) = Unit {0}

-- where the source has just that input still to give, a call of the host finds its end
abbrev pub HostFinds : Abi → HostName → Evaluated → Memory → StreamsState → List ℕ → Type 0
HostFinds abi name e m held input = (s : State) (written : List ℕ) → Matches s m held written input → (last (host_called name (call_of abi e) s)).at_end ≡ true

-- a call of the host with evaluated parts was answered
pub record Asked (end : HostEnd) (abi : Abi) (name : HostName) (e : Evaluated) (m m' : Memory) (held held' : StreamsState) (left left' taken taken' : Option (List ℕ)) : Type 0 where
  pub got : List ℕ
  pub sent : List ℕ
  pub read : WasRead left left' got
  pub sends : host.Sends end taken taken' sent
  pub asked : ReadAsNeeded (HostFinds abi name e m held) held.ended got held'.ended
  pub stays : held.ended ≡ true → (held'.ended ≡ true) × (got ≡ [])
  pub stops : end ≡ host_end.ReadFault → held'.ended ≡ false
  pub finds : held.ended ≡ false → held'.ended ≡ true → IfSome left' (λ bytes. bytes ≡ [])
  pub means : (s : State) (written tail : List ℕ) → (held'.ended ≡ true → tail ≡ []) → Matches s m held written (got ++ tail) → host.Means end (host_called name (call_of abi e) s) s m' held' written sent tail

-- a run is over, and nothing has changed
pub record IsOver (turn : Turn) (end : RunEnd) (old new : Run) : Type 0 where
  pub over : turn ≡ Stopped end
  pub same : new ≡ old

-- what comes behind an answer of the host: a value is kept, and the run goes on at y
abbrev pub HostTurned : HostEnd → List (Option Entity) → Run → Run → Option Destination → Stand → Turn → Type 0
HostTurned (host_end.Value v) table old new to y turn = Stands table old y → TurnedQuietly table (from_kept table old to (Single v) y) old new turn
HostTurned (host_end.Exit status) table old new to y turn = IsOver turn (Exited status) old new
HostTurned host_end.Undefined table old new to y turn = IsOver turn Undefined old new
HostTurned host_end.ReadFault table old new to y turn = IsOver turn ReadFault old new
HostTurned host_end.WriteFault table old new to y turn = IsOver turn WriteFault old new
HostTurned host_end.Memory table old new to y turn = IsOver turn WantOfMemory old new

-- the value of the first call is the status, or none
abbrev pub Status : Datum → RunEnd → Type 0
Status d (Exited status) = (out : List ℕ) → status_of d out ≡ Exit status out
Status d Undefined = (out : List ℕ) → status_of d out ≡ OutcomeUndefined out
Status d StillRunning = ⊥
Status d ReadFault = ⊥
Status d WriteFault = ⊥
Status d WantOfMemory = ⊥

-- the output that waits went to the sink, or a write has failed
pub record Writes (end result : RunEnd) (waiting : List ℕ) (taken taken' : Option (List ℕ)) : Type 0 where
  pub sends : Sends result taken taken' waiting
  pub either : (result ≡ end) ⊎ (result ≡ WriteFault)

-- behind a fault nothing is written
pub record WritesNothing (end result : RunEnd) (taken taken' : Option (List ℕ)) : Type 0 where
  pub same : result ≡ end
  pub untouched : taken' ≡ taken

abbrev pub Flushed : RunEnd → RunEnd → List ℕ → Option (List ℕ) → Option (List ℕ) → Type 0
Flushed (Exited status) result waiting taken taken' = Writes (Exited status) result waiting taken taken'
Flushed StillRunning result waiting taken taken' = Writes StillRunning result waiting taken taken'
Flushed Undefined result waiting taken taken' = Writes Undefined result waiting taken taken'
Flushed ReadFault result waiting taken taken' = WritesNothing ReadFault result taken taken'
Flushed WriteFault result waiting taken taken' = WritesNothing WriteFault result taken taken'
Flushed WantOfMemory result waiting taken taken' = Writes WantOfMemory result waiting taken taken'
