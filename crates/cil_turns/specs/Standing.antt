-- Device: where a machine with frames stands, what remains of its run there, and what falls with each turn.
use Rattle.std.specs.Prelude.{◌≡◌, ℕ, suc, ◌+◌, ◌-◌, ◌*◌, ◌^◌, ◌<◌, max, List, [], ◌∷◌, length, Option, Some, None, slice_get}
use Rattle.cil_base.specs.declared.kinds.Abi.{Abi}
use Rattle.host_calls.specs.Counted.{IsCounted}
use Rattle.byte_mem.specs.Store.{memory}
use Rattle.execution.specs.States.{State, Result, Goes, Undefined, bind}
use Rattle.execution.specs.Data.{Datum}
use Rattle.execution.specs.Calls.{Enter}
use Rattle.cil_streams.specs.Held.{host_part}
use Rattle.cil_code.specs.Taking.{datum_of}
use Rattle.cil_frames.specs.declared.calling.Destination.{Destination}
use Rattle.cil_frames.specs.declared.courses.Stop.{Stop}
use Rattle.cil_frames.specs.declared.courses.Stop.TheVariants as stop
use Rattle.cil_frames.specs.declared.frames.Function.{Function}
use Rattle.cil_frames.specs.declared.frames.Frame.{Frame}
use Rattle.cil_frames.specs.declared.frames.Entity.{Entity}
use Rattle.cil_frames.specs.declared.frames.Entity.TheVariants.{Data as OfData, Program as OfProgram, Host as OfHost}
use Rattle.cil_frames.specs.Course.{stopped}
use Rattle.cil_frames.specs.Evaluating.{keeps}
use Rattle.cil_frames.specs.Frames.{Courses, function_in, unwound, whole, AllLead}
use Rattle.cil_turns.specs.declared.runs.FirstCall.{FirstCall}
use Rattle.cil_turns.specs.declared.runs.Run.{Run}
use Rattle.cil_turns.specs.declared.runs.Stand.{Stand}
use Rattle.cil_turns.specs.declared.runs.Turn.{Turn}
use Rattle.cil_turns.specs.declared.runs.Turn.TheVariants.{On, Stopped}
use Rattle.cil_frames.specs.Growing.{IsPlace, StandIn}
use Rattle.cil_turns.specs.Ends.{call_of_first}

-- a run has not begun: no activation waits, and none has been
pub record IsFresh (run : Run) : Type 0 where
  pub next : run.next ≡ 0
  pub frames : run.frames.items ≡ []

-- the activations that wait stand in the table, whose functions lead on; and each number that a unit may still need fits
pub record Waits (table : List (Option Entity)) (run : Run) : Type 0 where
  pub leads : AllLead table
  pub waiting : StandIn table run.frames.items
  pub counted : IsCounted (host_part (memory run.mem) run.streams)
  pub numbers : run.next + run.left < 2 ^ 64

-- a machine stands at a place of its table
pub record Stands (table : List (Option Entity)) (run : Run) (x : Stand) : Type 0 where
  pub waits : Waits table run
  pub place : IsPlace table x.function x.place

-- what remains of the whole run where a machine stands
abbrev pub remains_in : Abi → Courses → List (Option Entity) → List Frame → Stand → Option Function → State → Result Datum
remains_in abi at table frames x None s = Undefined s
remains_in abi at table frames x (Some f) s = whole abi at table frames x.act f (at x.function x.act x.place s)

abbrev pub remains : Abi → Courses → List (Option Entity) → List Frame → Stand → State → Result Datum
remains abi at table frames x s = remains_in abi at table frames x (function_in (slice_get table x.function)) s

-- a result is kept before the run goes on there
abbrev pub keeping_in : Abi → Courses → List (Option Entity) → List Frame → Option Destination → Datum → Stand → Option Function → State → Result Datum
keeping_in abi at table frames to d x None s = Undefined s
keeping_in abi at table frames to d x (Some f) s = whole abi at table frames x.act f (bind (keeps abi to d s) (λ g. at x.function x.act x.place))

abbrev pub keeping : Abi → Courses → List (Option Entity) → List Frame → Option Destination → Datum → Stand → State → Result Datum
keeping abi at table frames to d x s = keeping_in abi at table frames to d x (function_in (slice_get table x.function)) s

-- a whole run, by what a machine means
abbrev pub Seen : Type 0
Seen = Abi → Enter → Courses → State → Result Datum

-- where a machine stands
abbrev pub from_stand : List (Option Entity) → Run → Stand → Seen
from_stand table run x abi enter at = remains abi at table run.frames.items x

-- where it is to keep a result first
abbrev pub from_kept : List (Option Entity) → Run → Option Destination → Datum → Stand → Seen
from_kept table run to d x abi enter at = keeping abi at table run.frames.items to d x

-- where a course has stopped
abbrev pub from_stop : List (Option Entity) → Run → Stand → Function → Stop → Seen
from_stop table run x f y abi enter at s = whole abi at table run.frames.items x.act f (stopped (datum_of f.end) (at x.function x.act) y s)

-- where the body of an activation has ended with a value
abbrev pub from_end : List (Option Entity) → Run → ℕ → Function → Datum → Seen
from_end table run act f d abi enter at s = whole abi at table run.frames.items act f (Goes d s)

-- and where its objects have ended too
abbrev pub from_result : List (Option Entity) → Run → Datum → Seen
from_result table run d abi enter at s = unwound abi at table run.frames.items (Goes d s)

-- at the first call
abbrev pub from_first : FirstCall → Seen
from_first call abi enter at s = enter (call_of_first abi call) s

-- where an activation that waits goes on
abbrev pub standing_at : Frame → Stand
standing_at frame = record { function = frame.function; act = frame.act; place = frame.place }

-- how many steps a function of the table has
abbrev pub steps_of : Option Entity → ℕ
steps_of None = 0
steps_of (Some OfData) = 0
steps_of (Some (OfProgram f)) = length f.code.items
steps_of (Some (OfHost name)) = 0

abbrev pub steps_at : Option (Option Entity) → ℕ
steps_at None = 0
steps_at (Some e) = steps_of e

abbrev pub steps_ahead : List (Option Entity) → ℕ → ℕ → ℕ
steps_ahead table function place = steps_at (slice_get table function) - place

-- no function has more
abbrev pub longest : List (Option Entity) → ℕ
longest [] = 0
longest (e ∷ table) = max (steps_of e) (longest table)

-- what is ahead of the activations that wait
abbrev pub waiting_ahead : List (Option Entity) → List Frame → ℕ
waiting_ahead table [] = 0
waiting_ahead table (frame ∷ frames) = suc (steps_ahead table frame.function frame.place) + waiting_ahead table frames

-- what is ahead but for the body that runs: a unit outweighs each function's steps and a frame
abbrev pub waiting_burden : List (Option Entity) → Run → ℕ
waiting_burden table run = run.left * (longest table + 2) + waiting_ahead table run.frames.items

-- falls with each turn
abbrev pub burden : List (Option Entity) → Run → Stand → ℕ
burden table run x = waiting_burden table run + steps_ahead table x.function x.place

-- where a course has stopped
abbrev pub stop_burden : List (Option Entity) → Run → Stand → Stop → ℕ
stop_burden table run x (stop.Call q) = burden table run (record x { place = q })
stop_burden table run x stop.Running = waiting_burden table run
stop_burden table run x (stop.Ended d) = waiting_burden table run
stop_burden table run x stop.Undefined = waiting_burden table run

abbrev pub Falls : List (Option Entity) → ℕ → Run → Turn → Type 0
Falls table before new (On x) = burden table new x < before
Falls table before new (Stopped end) = Unit {0}
