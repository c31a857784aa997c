-- Device: what waits behind a call, and what a table of functions means.
use Rattle.std.specs.Prelude.{◌≡◌, ℕ, zero, suc, ◌<◌, Bool, true, false, ◌&&◌, List, [], ◌∷◌, ◌++◌, length, map, Option, Some, None, slice_get}
use Rattle.cil_base.specs.declared.kinds.Abi.{Abi}
use Rattle.host_calls.specs.declared.names.HostName.{HostName}
use Rattle.byte_mem.specs.declared.values.Value.{Value}
use Rattle.byte_mem.specs.Steps.{◌>>=◌}
use Rattle.execution.specs.States.{State, Result, Goes, Running, Undefined, with_memory, with_left, bind}
use Rattle.execution.specs.Data as passed
use Rattle.execution.specs.Data.{Datum, same_kind, without_objects}
use Rattle.execution.specs.Calls as meaning
use Rattle.execution.specs.Calls.{Enter, Meaning, Object, Code, Host, Linked, leaves, scoped, number_of, arguments_match, host_called, called, entity_at, meant}
use Rattle.cil_control.specs.Remains.{Remains}
use Rattle.cil_code.specs.declared.calls.Call.{Call}
use Rattle.cil_code.specs.declared.steps.Step.TheVariants.{Call as CallStep}
use Rattle.cil_code.specs.Calling.{kind_from, called_in}
use Rattle.cil_code.specs.Leading.{LeadOn}
use Rattle.cil_code.specs.Taking.{datum_of}
use Rattle.cil_frames.specs.declared.calling.Evaluated.{Evaluated}
use Rattle.cil_frames.specs.declared.frames.Function.{Function}
use Rattle.cil_frames.specs.declared.frames.Frame.{Frame}
use Rattle.cil_frames.specs.declared.frames.Entity.{Entity}
use Rattle.cil_frames.specs.declared.frames.Entity.TheVariants.{Data as OfData, Program as OfProgram, Host as OfHost}
use Rattle.cil_frames.specs.Course.{GoesBy}
use Rattle.cil_frames.specs.Entering.{arguments_of, objects_of, begun_in}
use Rattle.cil_frames.specs.Evaluating.{call_of, keeps, goes_into}

-- what remains in each function, in each activation, at each place of its list
abbrev pub Courses : Type 0
Courses = ℕ → ℕ → ℕ → Remains

-- so many numbers from one on
abbrev pub counted : ℕ → ℕ → List ℕ
counted i zero = []
counted i (suc n) = i ∷ counted (suc i) n

-- an activation of a function ends: its objects, and then its arguments
abbrev pub left_by : ℕ → Function → Result Datum → Result Datum
left_by act f r = leaves act (counted 0 (length f.parameters.items)) (leaves act (map number_of (objects_of f.objects.items)) r)

-- the state in which an activation of a function begins: it has the next number
abbrev pub entered_state : Abi → Function → List passed.Argument → State → State
entered_state abi f xs s = record s { next = suc s.next; memory = begun_in abi s.next xs (objects_of f.objects.items) s.memory }

-- what the caller does with the result of its call, to the end of its own activation
abbrev pub resumed : Abi → Courses → Frame → Function → Result Datum → Result Datum
resumed abi at frame f r = left_by frame.act f (bind (bind r (keeps abi frame.to)) (λ g. at frame.function frame.act frame.place))

-- the function of a table
abbrev pub function_in : Option (Option Entity) → Option Function
function_in (Some (Some (OfProgram f))) = Some f
function_in _ = None

-- nothing is done for a frame of no function, which there is not
abbrev pub resumed_in : Abi → Courses → Frame → Option Function → Result Datum → Result Datum
resumed_in abi at frame (Some f) r = resumed abi at frame f r
resumed_in abi at frame None r = r

-- what the frames that wait make of a result, the outermost first in their list
abbrev pub unwound : Abi → Courses → List (Option Entity) → List Frame → Result Datum → Result Datum
unwound abi at table [] r = r
unwound abi at table (frame ∷ frames) r = resumed_in abi at frame (function_in (slice_get table frame.function)) (unwound abi at table frames r)

-- a loaded function is one of the program: its body goes from step to step, whatever its activation
pub record IsFunction (abi : Abi) (enter : Enter) (at : ℕ → ℕ → Remains) (f : meaning.Function) (g : Function) : Type 0 where
  pub model : f.abi ≡ abi
  pub parameters : f.parameters ≡ map kind_from g.parameters.items
  pub result : f.result ≡ kind_from g.result
  pub body : (act : ℕ) (s : State) → f.body enter act s ≡ scoped act (objects_of g.objects.items) (at act 0) s
  pub goes : (act : ℕ) → GoesBy abi act g.code.items enter (datum_of g.end) (at act)
  pub leads : LeadOn g.code.items
  pub there : 0 < length g.code.items

-- an entry of the table is what an entity means
abbrev pub IsEntity : Abi → Enter → (ℕ → ℕ → Remains) → Option Meaning → Option Entity → Type 0
IsEntity abi enter at None e = e ≡ None
IsEntity abi enter at (Some (Object read_only bytes)) e = e ≡ Some OfData
IsEntity abi enter at (Some (Code f)) None = ⊥
IsEntity abi enter at (Some (Code f)) (Some OfData) = ⊥
IsEntity abi enter at (Some (Code f)) (Some (OfProgram g)) = IsFunction abi enter at f g
IsEntity abi enter at (Some (Code f)) (Some (OfHost name)) = ⊥
IsEntity abi enter at (Some (Host name)) e = e ≡ Some (OfHost name)

-- a table of what entities mean, one by one
abbrev pub IsTable : Abi → Enter → Courses → ℕ → Linked → List (Option Entity) → Type 0
IsTable abi enter at n [] [] = Unit {0}
IsTable abi enter at n (m ∷ link) (e ∷ table) = IsEntity abi enter (at n) m e × IsTable abi enter at (suc n) link table
IsTable abi enter at n [] (e ∷ table) = ⊥
IsTable abi enter at n (m ∷ link) [] = ⊥

-- the state behind an activation of a function
abbrev pub behind_activation : ℕ → Function → State → State
behind_activation act f s = with_memory s (without_objects act (counted 0 (length f.parameters.items)) (without_objects act (map number_of (objects_of f.objects.items)) s.memory))

-- nothing that can be called
abbrev pub IsNoFunction : Option Entity → Type 0
IsNoFunction None = Unit {0}
IsNoFunction (Some OfData) = Unit {0}
IsNoFunction (Some (OfProgram g)) = ⊥
IsNoFunction (Some (OfHost name)) = ⊥

-- the whole run where an activation of a function runs on like that, and frames wait
abbrev pub whole : Abi → Courses → List (Option Entity) → List Frame → ℕ → Function → Result Datum → Result Datum
whole abi at table frames act f r = unwound abi at table frames (left_by act f r)

-- the kinds of a call are those of a loaded function
abbrev pub kinds_fit : Function → Evaluated → Bool
kinds_fit f e = same_kind (kind_from f.result) (kind_from e.result) && arguments_match (map kind_from f.parameters.items) (arguments_of e.arguments.items)

-- the entry of what a value points to
abbrev pub entry_at : List (Option Entity) → Value → Option Entity
entry_at table v = entity_at v >>= λ n. slice_get table n >>= λ e. e

-- a table of what a linked program means, whose functions are loaded: calls do what they do where the calls in them do so
pub record IsMachine (abi : Abi) (link : Linked) (enter : Enter) (at : Courses) (table : List (Option Entity)) : Type 0 where
  pub step : (c : meaning.Call) (s : State) → enter c s ≡ called enter (meant link c.callee) c s
  pub entries : IsTable abi enter at 0 link table

-- an activation of a function of the table stands at a call, whose parts are evaluated in a state
pub record StandsAtCall (abi : Abi) (table : List (Option Entity)) (function act q : ℕ) (f : Function) (k : Call) (e : Option Evaluated) (s : State) : Type 0 where
  pub running : slice_get table function ≡ Some (Some (OfProgram f))
  pub there : slice_get f.code.items q ≡ Some (CallStep k)
  pub parts : (enter : Enter) → called_in abi act enter k s ≡ goes_into abi enter e s

-- what becomes of the whole run at a call, and at the end of a body
pub record FramesAreTurned (abi : Abi) (link : Linked) (enter : Enter) (at : Courses) (table : List (Option Entity)) : Type 0 where
  -- the call is of a loaded function, and a unit is left: the caller waits, and the callee's activation begins
  pub enters : (frames : List Frame) (function act q n left : ℕ) (f g : Function) (k : Call) (e : Evaluated) (s : State) → StandsAtCall abi table function act q f k (Some e) s → entity_at e.callee ≡ Some n → slice_get table n ≡ Some (Some (OfProgram g))
      → kinds_fit g e ≡ true → s.left ≡ suc left
      → whole abi at table frames act f (at function act q s)
      ≡ whole abi at table (frames ++ record { function = function; act = act; place = suc q; to = e.to } ∷ []) s.next g (at n s.next 0 (entered_state abi g (arguments_of e.arguments.items) (with_left s left)))
  -- no unit is left
  pub lacks : (frames : List Frame) (function act q : ℕ) (f g : Function) (k : Call) (e : Evaluated) (s : State) → StandsAtCall abi table function act q f k (Some e) s → entry_at table e.callee ≡ Some (OfProgram g) → kinds_fit g e ≡ true → s.left ≡ 0
      → whole abi at table frames act f (at function act q s) ≡ Running s
  -- the kinds are not those of the function
  pub misfits : (frames : List Frame) (function act q : ℕ) (f g : Function) (k : Call) (e : Evaluated) (s : State) → StandsAtCall abi table function act q f k (Some e) s → entry_at table e.callee ≡ Some (OfProgram g) → kinds_fit g e ≡ false
      → whole abi at table frames act f (at function act q s) ≡ Undefined s
  -- what is called is no function
  pub wrong : (frames : List Frame) (function act q : ℕ) (f : Function) (k : Call) (e : Evaluated) (s : State) → StandsAtCall abi table function act q f k (Some e) s → IsNoFunction (entry_at table e.callee)
      → whole abi at table frames act f (at function act q s) ≡ Undefined s
  -- a part of the call is undefined
  pub undefined : (frames : List Frame) (function act q : ℕ) (f : Function) (k : Call) (s : State) → StandsAtCall abi table function act q f k None s → whole abi at table frames act f (at function act q s) ≡ Undefined s
  -- the call is of the host: where it goes on, its result is kept, and the course goes on behind it
  pub hosts : (frames : List Frame) (function act q : ℕ) (f : Function) (k : Call) (e : Evaluated) (name : HostName) (s : State) → StandsAtCall abi table function act q f k (Some e) s → entry_at table e.callee ≡ Some (OfHost name)
      → whole abi at table frames act f (at function act q s) ≡ whole abi at table frames act f (bind (bind (host_called name (call_of abi e) s) (keeps abi e.to)) (λ g. at function act (suc q)))
  -- the body of the innermost activation has ended: its objects end, and the innermost frame that waits keeps the result
  pub ends : (frames : List Frame) (frame : Frame) (act : ℕ) (f g : Function) (d : Datum) (s : State) → slice_get table frame.function ≡ Some (Some (OfProgram g))
      → whole abi at table (frames ++ frame ∷ []) act f (Goes d s) ≡ whole abi at table frames frame.act g (bind (keeps abi frame.to d (behind_activation act f s)) (λ g. at frame.function frame.act frame.place))
  -- that of the outermost one has: the run has ended
  pub last : (act : ℕ) (f : Function) (d : Datum) (s : State) → whole abi at table [] act f (Goes d s) ≡ Goes d (behind_activation act f s)

-- the turns of a machine are what its program means
abbrev pub FramesAreMeant : Type 0
FramesAreMeant = (abi : Abi) (link : Linked) (enter : Enter) (at : Courses) (table : List (Option Entity)) → IsMachine abi link enter at table → FramesAreTurned abi link enter at table

-- the functions of a table lead on, and none is empty
abbrev pub AllLead : List (Option Entity) → Type 0
AllLead table = (n : ℕ) (f : Function) → slice_get table n ≡ Some (Some (OfProgram f)) → LeadOn f.code.items × (0 < length f.code.items)
