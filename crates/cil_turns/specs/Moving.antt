-- Device: how whole runs go on and end over a source and a sink.
use Rattle.std.specs.Prelude.{◌≡◌, ℕ, false, true, List, [], ◌++◌, Option, IfSome}
use Rattle.outside.specs.Moves.{Wrote, WasRead}
use Rattle.byte_mem.specs.Store.{memory}
use Rattle.execution.specs.States.{State, Result, last}
use Rattle.execution.specs.Data.{Datum}
use Rattle.execution.specs.Calls.{Enter, Linked}
use Rattle.cil_streams.specs.Following.{Matches}
use Rattle.cil_frames.specs.declared.frames.Entity.{Entity}
use Rattle.cil_frames.specs.Frames.{Courses, IsMachine}
use Rattle.cil_turns.specs.declared.ends.RunEnd.{RunEnd}
use Rattle.cil_turns.specs.declared.ends.RunEnd.TheVariants.{Exited, StillRunning, Undefined, ReadFault, WriteFault, Memory as WantOfMemory}
use Rattle.cil_turns.specs.declared.runs.Run.{Run}
use Rattle.cil_turns.specs.declared.runs.Stand.{Stand}
use Rattle.cil_turns.specs.declared.runs.Turn.{Turn}
use Rattle.cil_turns.specs.declared.runs.Turn.TheVariants.{On, Stopped}
use Rattle.cil_frames.specs.Growing.{OnlyGrows}
use Rattle.cil_turns.specs.Ends.{Ends, Sends, CountsReads, CountsWrites, ReadAsNeeded}
use Rattle.cil_turns.specs.Standing.{Stands, Seen, from_stand}

-- a run stands for a state
pub record StandsFor (run : Run) (s : State) (written tail : List ℕ) : Type 0 where
  pub matches : Matches s (memory run.mem) run.streams written tail
  pub left : s.left ≡ run.left
  pub next : s.next ≡ run.next

-- in each state that a run stands for, where the source has just that input still to give, the whole run finds its end
abbrev pub FindsFrom : Run → (State → Result Datum) → List ℕ → Type 0
FindsFrom run f input = (s : State) (written : List ℕ) → StandsFor run s written input → (last (f s)).at_end ≡ true

-- a whole run goes on as another one: in each state that the old run stands for, the first does what the second does in one that the new run stands for
pub record Moves (before after : State → Result Datum) (old new : Run) (left left' taken taken' : Option (List ℕ)) : Type 0 where
  pub got : List ℕ
  pub sent : List ℕ
  pub read : WasRead left left' got
  pub sends : Wrote taken taken' sent
  pub asked : ReadAsNeeded (FindsFrom old before) old.streams.ended got new.streams.ended
  pub stays : old.streams.ended ≡ true → (new.streams.ended ≡ true) × (got ≡ [])
  pub finds : old.streams.ended ≡ false → new.streams.ended ≡ true → IfSome left' (λ bytes. bytes ≡ [])
  pub means : (s : State) (written tail : List ℕ) → (new.streams.ended ≡ true → tail ≡ []) → StandsFor old s written (got ++ tail) → (t : State) × (before s ≡ after t) × StandsFor new t (written ++ sent) tail

-- what an answer tells to have been sent, once all output that waits has been
abbrev pub told : RunEnd → List ℕ → List ℕ → List ℕ
told (Exited status) text waiting = text ++ waiting
told StillRunning text waiting = text ++ waiting
told Undefined text waiting = text ++ waiting
told ReadFault text waiting = text
told WriteFault text waiting = text
told WantOfMemory text waiting = text ++ waiting

-- a whole run ends so, but for the output that waits
pub record Comes (end : RunEnd) (before : State → Result Datum) (old new : Run) (left left' taken taken' : Option (List ℕ)) : Type 0 where
  pub got : List ℕ
  pub sent : List ℕ
  pub read : WasRead left left' got
  pub sends : Sends end taken taken' sent
  pub asked : ReadAsNeeded (FindsFrom old before) old.streams.ended got new.streams.ended
  pub stays : old.streams.ended ≡ true → (new.streams.ended ≡ true) × (got ≡ [])
  pub stops : end ≡ ReadFault → new.streams.ended ≡ false
  pub finds : old.streams.ended ≡ false → new.streams.ended ≡ true → IfSome left' (λ bytes. bytes ≡ [])
  pub means : (s : State) (written tail : List ℕ) → (new.streams.ended ≡ true → tail ≡ []) → StandsFor old s written (got ++ tail) → Ends end (before s) (told end (written ++ sent) new.streams.waiting) tail new.left

-- in each machine with that table, of the store's data model, the whole run goes on where the machine stands now; the data model stays
pub record Arrives (table : List (Option Entity)) (before : Seen) (old new : Run) (x : Stand) (left left' taken taken' : Option (List ℕ)) : Type 0 where
  pub means : (link : Linked) (enter : Enter) (at : Courses) → IsMachine old.mem.abi link enter at table → OnlyGrows old.mem.abi link enter at table
      → Moves (before old.mem.abi enter at) (from_stand table new x old.mem.abi enter at) old new left left' taken taken'
  pub stands : Stands table new x
  pub model : new.mem.abi ≡ old.mem.abi

-- in each machine with that table, of the store's data model, it ends so
pub record Finishes (table : List (Option Entity)) (before : Seen) (end : RunEnd) (old new : Run) (left left' taken taken' : Option (List ℕ)) : Type 0 where
  pub means : (link : Linked) (enter : Enter) (at : Courses) → IsMachine old.mem.abi link enter at table → OnlyGrows old.mem.abi link enter at table → Comes end (before old.mem.abi enter at) old new left left' taken taken'

-- what a turn leaves of the whole run
abbrev pub Turned : List (Option Entity) → Seen → Run → Run → Turn → Option (List ℕ) → Option (List ℕ) → Option (List ℕ) → Option (List ℕ) → Type 0
Turned table before old new (On x) left left' taken taken' = Arrives table before old new x left left' taken taken'
Turned table before old new (Stopped end) left left' taken taken' = Finishes table before end old new left left' taken taken'

-- the same without input or output
abbrev pub TurnedQuietly : List (Option Entity) → Seen → Run → Run → Turn → Type 0
TurnedQuietly table before old new turn = (left taken : Option (List ℕ)) → Turned table before old new turn left left taken taken

-- a count of the source's faults over a turn
abbrev pub TurnReads : Turn → ℕ → ℕ → Type 0
TurnReads (On x) before now = now ≡ before
TurnReads (Stopped end) before now = CountsReads end before now

-- a count of the sink's
abbrev pub TurnWrites : Turn → ℕ → ℕ → Type 0
TurnWrites (On x) before now = now ≡ before
TurnWrites (Stopped end) before now = CountsWrites end before now

-- no fault of the source or the sink
abbrev pub IsPlainEnd : RunEnd → Type 0
IsPlainEnd (Exited status) = Unit {0}
IsPlainEnd StillRunning = Unit {0}
IsPlainEnd Undefined = Unit {0}
IsPlainEnd ReadFault = ⊥
IsPlainEnd WriteFault = ⊥
IsPlainEnd WantOfMemory = Unit {0}

abbrev pub IsPlain : Turn → Type 0
IsPlain (On x) = Unit {0}
IsPlain (Stopped end) = IsPlainEnd end
