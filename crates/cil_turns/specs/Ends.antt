-- Definition: how a run over a source and a sink ends, and how its answer is that of the meaning, which has all input at hand and keeps all output.
use Rattle.std.specs.Prelude.{◌≡◌, ℕ, ◌<◌, ◌≤◌, Bool, false, true, List, [], ◌∷◌, ◌++◌, length, Option, IfSome}
use Rattle.std.specs.List.{concat}
use Rattle.cil_base.specs.declared.kinds.Abi.{Abi}
use Rattle.cil_base.specs.declared.runs.Outcome.TheVariants.{Exit, Running, Undefined as WentUndefined}
use Rattle.cil_base.specs.Outcome.{IsPrefix}
use Rattle.byte_mem.specs.declared.pointers.ObjName.TheVariants.{Entity as OfEntity}
use Rattle.byte_mem.specs.Memory.{Memory}
use Rattle.outside.specs.Moves.{Wrote, Began, WasRead}
use Rattle.execution.specs.States.{State, Result, last, output}
use Rattle.execution.specs.Data.{Datum}
use Rattle.execution.specs.Calls.{Call}
use Rattle.execution.specs.Runs.{outcome_of, pointer_to_name}
use Rattle.cil_streams.specs.Held.{StreamsState}
use Rattle.cil_streams.specs.Following.{Matches}
use Rattle.cil_streams.specs.HostAnswers.{Fails}
use Rattle.cil_code.specs.Calling.{kind_from}
use Rattle.cil_frames.specs.Entering.{arguments_of}
use Rattle.cil_turns.specs.declared.runs.FirstCall.{FirstCall}
use Rattle.cil_turns.specs.declared.ends.RunEnd.{RunEnd}
use Rattle.cil_turns.specs.declared.ends.RunEnd.TheVariants.{Exited, StillRunning, Undefined, ReadFault, WriteFault, Memory as WantOfMemory}

-- a call of a function from outside of the program
abbrev pub call_of_first : Abi → FirstCall → Call
call_of_first abi c = record { abi = abi; callee = pointer_to_name (OfEntity (record { 0 = c.callee })); result = kind_from c.result; arguments = arguments_of c.arguments.items }

-- a run that was cut off where it had sent that text and so many units were left: the text is a front of the output, and the whole run leaves no more units
pub record CutOff (r : Result Datum) (text : List ℕ) (left : ℕ) : Type 0 where
  pub written : IsPrefix text (output r)
  pub spent : (last r).left ≤ left

-- how an answer tells the result of the meaning: `text` is what went to the sink in all, `tail` what the source has still to give, and `left` the units that are left
abbrev pub Ends : RunEnd → Result Datum → List ℕ → List ℕ → ℕ → Type 0
Ends (Exited status) r text tail left = (outcome_of r ≡ Exit status text) × ((last r).left ≡ left)
Ends StillRunning r text tail left = (outcome_of r ≡ Running text) × ((last r).left ≡ left)
Ends Undefined r text tail left = (outcome_of r ≡ WentUndefined text) × ((last r).left ≡ left)
-- had the source nothing more to give, a getchar would have found its end
Ends ReadFault r text tail left = CutOff r text left × (tail ≡ [] → (last r).at_end ≡ true)
Ends WriteFault r text tail left = CutOff r text left
Ends WantOfMemory r text tail left = CutOff r text left

-- the sink took all that was sent, or, where it failed, a front of that
abbrev pub Sends : RunEnd → Option (List ℕ) → Option (List ℕ) → List ℕ → Type 0
Sends (Exited status) taken taken' sent = Wrote taken taken' sent
Sends StillRunning taken taken' sent = Wrote taken taken' sent
Sends Undefined taken taken' sent = Wrote taken taken' sent
Sends ReadFault taken taken' sent = Wrote taken taken' sent
Sends WriteFault taken taken' sent = Began taken taken' sent
Sends WantOfMemory taken taken' sent = Wrote taken taken' sent

-- a count of the source's faults: it changes exactly where the answer says so
abbrev pub CountsReads : RunEnd → ℕ → ℕ → Type 0
CountsReads (Exited status) before now = now ≡ before
CountsReads StillRunning before now = now ≡ before
CountsReads Undefined before now = now ≡ before
CountsReads ReadFault before now = Fails before now
CountsReads WriteFault before now = now ≡ before
CountsReads WantOfMemory before now = now ≡ before

-- a count of the sink's faults
abbrev pub CountsWrites : RunEnd → ℕ → ℕ → Type 0
CountsWrites (Exited status) before now = now ≡ before
CountsWrites StillRunning before now = now ≡ before
CountsWrites Undefined before now = now ≡ before
CountsWrites ReadFault before now = now ≡ before
CountsWrites WriteFault before now = Fails before now
CountsWrites WantOfMemory before now = now ≡ before

-- what one read of the source gave, but for one that gave its end
pub record IsPiece (piece : List ℕ) : Type 0 where
  pub some : 0 < length piece
  pub few : length piece ≤ 4096

-- each piece was needed: `found` says of an input that a getchar of the run finds its end, and says it of all that was read before the piece
abbrev pub EachNeeded : (List ℕ → Type 0) → List (List ℕ) → Type 0
EachNeeded found [] = Unit {0}
EachNeeded found (piece ∷ pieces) = found [] × IsPiece piece × EachNeeded (λ input. found (piece ++ input)) pieces

-- each read was needed; `was` and `ended` tell whether the source had given its end before, and has now
pub record ReadAsNeeded (found : List ℕ → Type 0) (was : Bool) (got : List ℕ) (ended : Bool) : Type 0 where
  -- what the reads gave, in their order
  pub pieces : List (List ℕ)
  pub whole : concat pieces ≡ got
  pub each : EachNeeded found pieces
  -- the read that gave the end, behind all of them
  pub end : was ≡ false → ended ≡ true → found got

-- in each state that memory and streams stand for, with so many units left and that next number, where the source has just that input still to give, the run finds its end
abbrev pub FindsEnd : (State → Result Datum) → Memory → StreamsState → ℕ → ℕ → List ℕ → Type 0
FindsEnd run m held left next input = (s : State) (written : List ℕ) → Matches s m held written input → s.left ≡ left → s.next ≡ next → (last (run s)).at_end ≡ true

-- a run over a source, of which `left` is left, and a sink, which has taken `taken`; the accented ones are behind the run, in whose states so many units are left before and after, and that number is the next
pub record RunsTo (end : RunEnd) (run : State → Result Datum) (m : Memory) (held : StreamsState) (before after next : ℕ) (left left' taken taken' : Option (List ℕ)) : Type 0 where
  -- the bytes that the source gave, those that went to the sink, and whether the source has given its end
  pub got : List ℕ
  pub sent : List ℕ
  pub ended : Bool
  pub read : WasRead left left' got
  pub sends : Sends end taken taken' sent
  pub asked : ReadAsNeeded (FindsEnd run m held before next) held.ended got ended
  -- a source that has given its end is asked no more, so that no read of it fails
  pub stays : held.ended ≡ true → (ended ≡ true) × (got ≡ [])
  pub stops : end ≡ ReadFault → ended ≡ false
  -- it gives its end only where nothing is left
  pub finds : held.ended ≡ false → ended ≡ true → IfSome left' (λ bytes. bytes ≡ [])
  -- whatever the source has still to give, nothing where it has given its end
  pub means : (s : State) (written tail : List ℕ) → (ended ≡ true → tail ≡ []) → Matches s m held written (got ++ tail) → s.left ≡ before → s.next ≡ next → Ends end (run s) (written ++ sent) tail after
