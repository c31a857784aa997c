-- Definition: which linked programs a machine runs, with which words, and what the answer of its run says of their meaning.
use Rattle.std.specs.Prelude.{◌≡◌, ℕ, Bool, true, false, List, [], ◌++◌, length, Option, IfSome}
use Rattle.cil_base.specs.declared.kinds.Mode.{Mode}
use Rattle.cil_base.specs.declared.runs.Outcome.TheVariants.{Exit, Running, Undefined}
use Rattle.outside.specs.Moves.{WasRead}
use Rattle.cil_tree.specs.Tree.{Program}
use Rattle.cil_semantics.specs.Runs.{FindsEnd}
use Rattle.cil_semantics.specs.Laws.{calls_in}
use Rattle.cil_semantics.specs.Modes.{HaveModel, LinksApart}
use Rattle.cil_frames.specs.Frames.{Courses, IsMachine}
use Rattle.cil_streams.specs.Held.{fresh}
use Rattle.cil_link.specs.Entities.{linked_in}
use Rattle.cil_start.specs.Starts.{Starts}
use Rattle.cil_turns.specs.declared.ends.RunEnd.{RunEnd}
use Rattle.cil_turns.specs.declared.ends.RunEnd.TheVariants.{Exited, StillRunning, Undefined as WentUndefined, ReadFault, WriteFault, Memory}
use Rattle.cil_turns.specs.Ends.{Sends, ReadAsNeeded}
use Rattle.cil_link.specs.Mains.{BeginsWith}
use Rattle.cil_runner.specs.Outcomes.{EndsAs, GoesOn, CutOff}
use Rattle.cil_runner.specs.declared.machine.Machine.{Machine}

-- the machine stands before the first step of the linked programs, run in that mode, whose data model they have and in which they have no definitions in common, and with those words: its table is what the entities of their run mean, its store is the memory in which
-- the run starts, in their data model, no input was read and no output waits, and it begins with their main
pub record Loads (m : Machine) (programs : List Program) (mode : Mode) (words : List (List ℕ)) : Type 0 where
  pub model : HaveModel mode.abi programs
  pub separate : LinksApart mode programs
  pub at : Courses
  pub table : IsMachine m.run.mem.abi (linked_in programs) (calls_in programs) at m.table.items
  pub store : Starts m.run.mem programs words
  pub streams : m.run.streams ≡ fresh
  pub main : BeginsWith programs m.main
  pub count : m.words ≡ length words

-- what an answer says of the run of the programs in a mode, with those words, that input and that bound; `text` is what was sent to the sink, `tail` what of the input the source has not given
abbrev pub Tells : RunEnd → List Program → Mode → List (List ℕ) → List ℕ → ℕ → ℕ → List ℕ → List ℕ → Type 0
Tells (Exited status) programs mode words input steps used text tail = EndsAs programs mode words input steps used (Exit status text)
Tells StillRunning programs mode words input steps used text tail = GoesOn programs mode words input steps used (Running text)
Tells WentUndefined programs mode words input steps used text tail = EndsAs programs mode words input steps used (Undefined text)
-- had the source nothing more to give, a call of getchar would have found the end
Tells ReadFault programs mode words input steps used text tail = CutOff programs mode words input steps used text × (tail ≡ [] → FindsEnd programs mode words input steps ≡ true)
Tells WriteFault programs mode words input steps used text tail = CutOff programs mode words input steps used text
Tells Memory programs mode words input steps used text tail = CutOff programs mode words input steps used text

-- a run over a source, of which `left` is left, and a sink, which has taken `taken`; the accented ones are behind the run
pub record RunsAs (end : RunEnd) (programs : List Program) (mode : Mode) (words : List (List ℕ)) (steps used : ℕ) (left left' taken taken' : Option (List ℕ)) : Type 0 where
  -- the bytes that the source gave, those that went to the sink, and whether the source has given its end
  pub got : List ℕ
  pub sent : List ℕ
  pub ended : Bool
  pub read : WasRead left left' got
  pub sends : Sends end taken taken' sent
  -- each read was needed: had the input ended before what it gave, or where it gave the end, a getchar of the run would have found no input left
  pub asked : ReadAsNeeded (λ input. FindsEnd programs mode words input steps ≡ true) false got ended
  -- no read fails of a source that has given its end
  pub stops : end ≡ ReadFault → ended ≡ false
  -- it gives its end only where nothing is left
  pub finds : ended ≡ true → IfSome left' (λ bytes. bytes ≡ [])
  -- whatever the source has still to give, nothing where it has given its end
  pub means : (tail : List ℕ) → (ended ≡ true → tail ≡ []) → Tells end programs mode words (got ++ tail) steps used sent tail
