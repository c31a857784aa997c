-- Device: what a machine needs to run, the arguments that it calls main with, and the outcome that an answer tells.
use Rattle.std.specs.Prelude.{◌≡◌, ℕ, Bool, true, false, List, [], ◌∷◌, Option, Some, None}
use Rattle.cil_base.specs.declared.runs.Outcome.{Outcome}
use Rattle.cil_base.specs.declared.runs.Outcome.TheVariants.{Exit, Running, Undefined}
use Rattle.host_calls.specs.Counted.{IsCounted}
use Rattle.byte_mem.specs.Store.{memory}
use Rattle.execution.specs.Data.{Argument}
use Rattle.execution.specs.Runs.{int_argument, words_argument}
use Rattle.cil_frames.specs.declared.frames.Entity.{Entity}
use Rattle.cil_streams.specs.Held.{host_part}
use Rattle.cil_frames.specs.Frames.{AllLead}
use Rattle.cil_frames.specs.Growing.{IsPlace}
use Rattle.cil_turns.specs.declared.ends.RunEnd.{RunEnd}
use Rattle.cil_turns.specs.declared.ends.RunEnd.TheVariants.{Exited, StillRunning, Undefined as WentUndefined, ReadFault, WriteFault, Memory as WantOfMemory}
use Rattle.cil_turns.specs.Standing.{IsFresh as IsNew}
use Rattle.cil_link.specs.declared.mains.Main.{Main}
use Rattle.cil_runner.specs.declared.machine.Machine.{Machine}

-- what a run begins with is a loaded function
abbrev pub IsThere : List (Option Entity) → Option Main → Type 0
IsThere table None = Unit {0}
IsThere table (Some m) = IsPlace table m.entity 0

-- a machine that was loaded, and has not run
pub record IsFresh (m : Machine) : Type 0 where
  pub leads : AllLead m.table.items
  pub main : IsThere m.table.items m.main
  pub run : IsNew m.run
  pub counted : IsCounted (host_part (memory m.run.mem) m.run.streams)
  pub used : m.used ≡ 0

-- the arguments of main, where so many words are passed: their number, and the array of pointers to them
abbrev pub arguments_for : Bool → ℕ → List Argument
arguments_for true count = int_argument count ∷ words_argument ∷ []
arguments_for false count = []

-- the outcome that an answer tells, with the output; a run that was cut off tells none
abbrev pub outcome_by : RunEnd → List ℕ → Option Outcome
outcome_by (Exited status) text = Some (Exit status text)
outcome_by StillRunning text = Some (Running text)
outcome_by WentUndefined text = Some (Undefined text)
outcome_by ReadFault text = None
outcome_by WriteFault text = None
outcome_by WantOfMemory text = None
