-- Device: what a run never takes back: the units that it has spent, its output, and that its input's end was found.
use Rattle.std.specs.Prelude.{◌≡◌, ℕ, ◌<◌, ◌≤◌, true, List, [], ◌∷◌, ◌++◌, length, Option, Some, slice_get}
use Rattle.cil_base.specs.declared.kinds.Abi.{Abi}
use Rattle.execution.specs.States.{State, Result, last}
use Rattle.execution.specs.Data.{Datum}
use Rattle.execution.specs.Calls.{Enter, Linked}
use Rattle.cil_frames.specs.declared.frames.Function.{Function}
use Rattle.cil_frames.specs.declared.frames.Frame.{Frame}
use Rattle.cil_frames.specs.declared.frames.Entity.{Entity}
use Rattle.cil_frames.specs.declared.frames.Entity.TheVariants.{Program as OfProgram}
use Rattle.cil_frames.specs.Frames.{Courses, whole, IsMachine}

-- units are only spent, output is only added, and an end of the input that was found stays found
pub record Grows (s t : State) : Type 0 where
  pub left : t.left ≤ s.left
  pub more : List ℕ
  pub out : t.out ≡ s.out ++ more
  pub at_end : s.at_end ≡ true → t.at_end ≡ true

-- a function of the table, and a place of its list
pub record IsPlace (table : List (Option Entity)) (function place : ℕ) : Type 0 where
  pub code : Function
  pub running : slice_get table function ≡ Some (Some (OfProgram code))
  pub there : place < length code.code.items

-- where frames go on is there
abbrev pub StandIn : List (Option Entity) → List Frame → Type 0
StandIn table [] = Unit {0}
StandIn table (frame ∷ frames) = IsPlace table frame.function frame.place × StandIn table frames

pub record OnlyGrows (abi : Abi) (link : Linked) (enter : Enter) (at : Courses) (table : List (Option Entity)) : Type 0 where
  -- what remains at a place of a function
  pub places : (function act place : ℕ) → IsPlace table function place → (s : State) → Grows s (last (at function act place s))
  -- what frames make of a result
  pub wholes : (frames : List Frame) → StandIn table frames → (act : ℕ) (f : Function) (r : Result Datum) → Grows (last r) (last (whole abi at table frames act f r))

-- however a run goes on, it takes nothing back
abbrev pub RunsOnlyGrow : Type 0
RunsOnlyGrow = (abi : Abi) (link : Linked) (enter : Enter) (at : Courses) (table : List (Option Entity)) → IsMachine abi link enter at table → OnlyGrows abi link enter at table
