-- Definition: what is said of the outcome of linked programs, and of the units that were used.
use Rattle.std.specs.Prelude.{◌≡◌, ◌≤◌, ℕ, List}
use Rattle.cil_base.specs.declared.kinds.Mode.{Mode}
use Rattle.cil_base.specs.declared.runs.Outcome.{Outcome}
use Rattle.cil_base.specs.Outcome.{output, IsPrefix}
use Rattle.execution.specs.Laws.{IsLeastBound}
use Rattle.cil_tree.specs.Tree.{Program}
use Rattle.cil_semantics.specs.Runs.{RunCil, UnitsSpent}

-- the run has ended so, within so many units: it has spent those that were used, and that is the least bound at which it ends; with fewer it is still running
pub record EndsAs (programs : List Program) (mode : Mode) (words : List (List ℕ)) (input : List ℕ) (steps used : ℕ) (x : Outcome) : Type 0 where
  pub outcome : RunCil programs mode words input steps ≡ x
  pub spent : used ≡ UnitsSpent programs mode words input steps
  pub least : IsLeastBound (RunCil programs mode words input) steps used

-- the run is still running at its bound
pub record GoesOn (programs : List Program) (mode : Mode) (words : List (List ℕ)) (input : List ℕ) (steps used : ℕ) (x : Outcome) : Type 0 where
  pub outcome : RunCil programs mode words input steps ≡ x
  pub spent : used ≡ UnitsSpent programs mode words input steps

-- the text is a front of the run's output
abbrev pub HasWritten : List Program → Mode → List (List ℕ) → List ℕ → ℕ → List ℕ → Type 0
HasWritten programs mode words input steps text = IsPrefix text (output (RunCil programs mode words input steps))

-- the run was cut off: the text is a front of its output, and it spends as many units as were used, or more
pub record CutOff (programs : List Program) (mode : Mode) (words : List (List ℕ)) (input : List ℕ) (steps used : ℕ) (text : List ℕ) : Type 0 where
  pub written : HasWritten programs mode words input steps text
  pub spent : used ≤ UnitsSpent programs mode words input steps
