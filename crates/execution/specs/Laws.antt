-- Definition: what bounds promise (own): a smaller bound only cuts a run, and the units that an ended run has spent are the least bound at which it ends.
use Rattle.std.specs.Prelude.{◌≡◌, ℕ, ◌+◌, ◌<◌, ◌≤◌}
use Rattle.cil_base.specs.declared.runs.Outcome.{Outcome}
use Rattle.cil_base.specs.declared.runs.Outcome.TheVariants.{Exit, Running, Undefined}
use Rattle.cil_base.specs.Outcome.{output, IsPrefix}
use Rattle.execution.specs.States.{State}
use Rattle.execution.specs.Calls.{Call, Linked, called, meant, calls}

-- the second outcome is the first, or goes on where the first is still running
abbrev pub Cuts : Outcome → Outcome → Type 0
Cuts (Exit status out) y = y ≡ Exit status out
Cuts (Running out) y = IsPrefix out (output y)
Cuts (Undefined out) y = y ≡ Undefined out

abbrev pub HasEnded : Outcome → Type 0
HasEnded (Exit status out) = Unit {0}
HasEnded (Running out) = ⊥
HasEnded (Undefined out) = Unit {0}

abbrev pub IsRunning : Outcome → Type 0
IsRunning (Exit status out) = ⊥
IsRunning (Running out) = Unit {0}
IsRunning (Undefined out) = ⊥

-- at each bound, units more only continue the run
abbrev pub IsCutByBounds : (ℕ → Outcome) → Type 0
IsCutByBounds run = (n more : ℕ) → Cuts (run n) (run (n + more))

-- the outcome is that at the bound k, and at each smaller one the run is still running
pub record IsLeastBound (run : ℕ → Outcome) (n k : ℕ) : Type 0 where
  pub within : k ≤ n
  pub same : run k ≡ run n
  pub least : (j : ℕ) → j < k → IsRunning (run j)

-- where a run has ended, the units that it has spent are the least bound at which it ends
abbrev pub SpendsLeast : (ℕ → Outcome) → (ℕ → ℕ) → Type 0
SpendsLeast run spent = (n : ℕ) → HasEnded (run n) → IsLeastBound run n (spent n)

-- calls do what they do where the calls in them do so: no bound on their depth is seen
abbrev pub CallsAreTheirStep : Linked → Type 0
CallsAreTheirStep link = (c : Call) (s : State) → calls link c s ≡ called (calls link) (meant link c.callee) c s
