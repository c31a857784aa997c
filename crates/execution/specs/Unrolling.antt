-- Definition: meanings by open recursion (own): a step says what something does where it is told what comes behind a spent unit; the meaning is the step over itself.
use Rattle.std.specs.Prelude.{ℕ, zero, suc}
use Rattle.execution.specs.States.{State, Result, Running}

-- what is told what comes behind a spent unit
abbrev pub Step : Type 0 → Type 0 → Type 0
Step X A = (X → State → Result A) → X → State → Result A

-- a step so many times over itself
abbrev pub unrolled : {X A : Type 0} → Step X A → ℕ → X → State → Result A
unrolled step zero x s = Running s
unrolled step (suc n) x s = step (unrolled step n) x s

-- each time over spends a unit, so that once more than units are left is enough
abbrev pub meaning : {X A : Type 0} → Step X A → X → State → Result A
meaning step x s = unrolled step (suc s.left) x s
