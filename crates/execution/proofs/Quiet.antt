-- Device: what catches jumps into itself gives none, and catching twice is catching once.
use Rattle.std.proofs.Common.{◌≡◌, ℕ, zero, suc, Bool, true, false, Some, refl, ap}
use Rattle.execution.specs.States.{State, Result, Goes, Exits, Running, Undefined, with_left, spent, spend}
use Rattle.execution.specs.Jumps.{Target, Signal, Normal, Broken, Jumped, Returned, Has, Goer, jumped, spending, caught, IsQuiet}

pub spent_quiet : (has : Has) (go : State → Result Signal) (s : State) → ((n : ℕ) → s.left ≡ suc n → IsQuiet has (go (with_left s n))) → IsQuiet has (spend s go)
spent_quiet has go s k = by s.left refl
  where
    by : (n : ℕ) → s.left ≡ n → IsQuiet has (spent n s go)
    by zero e = tt
    by (suc n) e = k n e

pub caught_quiet : (has : Has) (r : Result Signal) (again : Goer) → ((x : Target) (s : State) → r ≡ Goes (Jumped x) s → IsQuiet has (spend s (again (Some x)))) → IsQuiet has (caught has r again)
caught_quiet has (Goes Normal s) again k = tt
caught_quiet has (Goes Broken s) again k = tt
caught_quiet has (Goes (Jumped x) s) again k = by (has x) refl
  where
    by : (b : Bool) → has x ≡ b → IsQuiet has (jumped b x s (spending again))
    by true e = k x s refl
    by false e = e
caught_quiet has (Goes (Returned v) s) again k = tt
caught_quiet has (Exits status s) again k = tt
caught_quiet has (Running s) again k = tt
caught_quiet has (Undefined s) again k = tt

-- around what is quiet nothing is caught
pub caught_once : (has : Has) (r : Result Signal) (again : Goer) → IsQuiet has r → caught has r again ≡ r
caught_once has (Goes Normal s) again q = refl
caught_once has (Goes Broken s) again q = refl
caught_once has (Goes (Jumped x) s) again q = ap (λ b. jumped b x s (spending again)) q
caught_once has (Goes (Returned v) s) again q = refl
caught_once has (Exits status s) again q = refl
caught_once has (Running s) again q = refl
caught_once has (Undefined s) again q = refl
