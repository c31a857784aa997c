-- Device: what it means that a step was taken in a store.
use Rattle.std.specs.Prelude.{◌≡◌, ℕ, Bool, true, false, Option, Some, None}
use Rattle.byte_mem.specs.declared.stores.Store.{Store}
use Rattle.byte_mem.specs.Store.{memory}
use Rattle.execution.specs.States.{State, Goes, Undefined, with_memory, spend}
use Rattle.execution.specs.Data as passed
use Rattle.execution.specs.Calls.{Enter}
use Rattle.cil_control.specs.Remains.{Remains}
use Rattle.cil_code.specs.declared.steps.Step.{Step}
use Rattle.cil_code.specs.declared.steps.Step.TheVariants.{Call}
use Rattle.cil_code.specs.declared.taking.Datum.{Datum}
use Rattle.cil_code.specs.declared.taking.Datum.TheVariants.{Single, Bytes}
use Rattle.cil_code.specs.declared.taking.Onward.{Onward}
use Rattle.cil_code.specs.declared.taking.Onward.TheVariants.{At, Back, Ended, Undefined as Broken}
use Rattle.cil_code.specs.Doing.{done}

abbrev pub datum_of : Datum → passed.Datum
datum_of (Single v) = passed.Single v
datum_of (Bytes b) = passed.Bytes b

abbrev pub ended : passed.Datum → Option Datum → passed.Datum
ended end None = end
ended end (Some d) = datum_of d

abbrev pub is_call : Step → Bool
is_call (Call k) = true
is_call x = false

-- what remains where a step has led to
abbrev pub on : passed.Datum → (ℕ → Remains) → Onward → Remains
on end at (At q) s = at q s
on end at (Back q) s = spend s (at q)
on end at (Ended d) s = Goes (ended end d) s
on end at Broken s = Undefined s

-- in each state with the old memory, the step leads there with the new one; the data model stays
pub record Took (old new : Store) (act p : ℕ) (step : Step) (n : Onward) : Type 0 where
  pub does : (s : State) → s.memory ≡ memory old → (enter : Enter) (end : passed.Datum) (at : ℕ → Remains) → done old.abi act enter end at p step s ≡ on end at n (with_memory s (memory new))
  pub model : new.abi ≡ old.abi
