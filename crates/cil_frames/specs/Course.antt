-- Device: what a course through the steps of one body leaves of its run, whatever calls do.
use Rattle.std.specs.Prelude.{◌≡◌, ℕ, zero, suc, ◌+◌, ◌-◌, ◌*◌, ◌<◌, ◌≤◌, ◌⊎◌, List, length, Some, slice_get}
use Rattle.cil_base.specs.declared.kinds.Abi.{Abi}
use Rattle.byte_mem.specs.declared.stores.Store.{Store}
use Rattle.byte_mem.specs.Memory.{Memory}
use Rattle.byte_mem.specs.Store.{memory}
use Rattle.execution.specs.States as states
use Rattle.execution.specs.States.{State, Goes}
use Rattle.execution.specs.Data.{Datum}
use Rattle.execution.specs.Calls.{Enter}
use Rattle.cil_control.specs.Remains.{Remains}
use Rattle.cil_code.specs.declared.calls.Call.{Call as CodeCall}
use Rattle.cil_code.specs.declared.steps.Step.{Step}
use Rattle.cil_code.specs.declared.steps.Step.TheVariants as step
use Rattle.cil_code.specs.declared.taking.Onward.{Onward}
use Rattle.cil_code.specs.declared.taking.Onward.TheVariants as onward
use Rattle.cil_code.specs.Doing.{done}
use Rattle.cil_code.specs.Taking.{ended}
use Rattle.cil_frames.specs.declared.courses.Stop.{Stop}
use Rattle.cil_frames.specs.declared.courses.Stop.TheVariants.{Call, Running, Ended, Undefined}
use Rattle.cil_frames.specs.declared.courses.Pace.{Pace}
use Rattle.cil_frames.specs.declared.courses.Pace.TheVariants.{On, Stopped}

-- at each place what remains is what the step there does
abbrev pub GoesBy : Abi → ℕ → List Step → Enter → Datum → (ℕ → Remains) → Type 0
GoesBy abi act code enter end at = (p : ℕ) (y : Step) → slice_get code p ≡ Some y → (s : State) → at p s ≡ done abi act enter end at p y s

-- the state with that memory and so many units left
abbrev pub with_both : State → Memory → ℕ → State
with_both s m left = record s { memory = m; left = left }

-- what remains where a course has stopped
abbrev pub stopped : Datum → (ℕ → Remains) → Stop → Remains
stopped end at (Call q) s = at q s
stopped end at Running s = states.Running s
stopped end at (Ended d) s = Goes (ended end d) s
stopped end at Undefined s = states.Undefined s

-- the units that are left have fallen, or the place has not
abbrev pub NotBehind : ℕ → ℕ → ℕ → ℕ → Type 0
NotBehind p before q after = (after < before) ⊎ ((after ≡ before) × (p ≤ q))

-- a call stands there
pub record IsCallAt (code : List Step) (q : ℕ) : Type 0 where
  pub call : CodeCall
  pub there : slice_get code q ≡ Some (step.Call call)

-- a course stops at a call where one stands and that is not behind; units are only spent
abbrev pub StopsThere : List Step → ℕ → ℕ → ℕ → Stop → Type 0
StopsThere code p before after (Call q) = IsCallAt code q × NotBehind p before q after
StopsThere code p before after Running = after ≡ 0
StopsThere code p before after (Ended d) = after ≤ before
StopsThere code p before after Undefined = after ≤ before

-- from p on the course has stopped like that: what remains at p with the old memory and units is what remains there with the new ones
pub record Ran (old new : Store) (act : ℕ) (code : List Step) (p before after : ℕ) (stop : Stop) : Type 0 where
  pub does : (enter : Enter) (end : Datum) (at : ℕ → Remains) → GoesBy old.abi act code enter end at → (s : State) → s.memory ≡ memory old → s.left ≡ before → at p s ≡ stopped end at stop (with_both s (memory new) after)
  pub there : StopsThere code p before after stop
  pub abi : new.abi ≡ old.abi

-- the course has gone from p to q
pub record Went (old new : Store) (act : ℕ) (code : List Step) (p before q after : ℕ) : Type 0 where
  pub does : (enter : Enter) (end : Datum) (at : ℕ → Remains) → GoesBy old.abi act code enter end at → (s : State) → s.memory ≡ memory old → s.left ≡ before → at p s ≡ at q (with_both s (memory new) after)
  pub on : NotBehind p before q after
  pub abi : new.abi ≡ old.abi

-- the course has gone from its first place to p, which lies in the list
pub record Stands (old now : Store) (act : ℕ) (code : List Step) (place before p left : ℕ) : Type 0 where
  pub went : Went old now act code place before p left
  pub there : p < length code

-- falls with each step, of which each leads further on or spends a unit
abbrev pub ahead : List Step → ℕ → ℕ → ℕ
ahead code p left = left * suc (length code) + (length code - p)

-- and on to q, which lies in the list
pub record Advanced (old new : Store) (act : ℕ) (code : List Step) (p before q after : ℕ) : Type 0 where
  pub went : Went old new act code p before q after
  pub within : q < length code
  pub falls : ahead code q after < ahead code p before

-- one step was taken from p
abbrev pub Stepped : Store → Store → ℕ → List Step → ℕ → ℕ → ℕ → Pace → Type 0
Stepped old new act code p before after (On q) = Advanced old new act code p before q after
Stepped old new act code p before after (Stopped stop) = Ran old new act code p before after stop

-- where a jump that spends a unit leads to
abbrev pub Turned : ℕ → ℕ → ℕ → Pace → Type 0
Turned q zero after pace = (pace ≡ Stopped Running) × (after ≡ 0)
Turned q (suc n) after pace = (pace ≡ On q) × (after ≡ n)

-- what a step's lead means for the course, of which so many units are left
abbrev pub Led : Onward → ℕ → ℕ → Pace → Type 0
Led (onward.At q) before after pace = (pace ≡ On q) × (after ≡ before)
Led (onward.Back q) before after pace = Turned q before after pace
Led (onward.Ended d) before after pace = (pace ≡ Stopped (Ended d)) × (after ≡ before)
Led onward.Undefined before after pace = (pace ≡ Stopped Undefined) × (after ≡ before)
