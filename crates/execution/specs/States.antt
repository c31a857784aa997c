-- Definition: the state of a running program, what a part of it may lead to, and the unit of the budget (C11 5.1.2.3, 3.4.3; the budget is own).
use Rattle.std.specs.Prelude.{ℕ, zero, suc, Bool, List, Option, Some, None}
use Rattle.byte_mem.specs.Memory.{Memory}

-- memory; the bytes of input that are left, and the end-of-file indicator of the input (C11 7.21.7.1p3), which is set once the end was found; the output so far;
-- the units of the budget that are left; the number of the next activation; and what the host keeps of malloc: the bytes of its live objects and the number of the next one
pub record State : Type 0 where
  pub memory : Memory
  pub input : List ℕ
  pub at_end : Bool
  pub out : List ℕ
  pub left : ℕ
  pub next : ℕ
  pub live : ℕ
  pub heap : ℕ

abbrev pub with_memory : State → Memory → State
with_memory s m = record s { memory = m }

abbrev pub with_left : State → ℕ → State
with_left s n = record s { left = n }

-- a part of a program goes on with a value, or the run ends in it: by an exit (C11 7.22.4), at its bound (own), or by undefined behaviour (3.4.3); each with the state then
pub data Result (A : Type 0) : Type 0 where
  Goes : (value : A) (state : State) → Result A
  Exits : (status : ℕ) (state : State) → Result A
  Running : (state : State) → Result A
  Undefined : (state : State) → Result A

-- one part behind another: where the first ends the run, the second is not reached
abbrev pub bind : {A B : Type 0} → Result A → (A → State → Result B) → Result B
bind (Goes a s) next = next a s
bind (Exits status s) next = Exits status s
bind (Running s) next = Running s
bind (Undefined s) next = Undefined s

-- what is computed without changing the state, None where that is undefined
abbrev pub given : {A B : Type 0} → State → Option A → (A → Result B) → Result B
given s (Some a) next = next a
given s None next = Undefined s

abbrev pub pure : {A : Type 0} → State → Option A → Result A
pure s (Some a) = Goes a s
pure s None = Undefined s

abbrev pub spent : {A : Type 0} → ℕ → State → (State → Result A) → Result A
spent zero s next = Running s
spent (suc n) s next = next (with_left s n)

-- a unit is spent; where none is left the run is still running (own)
abbrev pub spend : {A : Type 0} → State → (State → Result A) → Result A
spend s next = spent s.left s next

-- the state in which a run goes on or ends
abbrev pub last : {A : Type 0} → Result A → State
last (Goes a s) = s
last (Exits status s) = s
last (Running s) = s
last (Undefined s) = s

-- what a run has written then
abbrev pub output : {A : Type 0} → Result A → List ℕ
output r = (last r).out
