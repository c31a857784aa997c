-- Device: two runs that differ in their bounds alone are alike: the second has so many units more than the first at each moment.
use Rattle.std.specs.Prelude.{◌≡◌, ℕ, zero, suc, pred, ◌+◌, ◌<◌, ◌≤◌, List, [], ◌∷◌, Option, Some, None}
use Rattle.std.proofs.Math.Nat.{le_trans}
use Rattle.cil_base.specs.Outcome.{IsPrefix}
use Rattle.cil_base.proofs.OutcomeLaws.{IsPrefix-trans}
use Rattle.execution.specs.States.{State, with_left, Result}
use Rattle.execution.specs.Unrolling.{Step}
use Rattle.execution.specs.Data.{Datum}
use Rattle.execution.specs.Calls.{Enter, Meaning, Object, Code, Host, Linked}
use Rattle.execution.specs.Linking.{Linkable}
use Rattle.execution.specs.Likeness.{Ending, Exact, Past, Later, Likeness, Like, Same, Needs}

-- with no unit more, the runs are the same; with more, the second goes on where the first is at its bound
abbrev pub cut_at : ℕ → Ending
cut_at zero = Exact
cut_at (suc more) = Past

-- the states are the same but for what is left; at most n units are left, and the output begins with base
abbrev pub Twins : ℕ → ℕ → List ℕ → State → State → Type 0
Twins n more base s t = (s.left ≤ n) × (t ≡ with_left s (s.left + more)) × IsPrefix base s.out

-- with units more, past the bound: at least one of them is spent
pub record PastBound (more : ℕ) (s t : State) : Type 0 where
  pub written : IsPrefix s.out t.out
  pub spent : t.left ≤ pred more

pub past_later : (more : ℕ) (s t u : State) → PastBound more s t → Later t u → PastBound more s u
past_later more s t u p l = record { written = IsPrefix-trans s.out t.out u.out p.written l.written; spent = le_trans l.spent p.spent }

abbrev pub twins : ℕ → ℕ → List ℕ → Likeness
twins n more base = record { states = Twins n more base; ended = Twins n more base; values = Same; past = PastBound more; later = past_later more; cut = cut_at more; wild = Exact }

-- two functions are alike from states with at most n units
abbrev pub Tied : {X A : Type 0} → ℕ → ℕ → List ℕ → (X → State → Result A) → (X → State → Result A) → Type 0
Tied {X} {A} n more base go to = (x : X) (s t : State) → Twins n more base s t → Like (twins n more base) Same (go x s) (to x t)

-- with any number of units: the output only grows, and no units come
abbrev pub Calm : {X A : Type 0} → (X → State → Result A) → Type 0
Calm {X} {A} go = (n : ℕ) (base : List ℕ) → Tied n 0 base go go

-- a step asks what is behind a spent unit only where a unit was spent
abbrev pub Guarded : {X A : Type 0} → Step X A → Type 0
Guarded {X} {A} step =
    (n more : ℕ) (base : List ℕ) (go to : X → State → Result A) → Needs (cut_at more) (Calm to) → ((m : ℕ) → m < n → Tied m more base go to) → Tied n more base (step go) (step to)

-- two steps are alike from states with at most top units, where what comes behind a spent unit is
abbrev pub TiedSteps : {X A : Type 0} → ℕ → ℕ → List ℕ → Step X A → Step X A → Type 0
TiedSteps {X} {A} top more base step other =
    (n : ℕ) (go to : X → State → Result A) → n ≤ top → Needs (cut_at more) (Calm to) → ((m : ℕ) → m < n → Tied m more base go to) → Tied n more base (step go) (other to)

-- a step whose output only grows, and to which no units come
abbrev pub CalmStep : {X A : Type 0} → Step X A → Type 0
CalmStep {X} {A} step = (n : ℕ) (base : List ℕ) (go : X → State → Result A) → ((m : ℕ) → m < n → Tied m 0 base go go) → Tied n 0 base (step go) (step go)

-- a body asks of calls nothing but what they do from states that it comes to
abbrev pub Tame : (Enter → ℕ → State → Result Datum) → Type 0
Tame body =
    (n more : ℕ) (base : List ℕ) (enter also : Enter) → Needs (cut_at more) (Calm also) → ((m : ℕ) → m ≤ n → Tied m more base enter also) → Tied n more base (body enter) (body also)

abbrev pub IsTame : Option Meaning → Type 0
IsTame None = Unit {0}
IsTame (Some (Object read_only bytes)) = Unit {0}
IsTame (Some (Code f)) = Tame f.body
IsTame (Some (Host name)) = Unit {0}

abbrev pub AllTame : Linked → Type 0
AllTame [] = Unit {0}
AllTame (m ∷ link) = IsTame m × AllTame link

-- what a unit says of its objects and functions has tame bodies, whichever entities its numbers are
abbrev pub TameUnit : List Linkable → Type 0
TameUnit [] = Unit {0}
TameUnit (x ∷ xs) = ((entities : List ℕ) → IsTame (x.means entities)) × TameUnit xs

abbrev pub TameUnits : List (List Linkable) → Type 0
TameUnits [] = Unit {0}
TameUnits (u ∷ us) = TameUnit u × TameUnits us
