-- Device: parts of functions ask of calls, and of what comes behind a spent unit, nothing but what they do there.
use Rattle.std.proofs.Common.{◌≡◌, ℕ, ◌<◌, ◌≤◌, List, arith}
use Rattle.execution.specs.States.{State, Result}
use Rattle.execution.specs.Unrolling.{meaning}
use Rattle.execution.specs.Jumps.{Entry, Signal}
use Rattle.execution.specs.Calls.{Enter}
use Rattle.execution.specs.Likeness.{Needs}
use Rattle.execution.specs.Bounds.{cut_at, Tied, Calm, Guarded, TiedSteps, CalmStep}
use Rattle.execution.proofs.Congruence.{needs, needed}
use Rattle.execution.proofs.FixedPoint.{calm_grows, meaning_is, meanings_tied}
use Rattle.c_semantics.specs.Places.{Activation}
use Rattle.c_semantics.specs.Statements.{Part, EnteredPart, part_step, c_part, c_meaning}
use Rattle.c_semantics.proofs.StatementsMatch.{Within, part_m}

within_of : (n more : ℕ) (base : List ℕ) (enter also : Enter) (go to : EnteredPart → State → Result Signal) → Needs (cut_at more) (Calm also) → ((m : ℕ) → m ≤ n → Tied m more base enter also) → Needs (cut_at more) (Calm to) → ((m : ℕ) → m < n → Tied m more base go to)
    → Within n more base enter also (λ y en. go (y, en)) (λ y en. to (y, en))
within_of n more base enter also go to calm k still below = record {
  calls = λ m l. record { calm = calm; calls = k m l };
  behind = λ m l x en. record { like = below m l (x, en); grows = needs (cut_at more) (λ g t. calm_grows to g (x, en) t) still };
  grows = λ x en. needs (cut_at more) (λ g t. calm_grows to g (x, en) t) still;
}

-- where calls are alike, so are the steps
steps_tied : (a : Activation) (top more : ℕ) (base : List ℕ) (enter also : Enter) → Needs (cut_at more) (Calm also) → ((m : ℕ) → m ≤ top → Tied m more base enter also) → TiedSteps top more base (part_step a enter) (part_step a also)
steps_tied a top more base enter also calm k n go to h still below x s t tw =
    (part_m a x.0 n (within_of n more base enter also go to calm (λ m l. k m (omega (arith, l, h))) still below) x.1).like s t tw

-- with calls that are calm, so is the step
calm_step : (a : Activation) (enter : Enter) → Calm enter → CalmStep (part_step a enter)
calm_step a enter calm n base go k x s t tw = (part_m a x.0 n (within_of n 0 base enter enter go go tt (λ m l. calm m base) tt k) x.1).like s t tw

-- what a part of a function does, where calls are alike
pub parts_tied : (a : Activation) (n more : ℕ) (base : List ℕ) (enter also : Enter) → Needs (cut_at more) (Calm also) → ((m : ℕ) → m ≤ n → Tied m more base enter also) → Tied n more base (meaning (part_step a enter)) (meaning (part_step a also))
parts_tied a n more base enter also calm k = meanings_tied (part_step a enter) (part_step a also) n more base (steps_tied a n more base enter also calm k) (needs (cut_at more) (calm_step a also) calm) n (omega arith)

-- and it only writes and spends
pub parts_calm : (a : Activation) (enter : Enter) → Calm enter → Calm (meaning (part_step a enter))
parts_calm a enter calm n base = parts_tied a n 0 base enter enter tt (λ m l. calm m base)

guarded : (a : Activation) (enter : Enter) → ((n more : ℕ) (base : List ℕ) → Tied n more base enter enter) → Guarded (part_step a enter)
guarded a enter k n more base go to still below = steps_tied a n more base enter enter (needed (cut_at more) (λ m b. k m 0 b)) (λ m l. k m more base) n go to (omega arith) still below

-- what a part does is what it does where what comes behind a spent unit does so
pub part_is : (a : Activation) (enter : Enter) → ((n more : ℕ) (base : List ℕ) → Tied n more base enter enter) → (x : Part) (en : Entry) (s : State) → c_meaning a enter x en s ≡ c_part a enter (c_meaning a enter) x en s
part_is a enter k x en s = meaning_is (part_step a enter) (guarded a enter k) (x, en) s
