-- Device: bounds only cut runs, and what an ended run has spent is the least bound.
use Rattle.std.proofs.Common.{◌≡◌, ℕ, zero, suc, ◌+◌, ◌-◌, ◌<◌, ◌≤◌, List, [], Option, Some, None, option_map, refl, sym, ap, ◌∙◌, subst, arith}
use Rattle.cil_base.specs.declared.kinds.Abi.{Abi}
use Rattle.cil_base.specs.declared.kinds.Mode.{Mode}
use Rattle.cil_base.specs.declared.runs.Outcome.{Outcome}
use Rattle.cil_base.specs.declared.runs.Outcome.TheVariants.{Exit, Running as StillRunning, Undefined as WentUndefined}
use Rattle.cil_base.specs.Outcome.{output as written, IsPrefix}
use Rattle.cil_base.proofs.OutcomeLaws.{IsPrefix-refl}
use Rattle.byte_mem.specs.declared.values.Value.TheVariants.{Int, Ptr, Unknown, Part}
use Rattle.execution.specs.States.{State, Result, Goes, Exits, Running, Undefined, last, output}
use Rattle.execution.specs.Data.{Datum, Single, Bytes, Argument}
use Rattle.execution.specs.Calls.{Function, Linked, calls}
use Rattle.execution.specs.Runs.{status_of, outcome_of, main_in, result_with, outcome_in, run_linked, main_call, start_state, run, spent_until, units_spent}
use Rattle.execution.specs.Likeness.{ends, Like, Same}
use Rattle.execution.specs.Linking.{Linkable, linked, main_entity}
use Rattle.execution.specs.Bounds.{cut_at, twins, AllTame, TameUnits}
use Rattle.execution.specs.Laws.{Cuts, HasEnded, IsRunning, IsCutByBounds, IsLeastBound, SpendsLeast}
use Rattle.execution.proofs.CallLaws.{calls_tied}
use Rattle.execution.proofs.LinkLaws.{linked_tame}

cuts_itself : (x : Outcome) → Cuts x x
cuts_itself (Exit status out) = refl
cuts_itself (StillRunning out) = IsPrefix-refl out
cuts_itself (WentUndefined out) = refl

-- an outcome has the output of the result
pub status_output : (d : Datum) (out : List ℕ) → written (status_of d out) ≡ out
status_output (Single (Int v)) out = refl
status_output (Single (Ptr p)) out = refl
status_output (Single Unknown) out = refl
status_output (Single (Part p k)) out = refl
status_output (Bytes bytes) out = refl

pub outcome_output : (r : Result Datum) → written (outcome_of r) ≡ output r
outcome_output (Goes d s) = status_output d s.out
outcome_output (Exits status s) = refl
outcome_output (Running s) = refl
outcome_output (Undefined s) = refl

running_cuts : (n more : ℕ) (base : List ℕ) (s : State) (q : Result Datum) → ends {B = Datum} (cut_at more) (twins n more base) Running s q → IsPrefix s.out (written (outcome_of q))
running_cuts n zero base s q e = subst (λ x. IsPrefix s.out (written (outcome_of x))) (sym e.2) (subst (λ t. IsPrefix s.out t.out) (sym e.1.1) (IsPrefix-refl s.out))
running_cuts n (suc more) base s q e = subst (IsPrefix s.out) (sym (outcome_output q)) e.written

outcome_cuts : (n more : ℕ) (base : List ℕ) (r q : Result Datum) → Like (twins n more base) Same r q → Cuts (outcome_of r) (outcome_of q)
outcome_cuts n more base (Goes d s) q l =
    subst (Cuts (status_of d s.out)) (sym (ap outcome_of l.4 ∙ (ap (λ b. status_of b l.1.out) l.2 ∙ ap (λ t. status_of d t.out) l.3.1))) (cuts_itself (status_of d s.out))
outcome_cuts n more base (Exits status s) q l = ap outcome_of l.2 ∙ ap (λ t. Exit status t.out) l.1.1
outcome_cuts n more base (Running s) q l = running_cuts n more base s q l
outcome_cuts n more base (Undefined s) q l = ap outcome_of l.2 ∙ ap (λ t. WentUndefined t.out) l.1.1

results_cut : (abi : Abi) (link : Linked) → AllTame link → (entity : ℕ) (words : List (List ℕ)) (input : List ℕ) (n more : ℕ) (o : Option (Function × List Argument))
    → Cuts (outcome_in (option_map (result_with abi link entity words input n) o)) (outcome_in (option_map (result_with abi link entity words input (n + more)) o))
results_cut abi link h entity words input n more None = refl
results_cut abi link h entity words input n more (Some (f, arguments)) =
    outcome_cuts n more [] (calls link (main_call abi entity arguments) (start_state abi link words input n)) (calls link (main_call abi entity arguments) (start_state abi link words input (n + more)))
    (calls_tied link h n more [] (main_call abi entity arguments) (start_state abi link words input n) (start_state abi link words input (n + more)) (omega arith, refl, ([], refl)))

pub run_cuts : (abi : Abi) (link : Linked) → AllTame link → (entity : ℕ) (words : List (List ℕ)) (input : List ℕ) → IsCutByBounds (run_linked abi link entity words input)
run_cuts abi link h entity words input n more = results_cut abi link h entity words input n more (main_in link entity words)

-- an ended run is the same at greater bounds
ended_cuts : (x y : Outcome) → HasEnded x → Cuts x y → y ≡ x
ended_cuts (Exit status out) y h c = c
ended_cuts (StillRunning out) y h c = absurd h
ended_cuts (WentUndefined out) y h c = c

pub ended_stays : (run : ℕ → Outcome) → IsCutByBounds run → (m n : ℕ) → m ≤ n → HasEnded (run m) → run n ≡ run m
ended_stays run c m n h e =
    let up : m + (n - m) ≡ n = omega arith in
    subst (λ z. run z ≡ run m) up (ended_cuts (run m) (run (m + (n - m))) e (c m (n - m)))

data Told (x : Outcome) : Type 0 where
  still : IsRunning x → Told x
  over : HasEnded x → Told x

told : (x : Outcome) → Told x
told (Exit status out) = over tt
told (StillRunning out) = still tt
told (WentUndefined out) = over tt

not_both : (x : Outcome) → IsRunning x → HasEnded x → ⊥
not_both (Exit status out) i e = i
not_both (StillRunning out) i e = e
not_both (WentUndefined out) i e = i

-- what is left of an ended run is more by as many units as it had more
ended_left : (n more : ℕ) (base : List ℕ) (r q : Result Datum) → Like (twins n more base) Same r q → HasEnded (outcome_of r) → (last q).left ≡ (last r).left + more
ended_left n more base (Goes d s) q l e = ap (λ z. (last z).left) l.4 ∙ ap (λ t. t.left) l.3.1
ended_left n more base (Exits status s) q l e = ap (λ z. (last z).left) l.2 ∙ ap (λ t. t.left) l.1.1
ended_left n more base (Running s) q l e = absurd e
ended_left n more base (Undefined s) q l e = ap (λ z. (last z).left) l.2 ∙ ap (λ t. t.left) l.1.1

left_within : (n : ℕ) (base : List ℕ) (r q : Result Datum) → Like (twins n 0 base) Same r q → (last r).left ≤ n
left_within n base (Goes d s) q l = l.3.0
left_within n base (Exits status s) q l = l.1.0
left_within n base (Running s) q l = l.1.0
left_within n base (Undefined s) q l = l.1.0

-- a run that is still running at a bound has less than the units more left where it goes on
running_left : (n j : ℕ) (base : List ℕ) (r q : Result Datum) → Like (twins n (suc j) base) Same r q → IsRunning (outcome_of r) → (last q).left ≤ j
running_left n j base (Goes d s) q l i = absurd (by d i)
  where
    by : (d : Datum) → IsRunning (status_of d s.out) → ⊥
    by (Single (Int v)) i = i
    by (Single (Ptr p)) i = i
    by (Single Unknown) i = i
    by (Single (Part p k)) i = i
    by (Bytes bytes) i = i
running_left n j base (Exits status s) q l i = absurd i
running_left n j base (Running s) q l i = l.spent
running_left n j base (Undefined s) q l i = absurd i

module _ (r : ℕ → Result Datum) (like : (n more : ℕ) → Like (twins n more []) Same (r n) (r (n + more))) where
  cut : (n more : ℕ) → Cuts (outcome_of (r n)) (outcome_of (r (n + more)))
  cut n more = outcome_cuts n more [] (r n) (r (n + more)) (like n more)

  -- at the units that it has spent, an ended run has ended
  over_at : (n k l : ℕ) → k + l ≡ n → (last (r n)).left ≡ l → HasEnded (outcome_of (r n)) → Told (outcome_of (r k)) → HasEnded (outcome_of (r k))
  over_at n k zero e left h t =
      let same : k ≡ n = omega arith in
      subst (λ z. HasEnded (outcome_of (r z))) (sym same) h
  over_at n k (suc j) e left h (over d) = d
  over_at n k (suc j) e left h (still i) =
      let less : (last (r (k + suc j))).left ≤ j = running_left k j [] (r k) (r (k + suc j)) (like k (suc j)) i in
      let at : (last (r n)).left ≤ j = subst (λ z. (last (r z)).left ≤ j) e less in
      absurd (omega arith)

  -- and nothing is left there
  none_left : (n k l : ℕ) → k + l ≡ n → (last (r n)).left ≡ l → HasEnded (outcome_of (r k)) → (last (r k)).left ≡ 0
  none_left n k l e left d =
      let more : (last (r (k + l))).left ≡ (last (r k)).left + l = ended_left k l [] (r k) (r (k + l)) (like k l) d in
      let at : (last (r n)).left ≡ (last (r k)).left + l = subst (λ z. (last (r z)).left ≡ (last (r k)).left + l) e more in
      omega arith

  before : (k j : ℕ) → j < k → (last (r k)).left ≡ 0 → Told (outcome_of (r j)) → IsRunning (outcome_of (r j))
  before k j h z (still i) = i
  before k j h z (over d) =
      let up : j + (k - j) ≡ k = omega arith in
      let more : (last (r (j + (k - j)))).left ≡ (last (r j)).left + (k - j) = ended_left j (k - j) [] (r j) (r (j + (k - j))) (like j (k - j)) d in
      let at : (last (r k)).left ≡ (last (r j)).left + (k - j) = subst (λ z. (last (r z)).left ≡ (last (r j)).left + (k - j)) up more in
      absurd (omega arith)

  spent_least : (n : ℕ) → HasEnded (outcome_of (r n)) → IsLeastBound (λ i. outcome_of (r i)) n (n - (last (r n)).left)
  spent_least n h =
      let few : (last (r n)).left ≤ n = left_within n [] (r n) (r (n + 0)) (like n 0) in
      let e : (n - (last (r n)).left) + (last (r n)).left ≡ n = omega arith in
      let k : ℕ = n - (last (r n)).left in
      let d = over_at n k (last (r n)).left e refl h (told (outcome_of (r k))) in
      let z = none_left n k (last (r n)).left e refl d in
      record {
        within = omega arith;
        same = sym (ended_stays (λ i. outcome_of (r i)) cut k n (omega arith) d);
        least = λ j l. before k j l z (told (outcome_of (r j)));
      }

spent_in : (abi : Abi) (link : Linked) → AllTame link → (entity : ℕ) (words : List (List ℕ)) (input : List ℕ) (o : Option (Function × List Argument)) (n : ℕ)
    → HasEnded (outcome_in (option_map (result_with abi link entity words input n) o))
    → IsLeastBound (λ i. outcome_in (option_map (result_with abi link entity words input i) o)) n (spent_until n (option_map last (option_map (result_with abi link entity words input n) o)))
spent_in abi link h entity words input None n e = record { within = omega arith; same = refl; least = λ j l. absurd (omega arith) }
spent_in abi link h entity words input (Some (f, arguments)) n e =
    spent_least (λ i. calls link (main_call abi entity arguments) (start_state abi link words input i))
    (λ i more. calls_tied link h i more [] (main_call abi entity arguments) (start_state abi link words input i) (start_state abi link words input (i + more)) (omega arith, refl, ([], refl))) n e

pub spends_least : (units : List (List Linkable)) → TameUnits units → (mode : Mode) (words : List (List ℕ)) (input : List ℕ) → SpendsLeast (run units mode words input) (units_spent units mode words input)
spends_least units h mode words input n e = spent_in mode.abi (linked mode.common units) (linked_tame mode.common units h) (main_entity units) words input (main_in (linked mode.common units) (main_entity units) words) n e
