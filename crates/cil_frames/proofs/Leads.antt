-- Device: what it means that the steps of a list lead on.
use Rattle.std.proofs.Common.{◌≡◌, ℕ, zero, suc, ◌+◌, ◌<◌, Bool, true, false, cond, List, [], ◌∷◌, length, slice_get, Option, Some, None, refl, sym, ap, ◌∙◌, subst, arith, ℤ}
use Rattle.std.specs.Prelude.{nat_lt, pos}
use Rattle.std.specs.Ordering.{int_eq}
use Rattle.std.proofs.lemmas.Bool.{ltb-true}
use Rattle.cil_base.specs.declared.kinds.Abi.{Abi}
use Rattle.byte_mem.specs.declared.stores.Store.{Store}
use Rattle.byte_mem.specs.declared.values.Scalar.TheVariants.{Int as OfKind}
use Rattle.byte_mem.specs.Steps.{◌>>=◌}
use Rattle.byte_mem.specs.Operator.{truth, number_in}
use Rattle.byte_mem.specs.declared.values.Value.TheVariants.{Int}
use Rattle.byte_mem.specs.Memory.{Memory}
use Rattle.byte_mem.specs.Store.{memory}
use Rattle.execution.specs.States.{State, Result, Goes, Exits, Running, Undefined, with_memory, with_left, given, last}
use Rattle.execution.specs.Data.{Datum, Single}
use Rattle.execution.specs.Calls.{Enter}
use Rattle.cil_control.specs.Remains.{Remains}
use Rattle.cil_control.specs.Flat.{place_by, place_for}
use Rattle.cil_control.specs.Leading.{further, table_leads}
use Rattle.cil_control.proofs.Leads.{both_of}
use Rattle.cil_code.specs.declared.steps.Step.{Step}
use Rattle.cil_code.specs.declared.steps.Step.TheVariants.{Set, Zero, Call, Test, Choose, Forward, Back, Leave, Stuck}
use Rattle.cil_code.specs.declared.taking.Onward.TheVariants as onward
use Rattle.cil_machine.specs.Terms.{term_value}
use Rattle.cil_machine.specs.Instructions.{zeroed}
use Rattle.cil_code.specs.Passing.{operand_datum}
use Rattle.cil_code.specs.Leading.{leads, lead_from, LeadOn}
use Rattle.cil_code.specs.Doing.{assigned, done}
use Rattle.cil_code.specs.Taking.{is_call, Took}

leads_at : (n p q i : ℕ) (ys : List Step) (y : Step) → lead_from n p ys ≡ true → slice_get ys i ≡ Some y → q ≡ p + i → leads n q y ≡ true
leads_at n p q i [] y h e s = absurd (cc)
leads_at n p q zero (x ∷ ys) y h e s =
    let same : x ≡ y = ap (λ o. elim o [ None ↦ x | Some a ↦ a ]) e in
    let here : q ≡ p = omega arith in
    subst (λ q. leads n q y ≡ true) (sym here) (subst (λ y. leads n p y ≡ true) same (both_of (leads n p x) (lead_from n (suc p) ys) h).0)
leads_at n p q (suc i) (x ∷ ys) y h e s = leads_at n (suc p) q i ys y (both_of (leads n p x) (lead_from n (suc p) ys) h).1 e (omega arith)

-- the step at each place leads on
pub step_leads : (code : List Step) (p : ℕ) (y : Step) → LeadOn code → slice_get code p ≡ Some y → leads (length code) p y ≡ true
step_leads code p y h e = leads_at (length code) 0 p p code y h e (omega arith)

-- a place of a table lies behind
pub for_leads : (n p other : ℕ) (v : ℤ) (table : List (ℤ × ℕ)) → table_leads n p table ≡ true → further n p other ≡ true → further n p (place_for v table other) ≡ true
for_leads n p other v [] t h = h
for_leads n p other v (x ∷ table) t h =
    let k = both_of (further n p x.1) (table_leads n p table) t in
    by (int_eq x.0 v) k.0 (for_leads n p other v table k.1 h)
  where
    by : (b : Bool) → further n p x.1 ≡ true → further n p (place_for v table other) ≡ true → further n p (place_by b x.1 (place_for v table other)) ≡ true
    by true f r = f
    by false f r = r

-- what tells two places from each other, one of which passes a test
abbrev probe : (ℕ → Bool) → ℕ → Remains
probe g q s = cond (g q) (Running s) (Exits 0 s)

abbrev shown : Result Datum → Option Bool
shown (Goes d s) = None
shown (Exits k s) = Some false
shown (Running s) = Some true
shown (Undefined s) = None

abbrev units : Result Datum → ℕ
units r = (last r).left

abbrev state_of : Memory → State
state_of m = record { memory = m; input = []; at_end = false; out = []; left = 1; next = 0; live = 0; heap = 0 }

abbrev no_enter : Enter
no_enter c s = Undefined s

abbrev no_datum : Datum
no_datum = Single (Int (pos 0))

shown_by : (b : Bool) (s : State) → shown (cond b (Running s) (Exits 0 s)) ≡ Some b
shown_by true s = refl
shown_by false s = refl

units_by : (b : Bool) (s : State) → units (cond b (Running s) (Exits 0 s)) ≡ s.left
units_by true s = refl
units_by false s = refl

apart : (u : ℕ) → u ≡ 0 → u ≡ 1 → ⊥
apart u e f = omega arith

some_same : (a b : Bool) → Some a ≡ Some b → a ≡ b
some_same a b e = ap (λ o. elim o [ None ↦ a | Some x ↦ x ]) e

-- where a computation leads to places that pass the test, the place that is shown passes it
given_shows : {A : Type 0} (g : ℕ → Bool) (s : State) (o : Option A) (f : A → ℕ) (t : A → State) (b : Bool) → ((a : A) → g (f a) ≡ true) → shown (given s o (λ a. probe g (f a) (t a))) ≡ Some b → b ≡ true
given_shows g s None f t b h e = absurd (cc)
given_shows g s (Some a) f t b h e = sym (some_same (g (f a)) b (sym (shown_by (g (f a)) (t a)) ∙ e)) ∙ h a

-- and it spends no unit
given_units : {A : Type 0} (g : ℕ → Bool) (s : State) (o : Option A) (f : A → ℕ) (t : A → State) (b : Bool) (u : ℕ) → ((a : A) → (t a).left ≡ 1) → shown (given s o (λ a. probe g (f a) (t a))) ≡ Some b → units (given s o (λ a. probe g (f a) (t a))) ≡ u → u ≡ 1
given_units g s None f t b u h e k = absurd (cc)
given_units g s (Some a) f t b u h e k = sym k ∙ (units_by (g (f a)) (t a) ∙ h a)

ends_nowhere : (s : State) (o : Option Datum) (b : Bool) → shown (given s o (λ d. Goes d s)) ≡ Some b → ⊥
ends_nowhere s None b e = absurd (cc)
ends_nowhere s (Some d) b e = absurd (cc)

-- a step that is taken to a place leads there
at_by : (abi : Abi) (m : Memory) (act n p : ℕ) (b : Bool) (y : Step) → is_call y ≡ false → leads n p y ≡ true → shown (done abi act no_enter no_datum (probe (further n p)) p y (state_of m)) ≡ Some b
    → units (done abi act no_enter no_datum (probe (further n p)) p y (state_of m)) ≡ 1 → b ≡ true
at_by abi m act n p b (Set place o) c h e u = given_shows (further n p) (state_of m) (assigned abi m act place o) (λ k. suc p) (with_memory (state_of m)) b (λ k. h) e
at_by abi m act n p b (Zero size place) c h e u = given_shows (further n p) (state_of m) (zeroed abi m act size place) (λ k. suc p) (with_memory (state_of m)) b (λ k. h) e
at_by abi m act n p b (Call k) c h e u = absurd (cc)
at_by abi m act n p b (Test t x q) c h e u =
    given_shows (further n p) (state_of m) (term_value abi m act t x >>= truth m t) (λ v. place_by v (suc p) q) (λ v. state_of m) b (by (both_of (further n p (suc p)) (further n p q) h)) e
  where
    by : (further n p (suc p) ≡ true) × (further n p q ≡ true) → (v : Bool) → further n p (place_by v (suc p) q) ≡ true
    by k true = k.0
    by k false = k.1
at_by abi m act n p b (Choose kind x table other) c h e u =
    let k = both_of (table_leads n p table) (further n p other) h in
    given_shows (further n p) (state_of m) (term_value abi m act (OfKind kind) x >>= number_in) (λ v. place_for v table other) (λ v. state_of m) b (λ v. for_leads n p other v table k.0 k.1) e
at_by abi m act n p b (Forward q) c h e u = sym (some_same (further n p q) b (sym (shown_by (further n p q) (state_of m)) ∙ e)) ∙ h
at_by abi m act n p b (Back q) c h e u =
    absurd (apart 0 refl (sym (units_by (further n p q) (with_left (state_of m) 0)) ∙ u))
at_by abi m act n p b (Leave None) c h e u = absurd (cc)
at_by abi m act n p b (Leave (Some o)) c h e u = absurd (ends_nowhere (state_of m) (operand_datum abi m act o) b e)
at_by abi m act n p b Stuck c h e u = absurd (cc)

pub at_leads : (old new : Store) (act n p q : ℕ) (y : Step) → is_call y ≡ false → leads n p y ≡ true → Took old new act p y (onward.At q) → further n p q ≡ true
at_leads old new act n p q y c h took =
    let t = took.does (state_of (memory old)) refl no_enter no_datum (probe (further n p)) in
    at_by old.abi (memory old) act n p (further n p q) y c h (ap shown t ∙ shown_by (further n p q) (state_of (memory new))) (ap units t ∙ units_by (further n p q) (state_of (memory new)))

-- and a step that spends a unit to a place of the list
abbrev within : ℕ → ℕ → Bool
within n q = nat_lt q n

back_by : (abi : Abi) (m : Memory) (act n p : ℕ) (b : Bool) (y : Step) → is_call y ≡ false → leads n p y ≡ true → shown (done abi act no_enter no_datum (probe (within n)) p y (state_of m)) ≡ Some b
    → units (done abi act no_enter no_datum (probe (within n)) p y (state_of m)) ≡ 0 → b ≡ true
back_by abi m act n p b (Set place o) c h e u =
    absurd (apart 0 refl (given_units (within n) (state_of m) (assigned abi m act place o) (λ k. suc p) (with_memory (state_of m)) b 0 (λ k. refl) e u))
back_by abi m act n p b (Zero size place) c h e u =
    absurd (apart 0 refl (given_units (within n) (state_of m) (zeroed abi m act size place) (λ k. suc p) (with_memory (state_of m)) b 0 (λ k. refl) e u))
back_by abi m act n p b (Call k) c h e u = absurd (cc)
back_by abi m act n p b (Test t x q) c h e u =
    absurd (apart 0 refl (given_units (within n) (state_of m) (term_value abi m act t x >>= truth m t) (λ v. place_by v (suc p) q) (λ v. state_of m) b 0 (λ v. refl) e u))
back_by abi m act n p b (Choose kind x table other) c h e u =
    absurd (apart 0 refl (given_units (within n) (state_of m) (term_value abi m act (OfKind kind) x >>= number_in) (λ v. place_for v table other) (λ v. state_of m) b 0 (λ v. refl) e u))
back_by abi m act n p b (Forward q) c h e u =
    absurd (apart 1 (sym (units_by (within n q) (state_of m)) ∙ u) refl)
back_by abi m act n p b (Back q) c h e u = sym (some_same (within n q) b (sym (shown_by (within n q) (with_left (state_of m) 0)) ∙ e)) ∙ h
back_by abi m act n p b (Leave None) c h e u = absurd (cc)
back_by abi m act n p b (Leave (Some o)) c h e u = absurd (ends_nowhere (state_of m) (operand_datum abi m act o) b e)
back_by abi m act n p b Stuck c h e u = absurd (cc)

pub back_leads : (old new : Store) (act n p q : ℕ) (y : Step) → is_call y ≡ false → leads n p y ≡ true → Took old new act p y (onward.Back q) → q < n
back_leads old new act n p q y c h took =
    let t = took.does (state_of (memory old)) refl no_enter no_datum (probe (within n)) in
    ltb-true q n
    (back_by old.abi (memory old) act n p (within n q) y c h (ap shown t ∙ shown_by (within n q) (with_left (state_of (memory new)) 0)) (ap units t ∙ units_by (within n q) (with_left (state_of (memory new)) 0)))

pub further_is : (n p q : ℕ) → further n p q ≡ true → (p < q) × (q < n)
further_is n p q h =
    let k = both_of (nat_lt p q) (nat_lt q n) h in
    (ltb-true p q k.0, ltb-true q n k.1)
