-- Device: the steps of a body lead further on, but by a spent unit.
use Rattle.std.proofs.Common.{◌≡◌, ℕ, zero, suc, ◌+◌, ◌<◌, ◌≤◌, ◌⊎◌, inl, inr, Bool, true, false, ◌&&◌, nat_lt, List, [], ◌∷◌, ◌++◌, length, slice_get, Option, Some, None, refl, ap, ◌∙◌, subst, arith, ℤ}
use Rattle.std.proofs.lemmas.Bool.{cases_lt, lt-ltb, le-ltb}
use Rattle.std.proofs.lemmas.List.{length-append}
use Rattle.cil_tree.specs.Tree.{Stmt, Do, If, Switch, Loop, Block, Label, Case, Default, Goto, Break, Return, Stmts, Done, Seq}
use Rattle.cil_control.specs.Remains.{steps, steps_in}
use Rattle.cil_control.specs.Flat.{Step, Forward, Back, Leave, jump, jump_by, break_to, cases_at, cases_from, or_else, default_at, default_from, place_or, steps_at, steps_from, body_steps, labels_at, labels_from}
use Rattle.cil_control.specs.Leading.{further, table_leads, leads, lead_from, BodiesLeadOn}
use Rattle.cil_control.proofs.Courses.{listed, listed_in}

pub both_true : (a b : Bool) → a ≡ true → b ≡ true → (a && b) ≡ true
both_true true b h k = k
both_true false b h k = absurd (cc)

pub both_of : (a b : Bool) → (a && b) ≡ true → (a ≡ true) × (b ≡ true)
both_of true b h = (refl, h)
both_of false b h = absurd (cc)

further_on : (n p q : ℕ) → p < q → q < n → further n p q ≡ true
further_on n p q far near = both_true (nat_lt p q) (nat_lt q n) (lt-ltb p q far) (lt-ltb q n near)

lead_join : (n p q : ℕ) (xs ys : List Step) → p + length xs ≡ q → lead_from n p xs ≡ true → lead_from n q ys ≡ true → lead_from n p (xs ++ ys) ≡ true
lead_join n p q [] ys e h k = let same : q ≡ p = omega arith in subst (λ i. lead_from n i ys ≡ true) same k
lead_join n p q (x ∷ xs) ys e h k =
    let two = both_of (leads n p x) (lead_from n (suc p) xs) h in
    both_true (leads n p x) (lead_from n (suc p) (xs ++ ys)) two.0 (lead_join n (suc p) q xs ys (omega arith) two.1 k)

table_join : (n p : ℕ) (xs ys : List (ℤ × ℕ)) → table_leads n p xs ≡ true → table_leads n p ys ≡ true → table_leads n p (xs ++ ys) ≡ true
table_join n p [] ys h k = k
table_join n p (x ∷ xs) ys h k =
    let two = both_of (further n p x.1) (table_leads n p xs) h in
    both_true (further n p x.1) (table_leads n p (xs ++ ys)) two.0 (table_join n p xs ys two.1 k)

-- the cases within a statement at i that ends at q lie behind p
mutual
  cases_lead : (n p i q : ℕ) (x : Stmt) → p < i → i + steps x ≡ q → q < n → table_leads n p (cases_at i x) ≡ true
  cases_lead n p i q (Do j) h e l = refl
  cases_lead n p i q (If c holds fails) h e l =
      table_join n p (cases_from (suc i) holds) (cases_from (suc (suc i + steps_in holds)) fails) (all_cases_lead n p (suc i) (suc i + steps_in holds) holds (omega arith) refl (omega arith))
      (all_cases_lead n p (suc (suc i + steps_in holds)) q fails (omega arith) (omega arith) l)
  cases_lead n p i q (Switch c body) h e l = refl
  cases_lead n p i q (Loop body) h e l = all_cases_lead n p (suc i) (suc i + steps_in body) body (omega arith) refl (omega arith)
  cases_lead n p i q (Block body) h e l = all_cases_lead n p i q body h e l
  cases_lead n p i q (Label k) h e l = refl
  cases_lead n p i q (Case kind v) h e l = both_true (further n p i) true (further_on n p i h (omega arith)) refl
  cases_lead n p i q Default h e l = refl
  cases_lead n p i q (Goto k) h e l = refl
  cases_lead n p i q Break h e l = refl
  cases_lead n p i q (Return v) h e l = refl

  all_cases_lead : (n p i q : ℕ) (xs : Stmts) → p < i → i + steps_in xs ≡ q → q < n → table_leads n p (cases_from i xs) ≡ true
  all_cases_lead n p i q Done h e l = refl
  all_cases_lead n p i q (Seq first rest) h e l =
      table_join n p (cases_at i first) (cases_from (i + steps first) rest) (cases_lead n p i (i + steps first) first h refl (omega arith)) (all_cases_lead n p (i + steps first) q rest (omega arith) (omega arith) l)

-- a place that lies behind p, if there is one
abbrev Further : ℕ → ℕ → Option ℕ → Type 0
Further n p None = Unit {0}
Further n p (Some q) = further n p q ≡ true

either_further : (n p : ℕ) (o u : Option ℕ) → Further n p o → Further n p u → Further n p (or_else o u)
either_further n p None u h k = k
either_further n p (Some q) u h k = h

place_further : (n p q : ℕ) (o : Option ℕ) → further n p q ≡ true → Further n p o → further n p (place_or q o) ≡ true
place_further n p q None h k = h
place_further n p q (Some i) h k = k

mutual
  default_leads : (n p i q : ℕ) (x : Stmt) → p < i → i + steps x ≡ q → q < n → Further n p (default_at i x)
  default_leads n p i q (Do j) h e l = tt
  default_leads n p i q (If c holds fails) h e l =
      either_further n p (default_from (suc i) holds) (default_from (suc (suc i + steps_in holds)) fails) (defaults_lead n p (suc i) (suc i + steps_in holds) holds (omega arith) refl (omega arith))
      (defaults_lead n p (suc (suc i + steps_in holds)) q fails (omega arith) (omega arith) l)
  default_leads n p i q (Switch c body) h e l = tt
  default_leads n p i q (Loop body) h e l = defaults_lead n p (suc i) (suc i + steps_in body) body (omega arith) refl (omega arith)
  default_leads n p i q (Block body) h e l = defaults_lead n p i q body h e l
  default_leads n p i q (Label k) h e l = tt
  default_leads n p i q (Case kind v) h e l = tt
  default_leads n p i q Default h e l = further_on n p i h (omega arith)
  default_leads n p i q (Goto k) h e l = tt
  default_leads n p i q Break h e l = tt
  default_leads n p i q (Return v) h e l = tt

  defaults_lead : (n p i q : ℕ) (xs : Stmts) → p < i → i + steps_in xs ≡ q → q < n → Further n p (default_from i xs)
  defaults_lead n p i q Done h e l = tt
  defaults_lead n p i q (Seq first rest) h e l =
      either_further n p (default_at i first) (default_from (i + steps first) rest) (default_leads n p i (i + steps first) first h refl (omega arith)) (defaults_lead n p (i + steps first) q rest (omega arith) (omega arith) l)

-- places in a list of n steps
abbrev Below : ℕ → List ℕ → Type 0
Below n [] = Unit {0}
Below n (p ∷ ps) = (p < n) × Below n ps

below_join : (n : ℕ) (ps qs : List ℕ) → Below n ps → Below n qs → Below n (ps ++ qs)
below_join n [] qs h k = k
below_join n (p ∷ ps) qs h k = (h.0, below_join n ps qs h.1 k)

-- the places of labels are such
mutual
  labels_below : (n p q : ℕ) (x : Stmt) → p + steps x ≡ q → q < n → Below n (labels_at p x)
  labels_below n p q (Do j) e l = tt
  labels_below n p q (If c holds fails) e l =
      below_join n (labels_from (suc p) holds) (labels_from (suc (suc p + steps_in holds)) fails) (all_labels_below n (suc p) (suc p + steps_in holds) holds refl (omega arith)) (all_labels_below n (suc (suc p + steps_in holds)) q fails (omega arith) l)
  labels_below n p q (Switch c body) e l = all_labels_below n (suc p) q body (omega arith) l
  labels_below n p q (Loop body) e l = all_labels_below n (suc p) (suc p + steps_in body) body refl (omega arith)
  labels_below n p q (Block body) e l = all_labels_below n p q body e l
  labels_below n p q (Label k) e l = (omega arith, tt)
  labels_below n p q (Case kind v) e l = tt
  labels_below n p q Default e l = tt
  labels_below n p q (Goto k) e l = tt
  labels_below n p q Break e l = tt
  labels_below n p q (Return v) e l = tt

  all_labels_below : (n p q : ℕ) (xs : Stmts) → p + steps_in xs ≡ q → q < n → Below n (labels_from p xs)
  all_labels_below n p q Done e l = tt
  all_labels_below n p q (Seq first rest) e l =
      below_join n (labels_at p first) (labels_from (p + steps first) rest) (labels_below n p (p + steps first) first refl (omega arith)) (all_labels_below n (p + steps first) q rest (omega arith) l)

-- a place below n, if there is one
abbrev IsBelow : ℕ → Option ℕ → Type 0
IsBelow n None = Unit {0}
IsBelow n (Some q) = q < n

read_below : (n : ℕ) (ps : List ℕ) (k : ℕ) → Below n ps → IsBelow n (slice_get ps k)
read_below n [] zero h = tt
read_below n [] (suc k) h = tt
read_below n (p ∷ ps) zero h = h.0
read_below n (p ∷ ps) (suc k) h = read_below n ps k h.1

jump_leads : (n p : ℕ) (o : Option ℕ) → IsBelow n o → leads n p (jump p o) ≡ true
jump_leads n p None h = refl
jump_leads n p (Some q) h = by (cases_lt p q)
  where
    by : (p < q) ⊎ (q ≤ p) → leads n p (jump_by (nat_lt p q) q) ≡ true
    by (inl far) = ap (λ b. leads n p (jump_by b q)) (lt-ltb p q far) ∙ further_on n p q far h
    by (inr near) = ap (λ b. leads n p (jump_by b q)) (le-ltb p q near) ∙ lt-ltb q n h

-- the loop or switch that a statement stands in, if any, ends at q or behind it
abbrev Ends : ℕ → ℕ → Option ℕ → Type 0
Ends n q None = Unit {0}
Ends n q (Some e) = (q ≤ e) × (e < n)

ends_from : (n p q : ℕ) (b : Option ℕ) → p ≤ q → Ends n q b → Ends n p b
ends_from n p q None h e = tt
ends_from n p q (Some i) h e = let behind : q ≤ i = e.0 in (omega arith, e.1)

alone : (n p : ℕ) (x : Step) → leads n p x ≡ true → lead_from n p (x ∷ []) ≡ true
alone n p x h = both_true (leads n p x) true h refl

break_leads : (n p q : ℕ) (b : Option ℕ) → p < q → Ends n q b → leads n p (break_to b) ≡ true
break_leads n p q None h e = refl
break_leads n p q (Some i) h e = let behind : q ≤ i = e.0 in further_on n p i (omega arith) e.1

mutual
  steps_lead : (label : ℕ → Option ℕ) (n : ℕ) → ((k : ℕ) → IsBelow n (label k)) → (p q : ℕ) (b : Option ℕ) (x : Stmt) → p + steps x ≡ q → q < n → Ends n q b → lead_from n p (steps_at label p b x) ≡ true
  steps_lead label n lab p q b (Do i) e l a = both_true (further n p (suc p)) true (further_on n p (suc p) (omega arith) (omega arith)) refl
  steps_lead label n lab p q b (If c holds fails) e l a =
      both_true (further n p (suc p) && further n p (suc (suc p + steps_in holds))) _
      (both_true (further n p (suc p)) (further n p (suc (suc p + steps_in holds))) (further_on n p (suc p) (omega arith) (omega arith)) (further_on n p (suc (suc p + steps_in holds)) (omega arith) (omega arith)))
      (lead_join n (suc p) (suc p + steps_in holds) (steps_from label (suc p) b holds) (Forward (suc (suc p + steps_in holds) + steps_in fails) ∷ steps_from label (suc (suc p + steps_in holds)) b fails)
      (ap (λ i. suc p + i) (listed_in label (suc p) b holds))
      (all_steps_lead label n lab (suc p) (suc p + steps_in holds) b holds refl (omega arith) (ends_from n (suc p + steps_in holds) q b (omega arith) a))
      (both_true (further n (suc p + steps_in holds) (suc (suc p + steps_in holds) + steps_in fails)) (lead_from n (suc (suc p + steps_in holds)) (steps_from label (suc (suc p + steps_in holds)) b fails))
      (further_on n (suc p + steps_in holds) (suc (suc p + steps_in holds) + steps_in fails) (omega arith) (omega arith))
      (all_steps_lead label n lab (suc (suc p + steps_in holds)) q b fails (omega arith) l a)))
  steps_lead label n lab p q b (Switch c body) e l a =
      let behind : suc p + steps_in body < n = omega arith in
      both_true (table_leads n p (cases_from (suc p) body) && further n p (place_or (suc p + steps_in body) (default_from (suc p) body))) _
      (both_true (table_leads n p (cases_from (suc p) body)) (further n p (place_or (suc p + steps_in body) (default_from (suc p) body)))
      (all_cases_lead n p (suc p) (suc p + steps_in body) body (omega arith) refl behind)
      (place_further n p (suc p + steps_in body) (default_from (suc p) body) (further_on n p (suc p + steps_in body) (omega arith) behind) (defaults_lead n p (suc p) (suc p + steps_in body) body (omega arith) refl behind)))
      (all_steps_lead label n lab (suc p) (suc p + steps_in body) (Some (suc p + steps_in body)) body refl behind (omega arith, behind))
  steps_lead label n lab p q b (Loop body) e l a =
      let first : nat_lt (suc p) n ≡ true = lt-ltb (suc p) n (omega arith) in
      let behind : suc p + steps_in body < n = omega arith in
      let ends : suc (suc p + steps_in body) < n = omega arith in
      both_true (nat_lt (suc p) n) _ first
      (lead_join n (suc p) (suc p + steps_in body) (steps_from label (suc p) (Some (suc (suc p + steps_in body))) body) (Back (suc p) ∷ []) (ap (λ i. suc p + i) (listed_in label (suc p) (Some (suc (suc p + steps_in body))) body))
      (all_steps_lead label n lab (suc p) (suc p + steps_in body) (Some (suc (suc p + steps_in body))) body refl behind (omega arith, ends)) (alone n (suc p + steps_in body) (Back (suc p)) first))
  steps_lead label n lab p q b (Block body) e l a = all_steps_lead label n lab p q b body e l a
  steps_lead label n lab p q b (Label k) e l a = refl
  steps_lead label n lab p q b (Case kind v) e l a = refl
  steps_lead label n lab p q b Default e l a = refl
  steps_lead label n lab p q b (Goto k) e l a = alone n p (jump p (label k)) (jump_leads n p (label k) (lab k))
  steps_lead label n lab p q b Break e l a = alone n p (break_to b) (break_leads n p q b (omega arith) a)
  steps_lead label n lab p q b (Return v) e l a = refl

  all_steps_lead : (label : ℕ → Option ℕ) (n : ℕ) → ((k : ℕ) → IsBelow n (label k)) → (p q : ℕ) (b : Option ℕ) (xs : Stmts) → p + steps_in xs ≡ q → q < n → Ends n q b → lead_from n p (steps_from label p b xs) ≡ true
  all_steps_lead label n lab p q b Done e l a = refl
  all_steps_lead label n lab p q b (Seq first rest) e l a =
      lead_join n p (p + steps first) (steps_at label p b first) (steps_from label (p + steps first) b rest) (ap (λ i. p + i) (listed label p b first))
      (steps_lead label n lab p (p + steps first) b first refl (omega arith) (ends_from n (p + steps first) q b (omega arith) a))
      (all_steps_lead label n lab (p + steps first) q b rest (omega arith) l a)

-- the list of a body, which ends with a return
leads_to_end : (body : Stmts) (n : ℕ) → n ≡ suc (steps_in body) → lead_from n 0 (body_steps (slice_get (labels_from 0 body)) body) ≡ true
leads_to_end body n e =
    let label : ℕ → Option ℕ = slice_get (labels_from 0 body) in
    let count : length (steps_from label 0 None body) ≡ steps_in body = listed_in label 0 None body in
    lead_join n 0 (steps_in body) (steps_from label 0 None body) (Leave None ∷ []) (omega arith)
    (all_steps_lead label n (λ k. read_below n (labels_from 0 body) k (all_labels_below n 0 (steps_in body) body (omega arith) (omega arith))) 0 (steps_in body) None body (omega arith) (omega arith) tt) refl

pub bodies_lead_on : BodiesLeadOn
bodies_lead_on body =
    let count : length (body_steps (slice_get (labels_from 0 body)) body) ≡ suc (steps_in body) = (
    let all = length-append (steps_from (slice_get (labels_from 0 body)) 0 None body) (Leave None ∷ []) in
    let some : length (steps_from (slice_get (labels_from 0 body)) 0 None body) ≡ steps_in body = listed_in (slice_get (labels_from 0 body)) 0 None body in
    omega arith) in
    record { first = omega arith; each = leads_to_end body (length (body_steps (slice_get (labels_from 0 body)) body)) count }
