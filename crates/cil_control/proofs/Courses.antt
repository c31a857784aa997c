-- Device: at each place of a body's list, what remains is what the step there does.
use Rattle.std.proofs.Common.{◌≡◌, ℕ, zero, suc, ◌+◌, ◌≤◌, inl, inr, Bool, true, false, List, [], ◌∷◌, ◌++◌, length, drop, Option, Some, None, refl, sym, ap, ◌∙◌, subst, arith}
use Rattle.std.specs.Prelude.{◌||◌}
use Rattle.std.proofs.lemmas.List.{length-append}
use Rattle.std.proofs.lemmas.Bool.{eqb-true}
use Rattle.execution.specs.States.{State, Result, bind, spent, spend, with_left}
use Rattle.execution.specs.Jumps.{ToLabel, Normal, Jumped, Goer, jumped, spending}
use Rattle.cil_tree.specs.Tree.{Stmt, Do, If, Switch, Loop, Block, Label, Case, Default, Goto, Break, Return, Stmts, Done, Seq}
use Rattle.cil_semantics.specs.Statements.{has, has_in, is_label, stmts}
use Rattle.cil_control.specs.Remains.{Rest, Remains, first_of, in_order, in_construct, remains, remains_in, steps, steps_in, place_of, place_in, chosen_place}
use Rattle.cil_control.specs.Flat.{Step, Forward, Back, steps_at, steps_from}
use Rattle.cil_control.specs.Courses.{Course, IsSteady, Agrees, Takes, Labelled, LabelledIn, after_back, Leads, Around, Turns}
use Rattle.cil_control.proofs.Entries.{starts_in, enters, enters_in, counted, counted_in, within, within_in, second_of, behind_of}

bind_spent : {A B : Type 0} (n : ℕ) (s : State) (go : State → Result A) (K : A → State → Result B) → bind (spent n s go) K ≡ spent n s (λ t. bind (go t) K)
bind_spent zero s go K = refl
bind_spent (suc n) s go K = refl

-- what comes behind a spent unit
pub bind_spend : {A B : Type 0} (s : State) (go : State → Result A) (K : A → State → Result B) → bind (spend s go) K ≡ spend s (λ t. bind (go t) K)
bind_spend s go K = bind_spent s.left s go K

spent_same : {A : Type 0} (n : ℕ) (s : State) (f g : State → Result A) → ((t : State) → f t ≡ g t) → spent n s f ≡ spent n s g
spent_same zero s f g e = refl
spent_same (suc n) s f g e = e (with_left s n)

pub spend_same : {A : Type 0} (s : State) (f g : State → Result A) → ((t : State) → f t ≡ g t) → spend s f ≡ spend s g
spend_same s f g e = spent_same s.left s f g e

pub or_second : (a b : Bool) → b ≡ true → (a || b) ≡ true
or_second true b e = refl
or_second false b e = e

pub or_first : (a b : Bool) → a ≡ true → (a || b) ≡ true
or_first true b e = refl
or_first false b e = absurd (cc)

pub or_neither : (a b : Bool) → a ≡ false → b ≡ false → (a || b) ≡ false
or_neither true b e f = absurd (cc)
or_neither false b e f = f

-- at the first of some places
pub starting : (c : Course) (rs : List Remains) (k : Remains) (p q : ℕ) → p + length rs ≡ q → Agrees c p rs → ((s : State) → k s ≡ c.at q s) → (s : State) → first_of rs k s ≡ c.at p s
starting c [] k p q e h n s = let same : q ≡ p = omega arith in n s ∙ ap (λ i. c.at i s) same
starting c (r ∷ rs) k p q e h n s = sym (h.0 s)

-- at one of them, or behind them
pub entering : (c : Course) (rs : List Remains) (k : Remains) (p q i j : ℕ) → p + length rs ≡ q → p + i ≡ j → i ≤ length rs → Agrees c p rs → ((s : State) → k s ≡ c.at q s) → (s : State) → first_of (drop i rs) k s ≡ c.at j s
entering c rs k p q zero j e f l h n s = let same : p ≡ j = omega arith in starting c rs k p q e h n s ∙ ap (λ i. c.at i s) same
entering c [] k p q (suc i) j e f l h n s = absurd (omega arith)
entering c (r ∷ rs) k p q (suc i) j e f l h n s = entering c rs k (suc p) q i j (omega arith) (omega arith) (omega arith) h.1 n s

pub agrees_front : (c : Course) (xs ys : List Remains) (p : ℕ) → Agrees c p (xs ++ ys) → Agrees c p xs
agrees_front c [] ys p h = tt
agrees_front c (x ∷ xs) ys p h = (h.0, agrees_front c xs ys (suc p) h.1)

pub agrees_hind : (c : Course) (xs ys : List Remains) (p q : ℕ) → p + length xs ≡ q → Agrees c p (xs ++ ys) → Agrees c q ys
agrees_hind c [] ys p q e h = let same : p ≡ q = omega arith in subst (λ i. Agrees c i ys) same h
agrees_hind c (x ∷ xs) ys p q e h = agrees_hind c xs ys (suc p) q (omega arith) h.1

pub takes_join : (c : Course) (xs ys : List Step) (p q : ℕ) → p + length xs ≡ q → Takes c p xs → Takes c q ys → Takes c p (xs ++ ys)
takes_join c [] ys p q e h k = let same : q ≡ p = omega arith in subst (λ i. Takes c i ys) same k
takes_join c (x ∷ xs) ys p q e h k = (h.0, takes_join c xs ys (suc p) q (omega arith) h.1 k)

-- a statement has as many steps as are counted
mutual
  pub listed : (label : ℕ → Option ℕ) (p : ℕ) (b : Option ℕ) (x : Stmt) → length (steps_at label p b x) ≡ steps x
  listed label p b (Do i) = refl
  listed label p b (If e holds fails) =
      let first : length (steps_from label (suc p) b holds) ≡ steps_in holds = listed_in label (suc p) b holds in
      let second : length (steps_from label (suc (suc p + steps_in holds)) b fails) ≡ steps_in fails = listed_in label (suc (suc p + steps_in holds)) b fails in
      let all = length-append (steps_from label (suc p) b holds) (Forward (suc (suc p + steps_in holds) + steps_in fails) ∷ steps_from label (suc (suc p + steps_in holds)) b fails) in
      omega arith
  listed label p b (Switch e body) = ap suc (listed_in label (suc p) (Some (suc p + steps_in body)) body)
  listed label p b (Loop body) =
      let first : length (steps_from label (suc p) (Some (suc (suc p + steps_in body))) body) ≡ steps_in body = listed_in label (suc p) (Some (suc (suc p + steps_in body))) body in
      let all = length-append (steps_from label (suc p) (Some (suc (suc p + steps_in body))) body) (Back (suc p) ∷ []) in
      omega arith
  listed label p b (Block body) = listed_in label p b body
  listed label p b (Label n) = refl
  listed label p b (Case kind v) = refl
  listed label p b Default = refl
  listed label p b (Goto n) = refl
  listed label p b Break = refl
  listed label p b (Return e) = refl

  pub listed_in : (label : ℕ → Option ℕ) (p : ℕ) (b : Option ℕ) (xs : Stmts) → length (steps_from label p b xs) ≡ steps_in xs
  listed_in label p b Done = refl
  listed_in label p b (Seq first rest) =
      let one : length (steps_at label p b first) ≡ steps first = listed label p b first in
      let others : length (steps_from label (p + steps first) b rest) ≡ steps_in rest = listed_in label (p + steps first) b rest in
      let all = length-append (steps_at label p b first) (steps_from label (p + steps first) b rest) in
      omega arith

pub shift : (p a : ℕ) → suc p + a ≡ p + suc a
shift p a = omega arith

pub shift_twice : (p h a : ℕ) → suc (suc p + h) + a ≡ p + suc (h + suc a)
shift_twice p h a = omega arith

pub shift_behind : (p h a : ℕ) → (p + h) + a ≡ p + (h + a)
shift_behind p h a = omega arith

-- a label within has the place that a jump to it enters
mutual
  pub located : (label : ℕ → Option ℕ) (p : ℕ) (x : Stmt) (n : ℕ) → Labelled label p x → has x (ToLabel n) ≡ true → label n ≡ Some (p + place_of (ToLabel n) x)
  located label p (Do i) n l h = absurd (cc)
  located label p (If e holds fails) n l h = by (has_in holds (ToLabel n)) refl (located_in label (suc p) holds n l.0) (located_in label (suc (suc p + steps_in holds)) fails n l.1)
    where
      by : (b : Bool) → has_in holds (ToLabel n) ≡ b → (has_in holds (ToLabel n) ≡ true → label n ≡ Some (suc p + place_in (ToLabel n) holds))
          → (has_in fails (ToLabel n) ≡ true → label n ≡ Some (suc (suc p + steps_in holds) + place_in (ToLabel n) fails))
          → label n ≡ Some (p + chosen_place b (suc (place_in (ToLabel n) holds)) (suc (steps_in holds + suc (place_in (ToLabel n) fails))))
      by true is f g = f is ∙ ap Some (shift p (place_in (ToLabel n) holds))
      by false is f g = g (second_of (has_in holds (ToLabel n)) (has_in fails (ToLabel n)) h is) ∙ ap Some (shift_twice p (steps_in holds) (place_in (ToLabel n) fails))
  located label p (Switch e body) n l h = located_in label (suc p) body n l (behind_of (is_label (ToLabel n)) (has_in body (ToLabel n)) h) ∙ ap Some (shift p (place_in (ToLabel n) body))
  located label p (Loop body) n l h = located_in label (suc p) body n l h ∙ ap Some (shift p (place_in (ToLabel n) body))
  located label p (Block body) n l h = located_in label p body n l h
  located label p (Label m) n l h =
      let same : m ≡ n = eqb-true m n h in
      let none : p ≡ p + 0 = omega arith in
      ap label (sym same) ∙ (l ∙ ap Some none)
  located label p (Case kind v) n l h = absurd (cc)
  located label p Default n l h = absurd (cc)
  located label p (Goto m) n l h = absurd (cc)
  located label p Break n l h = absurd (cc)
  located label p (Return e) n l h = absurd (cc)

  pub located_in : (label : ℕ → Option ℕ) (p : ℕ) (xs : Stmts) (n : ℕ) → LabelledIn label p xs → has_in xs (ToLabel n) ≡ true → label n ≡ Some (p + place_in (ToLabel n) xs)
  located_in label p Done n l h = absurd (cc)
  located_in label p (Seq first rest) n l h = by (has first (ToLabel n)) refl (located label p first n l.0) (located_in label (p + steps first) rest n l.1)
    where
      by : (b : Bool) → has first (ToLabel n) ≡ b → (has first (ToLabel n) ≡ true → label n ≡ Some (p + place_of (ToLabel n) first))
          → (has_in rest (ToLabel n) ≡ true → label n ≡ Some ((p + steps first) + place_in (ToLabel n) rest))
          → label n ≡ Some (p + chosen_place b (place_of (ToLabel n) first) (steps first + place_in (ToLabel n) rest))
      by true is f g = f is
      by false is f g = g (second_of (has first (ToLabel n)) (has_in rest (ToLabel n)) h is) ∙ ap Some (shift_behind p (steps first) (place_in (ToLabel n) rest))

pub leads_same : (c : Course) (o : Option ℕ) (p q : ℕ) (r u : Remains) → ((s : State) → r s ≡ u s) → Leads c o p q u → Leads c o p q r
leads_same c None p q r u e l = λ s. e s ∙ l s
leads_same c (Some x) p q r u e (inl l) = inl (l.0, λ s. e s ∙ l.1 s)
leads_same c (Some x) p q r u e (inr l) = inr (l.0, λ s. e s ∙ l.1 s)

pub leads_between : (c : Course) (o : Option ℕ) (p q i j : ℕ) (r : Remains) → p ≤ i → j ≤ q → Leads c o p q r → Leads c o i j r
leads_between c None p q i j r low high l = l
leads_between c (Some x) p q i j r low high (inl l) = let far : q ≤ x = l.0 in inl (omega arith, l.1)
leads_between c (Some x) p q i j r low high (inr l) = let near : x ≤ p = l.0 in inr (omega arith, l.1)

pub leads_forward : (c : Course) (o : Option ℕ) (l p q : ℕ) (r : Remains) → o ≡ Some l → q ≤ l → ((s : State) → r s ≡ c.at l s) → Leads c o p q r
leads_forward c o l p q r is far e = subst (λ o. Leads c o p q r) (sym is) (inl (far, e))

pub leads_back : (c : Course) (o : Option ℕ) (l p q : ℕ) (r : Remains) → o ≡ Some l → l ≤ p → ((s : State) → r s ≡ after_back c o s) → Leads c o p q r
leads_back c o l p q r is near e = subst (λ o. ((s : State) → r s ≡ after_back c o s) → Leads c o p q r) (sym is) (λ e. inr (near, e)) e

-- a statement entered again at a label within it
reentered : (c : Course) → IsSteady c → (x : Stmt) (K : Rest) (p q : ℕ) → p + steps x ≡ q → Agrees c p (remains c.activation c.enter c.again x K) → ((s : State) → K Normal s ≡ c.at q s)
    → (n : ℕ) → has x (ToLabel n) ≡ true → (s : State) → bind (c.again x (Some (ToLabel n)) s) K ≡ c.at (p + place_of (ToLabel n) x) s
reentered c steady x K p q e h k n inside s =
    let count : length (remains c.activation c.enter c.again x K) ≡ steps x = counted c.activation c.enter c.again x K in
    let low : place_of (ToLabel n) x ≤ steps x = within (ToLabel n) x in
    ap (λ r. bind r K) (steady.fixed x (Some (ToLabel n)) s)
    ∙ (sym (enters c.activation c.enter c.again (ToLabel n) x K s inside)
    ∙ entering c (remains c.activation c.enter c.again x K) (K Normal) p q (place_of (ToLabel n) x) (p + place_of (ToLabel n) x) (omega arith) refl (omega arith) h k s)

-- a construct catches a jump to a label within, and spends a unit
pub caught_within : (c : Course) → IsSteady c → (x : Stmt) (K : Rest) (p q : ℕ) → p + steps x ≡ q → Labelled c.label p x → Agrees c p (remains c.activation c.enter c.again x K) → ((s : State) → K Normal s ≡ c.at q s)
    → Turns c (in_construct c.again x K) (has x)
caught_within c steady x K p q e lab h k n inside s =
    ap (λ b. bind (jumped b (ToLabel n) s (spending (c.again x))) K) inside
    ∙ (bind_spend s (c.again x (Some (ToLabel n))) K
    ∙ (spend_same s (λ t. bind (c.again x (Some (ToLabel n)) t) K) (c.at (p + place_of (ToLabel n) x)) (reentered c steady x K p q e h k n inside)
    ∙ ap (λ o. after_back c o s) (sym (located c.label p x n lab inside))))

pub passed_on : (again : Stmt → Goer) (x : Stmt) (K : Rest) (n : ℕ) → has x (ToLabel n) ≡ false → (s : State) → in_construct again x K (Jumped (ToLabel n)) s ≡ K (Jumped (ToLabel n)) s
passed_on again x K n outside s = ap (λ b. bind (jumped b (ToLabel n) s (spending (again x))) K) outside

-- behind the statements of a construct
pub block_around : (c : Course) (x : Stmt) (K : Rest) (p q : ℕ) (b : Option ℕ) → Around c K p q b (has x) → Around c (in_construct c.again x K) p q b (has x)
block_around c x K p q b a = record {
  normal = a.normal;
  broken = a.broken;
  gone = a.gone;
  out = λ n outside. leads_same c (c.label n) p q (in_construct c.again x K (Jumped (ToLabel n))) (K (Jumped (ToLabel n))) (passed_on c.again x K n outside) (a.out n outside);
}

-- behind the first of some statements
pub first_around : (c : Course) (first : Stmt) (rest : Stmts) (K : Rest) (p i q : ℕ) (b : Option ℕ) → p ≤ i → i + steps_in rest ≡ q → LabelledIn c.label i rest → Agrees c i (remains_in c.activation c.enter c.again rest K)
    → Around c K p q b (has_in (Seq first rest)) → Around c (in_order c.activation c.enter c.again rest K) p i b (has first)
first_around c first rest K p i q b low e lab h a = record {
  normal = λ s. sym (starts_in c.activation c.enter c.again rest K s) ∙ starting c (remains_in c.activation c.enter c.again rest K) (K Normal) i q (count) h a.normal s;
  broken = a.broken;
  gone = a.gone;
  out = λ n outside. by n (has_in rest (ToLabel n)) refl outside;
}
  where
    count : i + length (remains_in c.activation c.enter c.again rest K) ≡ q
    count = let all : length (remains_in c.activation c.enter c.again rest K) ≡ steps_in rest = counted_in c.activation c.enter c.again rest K in omega arith

    by : (n : ℕ) (d : Bool) → has_in rest (ToLabel n) ≡ d → has first (ToLabel n) ≡ false → Leads c (c.label n) p i (in_order c.activation c.enter c.again rest K (Jumped (ToLabel n)))
    by n true is outside =
        let short : place_in (ToLabel n) rest ≤ length (remains_in c.activation c.enter c.again rest K) =
        (let all : length (remains_in c.activation c.enter c.again rest K) ≡ steps_in rest = counted_in c.activation c.enter c.again rest K in let some : place_in (ToLabel n) rest ≤ steps_in rest = within_in (ToLabel n) rest in omega arith) in
        leads_forward c (c.label n) (i + place_in (ToLabel n) rest) p i (in_order c.activation c.enter c.again rest K (Jumped (ToLabel n))) (located_in c.label i rest n lab is) (omega arith)
        (λ s. ap (λ d. bind (jumped d (ToLabel n) s (stmts c.activation c.enter c.again rest)) K) is
        ∙ (sym (enters_in c.activation c.enter c.again (ToLabel n) rest K s is)
        ∙ entering c (remains_in c.activation c.enter c.again rest K) (K Normal) i q (place_in (ToLabel n) rest) (i + place_in (ToLabel n) rest) count refl short h a.normal s))
    by n false is outside =
        leads_same c (c.label n) p i (in_order c.activation c.enter c.again rest K (Jumped (ToLabel n))) (K (Jumped (ToLabel n))) (λ s. ap (λ d. bind (jumped d (ToLabel n) s (stmts c.activation c.enter c.again rest)) K) is)
        (leads_between c (c.label n) p q p i (K (Jumped (ToLabel n))) (omega arith) (omega arith) (a.out n (or_neither (has first (ToLabel n)) (has_in rest (ToLabel n)) outside is)))

-- behind the others
pub rest_around : (c : Course) (first : Stmt) (rest : Stmts) (K : Rest) (p q : ℕ) (b : Option ℕ) → Labelled c.label p first → Around c K p q b (has_in (Seq first rest)) → Turns c K (has_in (Seq first rest)) → Around c K (p + steps first) q b (has_in rest)
rest_around c first rest K p q b lab a t = record {
  normal = a.normal;
  broken = a.broken;
  gone = a.gone;
  out = λ n outside. by n (has first (ToLabel n)) refl outside;
}
  where
    by : (n : ℕ) (d : Bool) → has first (ToLabel n) ≡ d → has_in rest (ToLabel n) ≡ false → Leads c (c.label n) (p + steps first) q (K (Jumped (ToLabel n)))
    by n true is outside =
        let low : place_of (ToLabel n) first ≤ steps first = within (ToLabel n) first in
        leads_back c (c.label n) (p + place_of (ToLabel n) first) (p + steps first) q (K (Jumped (ToLabel n))) (located c.label p first n lab is) (omega arith) (t n (or_first (has first (ToLabel n)) (has_in rest (ToLabel n)) is))
    by n false is outside = leads_between c (c.label n) p q (p + steps first) q (K (Jumped (ToLabel n))) (omega arith) (omega arith) (a.out n (or_neither (has first (ToLabel n)) (has_in rest (ToLabel n)) is outside))
