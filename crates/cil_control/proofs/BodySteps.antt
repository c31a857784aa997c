-- Device: the steps of a body are taken, statement by statement.
use Rattle.std.proofs.Common.{◌≡◌, ℕ, zero, suc, ◌+◌, ◌≤◌, ◌<◌, Bool, true, false, List, [], ◌∷◌, ◌++◌, length, drop, slice_get, Option, Some, None, refl, sym, ap, ◌∙◌, subst, arith}
use Rattle.std.specs.Prelude.{◌||◌}
use Rattle.execution.specs.States.{State, bind, spend}
use Rattle.execution.specs.Data.{Datum}
use Rattle.execution.specs.Jumps.{Target, ToLabel, Entry, Normal, Broken, Jumped, Returned, Has, after, caught, jumped, jumping, spending, turn}
use Rattle.execution.specs.Calls.{Enter, returned, returns}
use Rattle.cil_tree.specs.Tree.{Stmt, Do, If, Switch, Loop, Block, Label, Case, Default, Goto, Break, Return, Stmts, Done, Seq}
use Rattle.cil_semantics.specs.Values.{Activation}
use Rattle.cil_semantics.specs.Statements.{has, has_in, stmt, stmts, statement}
use Rattle.cil_semantics.specs.Laws.{calls_in}
use Rattle.cil_semantics.proofs.Quiet.{statement_quiet}
use Rattle.cil_semantics.proofs.Tameness.{statement_is}
use Rattle.cil_semantics.proofs.ProgramLaws.{calls_steady}
use Rattle.cil_control.specs.Remains.{Rest, Remains, first_of, in_order, in_construct, in_first, in_switch, in_turn, remains, remains_in, steps, steps_in, place_in}
use Rattle.cil_control.specs.Flat.{Step, Choose, Forward, Back, Leave, cases_from, default_from, place_or, taken, steps_at, steps_from, body_steps}
use Rattle.cil_control.specs.Courses.{Course, IsSteady, Agrees, Takes, Labelled, LabelledIn, AreLabels, after_back, Leads, Around, Turns, body_at, IsTaken, BodiesAreTaken}
use Rattle.cil_control.proofs.Entries.{bind_bind, starts_in, enters_in, counted, counted_in, within_in}
use Rattle.cil_control.proofs.Courses.{or_first, or_second, or_neither, entering, agrees_front, agrees_hind, takes_join, listed, listed_in, located_in, leads_same, leads_between, leads_forward, leads_back, caught_within, passed_on, block_around, first_around, rest_around}
use Rattle.cil_control.proofs.StepLaws.{act_taken, jump_taken, break_taken, leave_taken, test_taken, choose_taken, turn_taken}
use Rattle.cil_control.proofs.Switches.{entry_within, entry_found}

-- behind the first side of an if, between i and m; the second side begins at l
first_side : (c : Course) (x : Stmt) (fails : Stmts) (within : Has) (K : Rest) (p i m l q : ℕ) (b : Option ℕ)
    → ((n : ℕ) → has x (ToLabel n) ≡ (within (ToLabel n) || has_in fails (ToLabel n)))
    → p ≤ i → m ≤ l → l + steps_in fails ≡ q → ((s : State) → c.at m s ≡ K Normal s) → LabelledIn c.label l fails → Agrees c l (remains_in c.activation c.enter c.again fails (in_construct c.again x K))
    → Around c K p q b (has x) → Around c (in_first c.activation c.enter c.again x fails K) i m b within
first_side c x fails within K p i m l q b parts low high count k lab h a = record {
  normal = λ s. sym (k s);
  broken = a.broken;
  gone = a.gone;
  out = λ n outside. by n (has_in fails (ToLabel n)) refl outside;
}
  where
    by : (n : ℕ) (d : Bool) → has_in fails (ToLabel n) ≡ d → within (ToLabel n) ≡ false → Leads c (c.label n) i m (in_first c.activation c.enter c.again x fails K (Jumped (ToLabel n)))
    by n true is outside =
        let all : length (remains_in c.activation c.enter c.again fails (in_construct c.again x K)) ≡ steps_in fails = counted_in c.activation c.enter c.again fails (in_construct c.again x K) in
        let some : place_in (ToLabel n) fails ≤ steps_in fails = within_in (ToLabel n) fails in
        leads_forward c (c.label n) (l + place_in (ToLabel n) fails) i m (in_first c.activation c.enter c.again x fails K (Jumped (ToLabel n))) (located_in c.label l fails n lab is) (omega arith)
        (λ s. ap (λ d. bind (caught (has x) (jumped d (ToLabel n) s (jumping (stmts c.activation c.enter c.again fails))) (c.again x)) K) is
        ∙ (bind_bind (stmts c.activation c.enter c.again fails (Some (ToLabel n)) s) (after (has x) (spending (c.again x))) K
        ∙ (sym (enters_in c.activation c.enter c.again (ToLabel n) fails (in_construct c.again x K) s is)
        ∙ entering c (remains_in c.activation c.enter c.again fails (in_construct c.again x K)) (K Normal) l q (place_in (ToLabel n) fails) (l + place_in (ToLabel n) fails) (omega arith) refl (omega arith) h a.normal s)))
    by n false is outside =
        let neither : has x (ToLabel n) ≡ false = parts n ∙ or_neither (within (ToLabel n)) (has_in fails (ToLabel n)) outside is in
        leads_same c (c.label n) i m (in_first c.activation c.enter c.again x fails K (Jumped (ToLabel n))) (K (Jumped (ToLabel n)))
        (λ s. ap (λ d. bind (caught (has x) (jumped d (ToLabel n) s (jumping (stmts c.activation c.enter c.again fails))) (c.again x)) K) is ∙ passed_on c.again x K n neither s)
        (leads_between c (c.label n) p q i m (K (Jumped (ToLabel n))) (omega arith) (omega arith) (a.out n neither))

-- two labels' places are not one
apart : (o : Option ℕ) (p q : ℕ) → o ≡ Some p → o ≡ Some q → p < q → ⊥
apart o p q e f h = let same : p ≡ q = ap (λ o. place_or 0 o) (sym e ∙ f) in omega arith

first_turns : (c : Course) (x : Stmt) (holds fails : Stmts) (K : Rest) (i l : ℕ)
    → ((n : ℕ) → has x (ToLabel n) ≡ (has_in holds (ToLabel n) || has_in fails (ToLabel n)))
    → i + steps_in holds < l → LabelledIn c.label i holds → LabelledIn c.label l fails → Turns c (in_construct c.again x K) (has x)
    → Turns c (in_first c.activation c.enter c.again x fails K) (has_in holds)
first_turns c x holds fails K i l parts far lab other t n inside s = by (has_in fails (ToLabel n)) refl
  where
    by : (d : Bool) → has_in fails (ToLabel n) ≡ d → in_first c.activation c.enter c.again x fails K (Jumped (ToLabel n)) s ≡ after_back c (c.label n) s
    by true is =
        let low : place_in (ToLabel n) holds ≤ steps_in holds = within_in (ToLabel n) holds in
        absurd (apart (c.label n) (i + place_in (ToLabel n) holds) (l + place_in (ToLabel n) fails) (located_in c.label i holds n lab inside) (located_in c.label l fails n other is) (omega arith))
    by false is =
        ap (λ d. bind (caught (has x) (jumped d (ToLabel n) s (jumping (stmts c.activation c.enter c.again fails))) (c.again x)) K) is
        ∙ t n (parts n ∙ or_first (has_in holds (ToLabel n)) (has_in fails (ToLabel n)) inside) s

-- behind the second side
second_side : (c : Course) (x : Stmt) (holds fails : Stmts) (K : Rest) (p i l q : ℕ) (b : Option ℕ)
    → ((n : ℕ) → has x (ToLabel n) ≡ (has_in holds (ToLabel n) || has_in fails (ToLabel n)))
    → p ≤ l → i + steps_in holds ≤ l → LabelledIn c.label i holds → Turns c (in_construct c.again x K) (has x) → Around c K p q b (has x)
    → Around c (in_construct c.again x K) l q b (has_in fails)
second_side c x holds fails K p i l q b parts low high lab t a = record {
  normal = a.normal;
  broken = a.broken;
  gone = a.gone;
  out = λ n outside. by n (has_in holds (ToLabel n)) refl outside;
}
  where
    by : (n : ℕ) (d : Bool) → has_in holds (ToLabel n) ≡ d → has_in fails (ToLabel n) ≡ false → Leads c (c.label n) l q (in_construct c.again x K (Jumped (ToLabel n)))
    by n true is outside =
        let some : place_in (ToLabel n) holds ≤ steps_in holds = within_in (ToLabel n) holds in
        leads_back c (c.label n) (i + place_in (ToLabel n) holds) l q (in_construct c.again x K (Jumped (ToLabel n))) (located_in c.label i holds n lab is) (omega arith)
        (t n (parts n ∙ or_first (has_in holds (ToLabel n)) (has_in fails (ToLabel n)) is))
    by n false is outside =
        let neither : has x (ToLabel n) ≡ false = parts n ∙ or_neither (has_in holds (ToLabel n)) (has_in fails (ToLabel n)) is outside in
        leads_same c (c.label n) l q (in_construct c.again x K (Jumped (ToLabel n))) (K (Jumped (ToLabel n))) (passed_on c.again x K n neither)
        (leads_between c (c.label n) p q l q (K (Jumped (ToLabel n))) low (omega arith) (a.out n neither))

-- behind the body of a switch or loop, between i and m, which ends at q
body_around : (c : Course) (x : Stmt) (within : Has) (K inner : Rest) (p i m q : ℕ) (b : Option ℕ) → ((n : ℕ) → has x (ToLabel n) ≡ within (ToLabel n))
    → p ≤ i → m ≤ q → ((s : State) → inner Normal s ≡ c.at m s) → ((s : State) → inner Broken s ≡ K Normal s)
    → ((v : Option Datum) (s : State) → inner (Returned v) s ≡ K (Returned v) s) → ((t : Target) (s : State) → inner (Jumped t) s ≡ in_construct c.again x K (Jumped t) s)
    → Around c K p q b (has x) → Around c inner i m (Some q) within
body_around c x within K inner p i m q b parts low high normal broken gone jumps a = record {
  normal = normal;
  broken = λ s. broken s ∙ a.normal s;
  gone = λ v s. gone v s ∙ a.gone v s;
  out = λ n outside. let none : has x (ToLabel n) ≡ false = parts n ∙ outside in
      leads_same c (c.label n) i m (inner (Jumped (ToLabel n))) (K (Jumped (ToLabel n))) (λ s. jumps (ToLabel n) s ∙ passed_on c.again x K n none s) (leads_between c (c.label n) p q i m (K (Jumped (ToLabel n))) low high (a.out n none));
}

body_turns : (c : Course) (x : Stmt) (within : Has) (K inner : Rest) → ((n : ℕ) → has x (ToLabel n) ≡ within (ToLabel n)) → ((t : Target) (s : State) → inner (Jumped t) s ≡ in_construct c.again x K (Jumped t) s)
    → Turns c (in_construct c.again x K) (has x) → Turns c inner within
body_turns c x within K inner parts jumps t n inside s = jumps (ToLabel n) s ∙ t n (parts n ∙ inside) s

mutual
  pub takes : (c : Course) → IsSteady c → (x : Stmt) (K : Rest) (p q : ℕ) (b : Option ℕ) → p + steps x ≡ q → Labelled c.label p x → Around c K p q b (has x) → Agrees c p (remains c.activation c.enter c.again x K) → Takes c p (steps_at c.label p b x)
  takes c steady (Do i) K p q b e lab a h = let same : q ≡ suc p = omega arith in (act_taken c i K p h.0 (λ s. a.normal s ∙ ap (λ i. c.at i s) same), tt)
  takes c steady (If e holds fails) K p q b count lab a h =
      let m : ℕ = suc p + steps_in holds in
      let inner : Rest = in_first c.activation c.enter c.again (If e holds fails) fails K in
      let outer : Rest = in_construct c.again (If e holds fails) K in
      let one : Agrees c (suc p) (remains_in c.activation c.enter c.again holds inner) = agrees_front c (remains_in c.activation c.enter c.again holds inner) (K Normal ∷ remains_in c.activation c.enter c.again fails outer) (suc p) h.1 in
      let all : length (remains_in c.activation c.enter c.again holds inner) ≡ steps_in holds = counted_in c.activation c.enter c.again holds inner in
      let others : Agrees c (suc p + steps_in holds) (K Normal ∷ remains_in c.activation c.enter c.again fails outer) =
      agrees_hind c (remains_in c.activation c.enter c.again holds inner) (K Normal ∷ remains_in c.activation c.enter c.again fails outer) (suc p) (suc p + steps_in holds) (ap (λ i. suc p + i) all) h.1 in
      let ends : suc (suc p + steps_in holds) + steps_in fails ≡ q = omega arith in
      let turns : Turns c outer (has (If e holds fails)) = caught_within c steady (If e holds fails) K p q count lab h a.normal in (
        test_taken c e holds fails K p (suc p + steps_in holds) (suc (suc p + steps_in holds)) q h.0 one refl (λ s. sym (others.0 s)) others.1 ends a.normal,
        takes_join c (steps_from c.label (suc p) b holds) (Forward (suc (suc p + steps_in holds) + steps_in fails) ∷ steps_from c.label (suc (suc p + steps_in holds)) b fails) (suc p) (suc p + steps_in holds)
            (ap (λ i. suc p + i) (listed_in c.label (suc p) b holds))
            (takes_in c steady holds inner (suc p) (suc p + steps_in holds) b refl lab.0
            (first_side c (If e holds fails) fails (has_in holds) K p (suc p) (suc p + steps_in holds) (suc (suc p + steps_in holds)) q b (λ n. refl) (omega arith) (omega arith) ends others.0 lab.1 others.1 a)
            (first_turns c (If e holds fails) holds fails K (suc p) (suc (suc p + steps_in holds)) (λ n. refl) (omega arith) lab.0 lab.1 turns) one) (
              λ s. others.0 s ∙ (a.normal s ∙ ap (λ i. c.at i s) (sym ends)),
              takes_in c steady fails outer (suc (suc p + steps_in holds)) q b ends lab.1
                  (second_side c (If e holds fails) holds fails K p (suc p) (suc (suc p + steps_in holds)) q b (λ n. refl) (omega arith) (omega arith) lab.0 turns a)
                  (λ n inside. turns n (or_second (has_in holds (ToLabel n)) (has_in fails (ToLabel n)) inside)) others.1,
            ),
      )
  takes c steady (Switch e body) K p q b count lab a h =
      let ends : suc p + steps_in body ≡ q = omega arith in
      let turns : Turns c (in_construct c.again (Switch e body) K) (has (Switch e body)) = caught_within c steady (Switch e body) K p q count lab h a.normal in
      subst (λ i. Takes c p (Choose e (cases_from (suc p) body) (place_or i (default_from (suc p) body)) ∷ steps_from c.label (suc p) (Some i) body)) (sym ends) (
        choose_taken c e body K p q (cases_from (suc p) body) (place_or q (default_from (suc p) body)) h.0 h.1 ends a.normal (entry_within body) (entry_found (suc p) q body),
        takes_in c steady body (in_switch c.again (Switch e body) K) (suc p) q (Some q) ends lab
            (body_around c (Switch e body) (has_in body) K (in_switch c.again (Switch e body) K) p (suc p) q q b (λ n. refl) (omega arith) (omega arith) a.normal (λ s. refl) (λ v s. refl) (λ t s. refl) a)
            (body_turns c (Switch e body) (has_in body) K (in_switch c.again (Switch e body) K) (λ n. refl) (λ t s. refl) turns) h.1,
      )
  takes c steady (Loop body) K p q b count lab a h =
      let inner : Rest = in_turn c.again (Loop body) (turn (c.again (Loop body) None) (stmts c.activation c.enter c.again body)) K in
      let one : Agrees c (suc p) (remains_in c.activation c.enter c.again body inner) = agrees_front c (remains_in c.activation c.enter c.again body inner) (inner Normal ∷ []) (suc p) h.1 in
      let all : length (remains_in c.activation c.enter c.again body inner) ≡ steps_in body = counted_in c.activation c.enter c.again body inner in
      let others : Agrees c (suc p + steps_in body) (inner Normal ∷ []) = agrees_hind c (remains_in c.activation c.enter c.again body inner) (inner Normal ∷ []) (suc p) (suc p + steps_in body) (ap (λ i. suc p + i) all) h.1 in
      let ends : suc (suc p + steps_in body) ≡ q = omega arith in
      let turns : Turns c (in_construct c.again (Loop body) K) (has (Loop body)) = caught_within c steady (Loop body) K p q count lab h a.normal in
      let again : (s : State) → bind (caught (has (Loop body)) (turn (c.again (Loop body) None) (stmts c.activation c.enter c.again body) s) (c.again (Loop body))) K ≡ spend s (c.at (suc p)) =
      turn_taken c steady body K p (suc p + steps_in body) one refl (λ s. sym (others.0 s)) in
      subst (λ i. Takes c p (Back (suc p) ∷ (steps_from c.label (suc p) (Some i) body ++ Back (suc p) ∷ []))) (sym ends) (
        λ s. h.0 s ∙ again s,
        takes_join c (steps_from c.label (suc p) (Some q) body) (Back (suc p) ∷ []) (suc p) (suc p + steps_in body) (ap (λ i. suc p + i) (listed_in c.label (suc p) (Some q) body))
            (takes_in c steady body inner (suc p) (suc p + steps_in body) (Some q) refl lab
            (body_around c (Loop body) (has_in body) K inner p (suc p) (suc p + steps_in body) q b (λ n. refl) (omega arith) (omega arith) (λ s. sym (others.0 s)) (λ s. refl) (λ v s. refl) (λ t s. refl) a)
            (body_turns c (Loop body) (has_in body) K inner (λ n. refl) (λ t s. refl) turns) one)
            (λ s. others.0 s ∙ again s, tt),
      )
  takes c steady (Block body) K p q b count lab a h =
      takes_in c steady body (in_construct c.again (Block body) K) p q b count lab (block_around c (Block body) K p q b a) (caught_within c steady (Block body) K p q count lab h a.normal) h
  takes c steady (Label n) K p q b count lab a h = tt
  takes c steady (Case kind v) K p q b count lab a h = tt
  takes c steady Default K p q b count lab a h = tt
  takes c steady (Goto n) K p q b count lab a h =
      let same : q ≡ suc p = omega arith in
      (λ s. h.0 s ∙ jump_taken c (c.label n) p (K (Jumped (ToLabel n))) (subst (λ i. Leads c (c.label n) p i (K (Jumped (ToLabel n)))) same (a.out n refl)) s, tt)
  takes c steady Break K p q b count lab a h = (λ s. h.0 s ∙ (a.broken s ∙ break_taken c b p s), tt)
  takes c steady (Return e) K p q b count lab a h = (leave_taken c e K p h.0 a.gone, tt)

  pub takes_in : (c : Course) → IsSteady c → (xs : Stmts) (K : Rest) (p q : ℕ) (b : Option ℕ) → p + steps_in xs ≡ q → LabelledIn c.label p xs → Around c K p q b (has_in xs) → Turns c K (has_in xs) → Agrees c p (remains_in c.activation c.enter c.again xs K)
      → Takes c p (steps_from c.label p b xs)
  takes_in c steady Done K p q b count lab a t h = tt
  takes_in c steady (Seq first rest) K p q b count lab a t h =
      let inner : Rest = in_order c.activation c.enter c.again rest K in
      let all : length (remains c.activation c.enter c.again first inner) ≡ steps first = counted c.activation c.enter c.again first inner in
      let one : Agrees c p (remains c.activation c.enter c.again first inner) = agrees_front c (remains c.activation c.enter c.again first inner) (remains_in c.activation c.enter c.again rest K) p h in
      let others : Agrees c (p + steps first) (remains_in c.activation c.enter c.again rest K) = agrees_hind c (remains c.activation c.enter c.again first inner) (remains_in c.activation c.enter c.again rest K) p (p + steps first) (ap (λ i. p + i) all) h in
      let ends : (p + steps first) + steps_in rest ≡ q = omega arith in
      takes_join c (steps_at c.label p b first) (steps_from c.label (p + steps first) b rest) p (p + steps first) (ap (λ i. p + i) (listed c.label p b first))
      (takes c steady first inner p (p + steps first) b refl lab.0 (first_around c first rest K p (p + steps first) q b (omega arith) ends lab.1 others a) one)
      (takes_in c steady rest K (p + steps first) q b ends lab.1 (rest_around c first rest K p q b lab.0 a t) (λ n inside. t n (or_second (has first (ToLabel n)) (has_in rest (ToLabel n)) inside)) others)

drop_next : (p : ℕ) (all : List Remains) (r : Remains) (rs : List Remains) → drop p all ≡ r ∷ rs → drop (suc p) all ≡ rs
drop_next zero [] r rs e = absurd (cc)
drop_next (suc p) [] r rs e = absurd (cc)
drop_next zero (x ∷ all) r rs e = ap (λ xs. drop 1 xs) e
drop_next (suc p) (x ∷ all) r rs e = drop_next p all r rs e

drop_all : (xs : List Remains) → drop (length xs) xs ≡ []
drop_all [] = refl
drop_all (x ∷ xs) = drop_all xs

-- what remains at the places of a list is what stands there
listed_agrees : (c : Course) (all : List Remains) (k : Remains) → ((p : ℕ) (s : State) → c.at p s ≡ first_of (drop p all) k s) → (p : ℕ) (rs : List Remains) → drop p all ≡ rs → Agrees c p rs
listed_agrees c all k e p [] is = tt
listed_agrees c all k e p (r ∷ rs) is = (λ s. e p s ∙ ap (λ xs. first_of xs k s) is, listed_agrees c all k e (suc p) rs (drop_next p all r rs is))

taken_at : (c : Course) (xs : List Step) (p i j : ℕ) (x : Step) → p + i ≡ j → slice_get xs i ≡ Some x → Takes c p xs → (s : State) → c.at j s ≡ taken c.activation c.enter c.end c.at j x s
taken_at c [] p zero j x e is h = absurd (cc)
taken_at c [] p (suc i) j x e is h = absurd (cc)
taken_at c (y ∷ xs) p zero j x e is h =
    let same : p ≡ j = omega arith in
    subst (λ k. (s : State) → c.at k s ≡ taken c.activation c.enter c.end c.at k x s) same (λ s. h.0 s ∙ ap (λ o. elim o [ None ↦ c.at p s | Some z ↦ taken c.activation c.enter c.end c.at p z s ]) is)
taken_at c (y ∷ xs) p (suc i) j x e is h = taken_at c xs (suc p) i j x (omega arith) is h.1

-- the steps of a body, where its places hold what remains in the tree
body_takes : (c : Course) → IsSteady c → (body : Stmts) → AreLabels c.label body
    → ((p : ℕ) (s : State) → c.at p s ≡ first_of (drop p (remains_in c.activation c.enter c.again body (in_construct c.again (Block body) (returned c.end)))) (returned c.end Normal) s) → Takes c 0 (body_steps c.label body)
body_takes c steady body lab e =
    takes_join c (steps_from c.label 0 None body) (Leave None ∷ []) 0 (steps_in body) (let all : length (steps_from c.label 0 None body) ≡ steps_in body = listed_in c.label 0 None body in omega arith)
    (takes_in c steady body (in_construct c.again (Block body) (returned c.end)) 0 (steps_in body) None ends lab.there (block_around c (Block body) (returned c.end) 0 (steps_in body) None around)
    (caught_within c steady (Block body) (returned c.end) 0 (steps_in body) ends lab.there agrees last) agrees)
    (λ s. sym (last s), tt)
  where
    ends : 0 + steps_in body ≡ steps_in body
    ends = omega arith

    agrees : Agrees c 0 (remains_in c.activation c.enter c.again body (in_construct c.again (Block body) (returned c.end)))
    agrees = listed_agrees c (remains_in c.activation c.enter c.again body (in_construct c.again (Block body) (returned c.end))) (returned c.end Normal) e 0 (remains_in c.activation c.enter c.again body (in_construct c.again (Block body) (returned c.end))) refl

    last : (s : State) → returned c.end Normal s ≡ c.at (steps_in body) s
    last s =
        sym (e (steps_in body) s
        ∙ ap (λ xs. first_of xs (returned c.end Normal) s)
        (ap (λ i. drop i (remains_in c.activation c.enter c.again body (in_construct c.again (Block body) (returned c.end)))) (sym (counted_in c.activation c.enter c.again body (in_construct c.again (Block body) (returned c.end))))
        ∙ drop_all (remains_in c.activation c.enter c.again body (in_construct c.again (Block body) (returned c.end)))))

    around : Around c (returned c.end) 0 (steps_in body) None (has (Block body))
    around = record {
      normal = last;
      broken = λ s. refl;
      gone = λ v s. refl;
      out = λ n outside. subst (λ o. Leads c o 0 (steps_in body) (returned c.end (Jumped (ToLabel n)))) (sym (lab.others n outside)) (λ s. refl);
    }

pub body_is_taken : (a : Activation) (enter : Enter) (end : Datum) (label : ℕ → Option ℕ) (body : Stmts)
    → ((x : Stmt) (en : Entry) (s : State) → statement a enter x en s ≡ stmt a enter (statement a enter) x en s) → AreLabels label body → IsTaken a enter end label body
body_is_taken a enter end label body fixed lab = record {
  begins = λ s.
      starts_in a enter (statement a enter) body (in_construct (statement a enter) (Block body) (returned end)) s
      ∙ (sym (bind_bind (stmts a enter (statement a enter) body None s) (after (has (Block body)) (spending (statement a enter (Block body)))) (returned end)) ∙ ap (λ r. returns end r) (sym (fixed (Block body) None s)));
  goes = λ p x is s. taken_at
      (record { activation = a; enter = enter; again = statement a enter; end = end; label = label; at = body_at a enter (statement a enter) end body })
      (body_steps label body) 0 p p x (omega arith) is
      (body_takes (record { activation = a; enter = enter; again = statement a enter; end = end; label = label; at = body_at a enter (statement a enter) end body }) (record { fixed = fixed; quiet = statement_quiet a enter }) body lab (λ p s. refl)) s;
}

pub bodies_are_taken : BodiesAreTaken
bodies_are_taken programs a end label body lab = body_is_taken a (calls_in programs) end label body (λ x en s. statement_is a (calls_in programs) (calls_steady false programs) x en s) lab
