-- Device: a statement's first step is its start, and entered at a target it goes on at the target's step.
use Rattle.std.proofs.Common.{◌≡◌, ℕ, zero, suc, ◌+◌, ◌≤◌, Bool, true, false, List, [], ◌∷◌, ◌++◌, length, drop, Some, None, refl, sym, ap, ◌∙◌, arith}
use Rattle.std.specs.Prelude.{◌&&◌, ◌||◌}
use Rattle.std.proofs.lemmas.List.{length-append}
use Rattle.execution.specs.States.{State, Result, Goes, Exits, Running, Undefined, bind}
use Rattle.execution.specs.Jumps.{Target, Normal, Goer, caught, after, jumping, spending, turned, turn, broken_off, chosen, seq_at}
use Rattle.execution.specs.Calls.{Enter}
use Rattle.cil_tree.specs.Tree.{Stmt, Do, If, Switch, Loop, Block, Label, Case, Default, Goto, Break, Return, Stmts, Done, Seq}
use Rattle.cil_semantics.specs.Values.{Activation}
use Rattle.cil_semantics.specs.Statements.{has, has_in, is_label, stmt, stmts}
use Rattle.cil_control.specs.Remains.{Rest, Remains, first_of, in_order, in_construct, in_first, in_switch, in_turn, remains, remains_in, steps, steps_in, place_of, place_in, chosen_place}

-- one part behind another, and these behind a third
pub bind_bind : {A B C : Type 0} (r : Result A) (f : A → State → Result B) (g : B → State → Result C) → bind (bind r f) g ≡ bind r (λ a s. bind (f a s) g)
bind_bind (Goes a s) f g = refl
bind_bind (Exits status s) f g = refl
bind_bind (Running s) f g = refl
bind_bind (Undefined s) f g = refl

pub bind_twice : {A B C D : Type 0} (r : Result A) (f : A → State → Result B) (g : B → State → Result C) (k : C → State → Result D) → bind r (λ a s. bind (bind (f a s) g) k) ≡ bind (bind (bind r f) g) k
bind_twice (Goes a s) f g k = refl
bind_twice (Exits status s) f g k = refl
bind_twice (Running s) f g k = refl
bind_twice (Undefined s) f g k = refl

first_join : (xs ys : List Remains) (k : Remains) → first_of (xs ++ ys) k ≡ first_of xs (first_of ys k)
first_join [] ys k = refl
first_join (x ∷ xs) ys k = refl

mutual
  -- a statement from its start
  pub starts : (a : Activation) (enter : Enter) (again : Stmt → Goer) (x : Stmt) (K : Rest) (s : State) → first_of (remains a enter again x K) (K Normal) s ≡ bind (stmt a enter again x None s) K
  starts a enter again (Do i) K s = refl
  starts a enter again (If e holds fails) K s = refl
  starts a enter again (Switch e body) K s = refl
  starts a enter again (Loop body) K s = refl
  starts a enter again (Block body) K s = starts_in a enter again body (in_construct again (Block body) K) s ∙ sym (bind_bind (stmts a enter again body None s) (after (has (Block body)) (spending (again (Block body)))) K)
  starts a enter again (Label n) K s = refl
  starts a enter again (Case kind v) K s = refl
  starts a enter again Default K s = refl
  starts a enter again (Goto n) K s = refl
  starts a enter again Break K s = refl
  starts a enter again (Return e) K s = refl

  pub starts_in : (a : Activation) (enter : Enter) (again : Stmt → Goer) (xs : Stmts) (K : Rest) (s : State) → first_of (remains_in a enter again xs K) (K Normal) s ≡ bind (stmts a enter again xs None s) K
  starts_in a enter again Done K s = refl
  starts_in a enter again (Seq first rest) K s =
      ap (λ (k : Remains). k s) (first_join (remains a enter again first (in_order a enter again rest K)) (remains_in a enter again rest K) (K Normal))
      ∙ (either (remains a enter again first (in_order a enter again rest K)) (starts_in a enter again rest K s)
      ∙ (starts a enter again first (in_order a enter again rest K) s ∙ sym (bind_bind (stmt a enter again first None s) (after (has_in rest) (stmts a enter again rest)) K)))
    where
      either : (xs : List Remains) → first_of (remains_in a enter again rest K) (K Normal) s ≡ bind (stmts a enter again rest None s) K → first_of xs (first_of (remains_in a enter again rest K) (K Normal)) s ≡ first_of xs (in_order a enter again rest K Normal) s
      either [] e = e
      either (x ∷ xs) e = refl

front : (xs ys : List Remains) (p : ℕ) (k : Remains) → p ≤ length xs → first_of (drop p (xs ++ ys)) k ≡ first_of (drop p xs) (first_of ys k)
front xs ys zero k h = first_join xs ys k
front [] ys (suc p) k h = absurd (omega arith)
front (x ∷ xs) ys (suc p) k h = front xs ys p k (omega arith)

hind : (xs ys : List Remains) (n p : ℕ) → length xs ≡ n → drop (n + p) (xs ++ ys) ≡ drop p ys
hind [] ys n p h = ap (λ i. drop i ys) (let e : n + p ≡ p = omega arith in e)
hind (x ∷ xs) ys n p h = let e : n + p ≡ suc (length xs + p) = omega arith in ap (λ i. drop i (x ∷ (xs ++ ys))) e ∙ hind xs ys (length xs) p refl

same_first : (xs : List Remains) (j k : Remains) (s : State) → j s ≡ k s → first_of xs j s ≡ first_of xs k s
same_first [] j k s e = e
same_first (x ∷ xs) j k s e = refl

-- as many steps as are counted
mutual
  pub counted : (a : Activation) (enter : Enter) (again : Stmt → Goer) (x : Stmt) (K : Rest) → length (remains a enter again x K) ≡ steps x
  counted a enter again (Do i) K = refl
  counted a enter again (If e holds fails) K =
      let first : length (remains_in a enter again holds (in_first a enter again (If e holds fails) fails K)) ≡ steps_in holds = counted_in a enter again holds (in_first a enter again (If e holds fails) fails K) in
      let second : length (remains_in a enter again fails (in_construct again (If e holds fails) K)) ≡ steps_in fails = counted_in a enter again fails (in_construct again (If e holds fails) K) in
      let all = length-append (remains_in a enter again holds (in_first a enter again (If e holds fails) fails K)) (K Normal ∷ remains_in a enter again fails (in_construct again (If e holds fails) K)) in
      omega arith
  counted a enter again (Switch e body) K = ap suc (counted_in a enter again body (in_switch again (Switch e body) K))
  counted a enter again (Loop body) K =
      let first : length (remains_in a enter again body (in_turn again (Loop body) (turn (again (Loop body) None) (stmts a enter again body)) K)) ≡ steps_in body =
      counted_in a enter again body (in_turn again (Loop body) (turn (again (Loop body) None) (stmts a enter again body)) K) in
      let all = length-append (remains_in a enter again body (in_turn again (Loop body) (turn (again (Loop body) None) (stmts a enter again body)) K)) (in_turn again (Loop body) (turn (again (Loop body) None) (stmts a enter again body)) K Normal ∷ []) in
      omega arith
  counted a enter again (Block body) K = counted_in a enter again body (in_construct again (Block body) K)
  counted a enter again (Label n) K = refl
  counted a enter again (Case kind v) K = refl
  counted a enter again Default K = refl
  counted a enter again (Goto n) K = refl
  counted a enter again Break K = refl
  counted a enter again (Return e) K = refl

  pub counted_in : (a : Activation) (enter : Enter) (again : Stmt → Goer) (xs : Stmts) (K : Rest) → length (remains_in a enter again xs K) ≡ steps_in xs
  counted_in a enter again Done K = refl
  counted_in a enter again (Seq first rest) K =
      let one : length (remains a enter again first (in_order a enter again rest K)) ≡ steps first = counted a enter again first (in_order a enter again rest K) in
      let others : length (remains_in a enter again rest K) ≡ steps_in rest = counted_in a enter again rest K in
      let all = length-append (remains a enter again first (in_order a enter again rest K)) (remains_in a enter again rest K) in
      omega arith

-- a target's step is one of the statement's, or the one behind it
mutual
  pub within : (t : Target) (x : Stmt) → place_of t x ≤ steps x
  within t (Do i) = omega arith
  within t (If e holds fails) = by (has_in holds t) (within_in t holds) (within_in t fails)
    where
      by : (b : Bool) → place_in t holds ≤ steps_in holds → place_in t fails ≤ steps_in fails → chosen_place b (suc (place_in t holds)) (suc (steps_in holds + suc (place_in t fails))) ≤ suc (steps_in holds + suc (steps_in fails))
      by true h k = omega arith
      by false h k = omega arith
  within t (Switch e body) = let h : place_in t body ≤ steps_in body = within_in t body in omega arith
  within t (Loop body) = let h : place_in t body ≤ steps_in body = within_in t body in omega arith
  within t (Block body) = within_in t body
  within t (Label n) = omega arith
  within t (Case kind v) = omega arith
  within t Default = omega arith
  within t (Goto n) = omega arith
  within t Break = omega arith
  within t (Return e) = omega arith

  pub within_in : (t : Target) (xs : Stmts) → place_in t xs ≤ steps_in xs
  within_in t Done = omega arith
  within_in t (Seq first rest) = by (has first t) (within t first) (within_in t rest)
    where
      by : (b : Bool) → place_of t first ≤ steps first → place_in t rest ≤ steps_in rest → chosen_place b (place_of t first) (steps first + place_in t rest) ≤ steps first + steps_in rest
      by true h k = omega arith
      by false h k = omega arith

pub second_of : (a b : Bool) → (a || b) ≡ true → a ≡ false → b ≡ true
second_of true b e d = absurd (cc)
second_of false b e d = e

pub behind_of : (a b : Bool) → (a && b) ≡ true → b ≡ true
behind_of true b e = e
behind_of false b e = absurd (cc)

mutual
  -- a statement entered at a target
  pub enters : (a : Activation) (enter : Enter) (again : Stmt → Goer) (t : Target) (x : Stmt) (K : Rest) (s : State) → has x t ≡ true → first_of (drop (place_of t x) (remains a enter again x K)) (K Normal) s ≡ bind (stmt a enter again x (Some t) s) K
  enters a enter again t (Do i) K s h = absurd (cc)
  enters a enter again t (If e holds fails) K s h =
      by (has_in holds t) refl (enters_in a enter again t holds (in_first a enter again (If e holds fails) fails K) s) (enters_in a enter again t fails (in_construct again (If e holds fails) K) s)
    where
      by : (b : Bool) → has_in holds t ≡ b
          → (has_in holds t ≡ true → first_of (drop (place_in t holds) (remains_in a enter again holds (in_first a enter again (If e holds fails) fails K))) (in_first a enter again (If e holds fails) fails K Normal) s
          ≡ bind (stmts a enter again holds (Some t) s) (in_first a enter again (If e holds fails) fails K))
          → (has_in fails t ≡ true → first_of (drop (place_in t fails) (remains_in a enter again fails (in_construct again (If e holds fails) K))) (in_construct again (If e holds fails) K Normal) s
          ≡ bind (stmts a enter again fails (Some t) s) (in_construct again (If e holds fails) K))
          → first_of (drop (chosen_place b (suc (place_in t holds)) (suc (steps_in holds + suc (place_in t fails)))) (remains a enter again (If e holds fails) K)) (K Normal) s
          ≡ bind (caught (has (If e holds fails)) (chosen b (has_in fails) (stmts a enter again holds) (stmts a enter again fails) (Some t) s) (again (If e holds fails))) K
      by true is one other =
          let short : place_in t holds ≤ length (remains_in a enter again holds (in_first a enter again (If e holds fails) fails K)) =
          (let low : place_in t holds ≤ steps_in holds = within_in t holds in let all = counted_in a enter again holds (in_first a enter again (If e holds fails) fails K) in omega arith) in
          ap (λ (k : Remains). k s) (front (remains_in a enter again holds (in_first a enter again (If e holds fails) fails K)) (K Normal ∷ remains_in a enter again fails (in_construct again (If e holds fails) K)) (place_in t holds) (K Normal) short)
          ∙ (one is ∙ bind_twice (stmts a enter again holds (Some t) s) (after (has_in fails) (jumping (stmts a enter again fails))) (after (has (If e holds fails)) (spending (again (If e holds fails)))) K)
      by false is one other =
          ap (λ (ks : List Remains). first_of ks (K Normal) s) (hind (remains_in a enter again holds (in_first a enter again (If e holds fails) fails K)) (K Normal ∷ remains_in a enter again fails (in_construct again (If e holds fails) K)) (steps_in holds) (suc (place_in t fails)) (counted_in a enter again holds (in_first a enter again (If e holds fails) fails K)))
          ∙ (other (second_of (has_in holds t) (has_in fails t) h is) ∙ sym (bind_bind (stmts a enter again fails (Some t) s) (after (has (If e holds fails)) (spending (again (If e holds fails)))) K))
  enters a enter again t (Switch e body) K s h =
      enters_in a enter again t body (in_switch again (Switch e body) K) s (behind_of (is_label t) (has_in body t) h)
      ∙ bind_twice (stmts a enter again body (Some t) s) broken_off (after (has (Switch e body)) (spending (again (Switch e body)))) K
  enters a enter again t (Loop body) K s h =
      let short : place_in t body ≤ length (remains_in a enter again body (in_turn again (Loop body) (turn (again (Loop body) None) (stmts a enter again body)) K)) =
      (let low : place_in t body ≤ steps_in body = within_in t body in let all = counted_in a enter again body (in_turn again (Loop body) (turn (again (Loop body) None) (stmts a enter again body)) K) in omega arith) in
      ap (λ (k : Remains). k s) (front (remains_in a enter again body (in_turn again (Loop body) (turn (again (Loop body) None) (stmts a enter again body)) K)) (in_turn again (Loop body) (turn (again (Loop body) None) (stmts a enter again body)) K Normal ∷ []) (place_in t body) (K Normal) short)
      ∙ (enters_in a enter again t body (in_turn again (Loop body) (turn (again (Loop body) None) (stmts a enter again body)) K) s h
      ∙ bind_twice (stmts a enter again body (Some t) s) (turned (turn (again (Loop body) None) (stmts a enter again body))) (after (has (Loop body)) (spending (again (Loop body)))) K)
  enters a enter again t (Block body) K s h =
      enters_in a enter again t body (in_construct again (Block body) K) s h ∙ sym (bind_bind (stmts a enter again body (Some t) s) (after (has (Block body)) (spending (again (Block body)))) K)
  enters a enter again t (Label n) K s h = refl
  enters a enter again t (Case kind v) K s h = refl
  enters a enter again t Default K s h = refl
  enters a enter again t (Goto n) K s h = absurd (cc)
  enters a enter again t Break K s h = absurd (cc)
  enters a enter again t (Return e) K s h = absurd (cc)

  pub enters_in : (a : Activation) (enter : Enter) (again : Stmt → Goer) (t : Target) (xs : Stmts) (K : Rest) (s : State) → has_in xs t ≡ true → first_of (drop (place_in t xs) (remains_in a enter again xs K)) (K Normal) s ≡ bind (stmts a enter again xs (Some t) s) K
  enters_in a enter again t Done K s h = absurd (cc)
  enters_in a enter again t (Seq first rest) K s h = by (has first t) refl (enters a enter again t first (in_order a enter again rest K) s) (enters_in a enter again t rest K s)
    where
      by : (b : Bool) → has first t ≡ b
          → (has first t ≡ true → first_of (drop (place_of t first) (remains a enter again first (in_order a enter again rest K))) (in_order a enter again rest K Normal) s ≡ bind (stmt a enter again first (Some t) s) (in_order a enter again rest K))
          → (has_in rest t ≡ true → first_of (drop (place_in t rest) (remains_in a enter again rest K)) (K Normal) s ≡ bind (stmts a enter again rest (Some t) s) K)
          → first_of (drop (chosen_place b (place_of t first) (steps first + place_in t rest)) (remains a enter again first (in_order a enter again rest K) ++ remains_in a enter again rest K)) (K Normal) s
          ≡ bind (seq_at b (has_in rest) (stmt a enter again first) (stmts a enter again rest) t s) K
      by true is one other =
          let short : place_of t first ≤ length (remains a enter again first (in_order a enter again rest K)) =
          (let low : place_of t first ≤ steps first = within t first in let all = counted a enter again first (in_order a enter again rest K) in omega arith) in
          ap (λ (k : Remains). k s) (front (remains a enter again first (in_order a enter again rest K)) (remains_in a enter again rest K) (place_of t first) (K Normal) short)
          ∙ (same_first (drop (place_of t first) (remains a enter again first (in_order a enter again rest K))) (first_of (remains_in a enter again rest K) (K Normal)) (in_order a enter again rest K Normal) s (starts_in a enter again rest K s)
          ∙ (one is ∙ sym (bind_bind (stmt a enter again first (Some t) s) (after (has_in rest) (stmts a enter again rest)) K)))
      by false is one other =
          ap (λ (ks : List Remains). first_of ks (K Normal) s) (hind (remains a enter again first (in_order a enter again rest K)) (remains_in a enter again rest K) (steps first) (place_in t rest) (counted a enter again first (in_order a enter again rest K)))
          ∙ other (second_of (has first t) (has_in rest t) h is)
