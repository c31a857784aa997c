-- Device: the table of a switch leads to the entry that a value has.
use Rattle.std.proofs.Common.{◌≡◌, ℕ, suc, ◌+◌, Bool, true, false, List, [], ◌∷◌, ◌++◌, Option, Some, None, refl, sym, ap, ◌∙◌, arith, ℤ}
use Rattle.std.specs.Prelude.{◌||◌, if◌then◌else◌}
use Rattle.std.specs.Ordering.{int_eq}
use Rattle.execution.specs.Jumps.{ToCase, ToDefault, case_for}
use Rattle.cil_tree.specs.Tree.{Stmt, Do, If, Switch, Loop, Block, Label, Case, Default, Goto, Break, Return, Stmts, Done, Seq}
use Rattle.cil_semantics.specs.Statements.{has, has_in}
use Rattle.cil_control.specs.Remains.{steps, steps_in, place_of, place_in, chosen_place}
use Rattle.cil_control.specs.Flat.{cases_at, cases_from, or_else, default_at, default_from, place_or, place_by, place_for}
use Rattle.cil_control.proofs.Courses.{shift, shift_twice, shift_behind}
use Rattle.cil_control.proofs.StepLaws.{entry_place, IsWithin}

-- a place that there is where something is so
abbrev when : Bool → ℕ → Option ℕ
when true p = Some p
when false p = None

abbrev found : ℤ → List (ℤ × ℕ) → Option ℕ
found v [] = None
found v (x ∷ table) = or_else (when (int_eq x.0 v) x.1) (found v table)

or_else_each : (a b c : Option ℕ) → or_else (or_else a b) c ≡ or_else a (or_else b c)
or_else_each None b c = refl
or_else_each (Some p) b c = refl

found_join : (v : ℤ) (xs ys : List (ℤ × ℕ)) → found v (xs ++ ys) ≡ or_else (found v xs) (found v ys)
found_join v [] ys = refl
found_join v (x ∷ xs) ys = ap (or_else (when (int_eq x.0 v) x.1)) (found_join v xs ys) ∙ sym (or_else_each (when (int_eq x.0 v) x.1) (found v xs) (found v ys))

-- two parts, of which the first one counts
chosen_when : (a b : Bool) (p x y r s : ℕ) → x ≡ p + r → y ≡ p + s → or_else (when a x) (when b y) ≡ when (a || b) (p + chosen_place a r s)
chosen_when true b p x y r s e f = ap Some e
chosen_when false true p x y r s e f = ap Some f
chosen_when false false p x y r s e f = refl

both_parts : (o u : Option ℕ) (a b : Bool) (p x y r s : ℕ) → o ≡ when a x → u ≡ when b y → x ≡ p + r → y ≡ p + s → or_else o u ≡ when (a || b) (p + chosen_place a r s)
both_parts o u a b p x y r s h k e f = ap (λ o. or_else o u) h ∙ (ap (or_else (when a x)) k ∙ chosen_when a b p x y r s e f)

here : (a : Bool) (p : ℕ) → or_else (when a p) None ≡ when a (p + 0)
here true p = let same : p ≡ p + 0 = omega arith in ap Some same
here false p = refl

mutual
  case_found : (v : ℤ) (p : ℕ) (x : Stmt) → found v (cases_at p x) ≡ when (has x (ToCase v)) (p + place_of (ToCase v) x)
  case_found v p (Do i) = refl
  case_found v p (If e holds fails) =
      found_join v (cases_from (suc p) holds) (cases_from (suc (suc p + steps_in holds)) fails)
      ∙ both_parts (found v (cases_from (suc p) holds)) (found v (cases_from (suc (suc p + steps_in holds)) fails)) (has_in holds (ToCase v)) (has_in fails (ToCase v)) p
      (suc p + place_in (ToCase v) holds) (suc (suc p + steps_in holds) + place_in (ToCase v) fails) (suc (place_in (ToCase v) holds)) (suc (steps_in holds + suc (place_in (ToCase v) fails)))
      (cases_found v (suc p) holds) (cases_found v (suc (suc p + steps_in holds)) fails) (shift p (place_in (ToCase v) holds)) (shift_twice p (steps_in holds) (place_in (ToCase v) fails))
  case_found v p (Switch e body) = refl
  case_found v p (Loop body) = cases_found v (suc p) body ∙ ap (when (has_in body (ToCase v))) (shift p (place_in (ToCase v) body))
  case_found v p (Block body) = cases_found v p body
  case_found v p (Label n) = refl
  case_found v p (Case kind w) = here (int_eq w v) p
  case_found v p Default = refl
  case_found v p (Goto n) = refl
  case_found v p Break = refl
  case_found v p (Return e) = refl

  cases_found : (v : ℤ) (p : ℕ) (xs : Stmts) → found v (cases_from p xs) ≡ when (has_in xs (ToCase v)) (p + place_in (ToCase v) xs)
  cases_found v p Done = refl
  cases_found v p (Seq first rest) =
      found_join v (cases_at p first) (cases_from (p + steps first) rest)
      ∙ both_parts (found v (cases_at p first)) (found v (cases_from (p + steps first) rest)) (has first (ToCase v)) (has_in rest (ToCase v)) p
      (p + place_of (ToCase v) first) ((p + steps first) + place_in (ToCase v) rest) (place_of (ToCase v) first) (steps first + place_in (ToCase v) rest)
      (case_found v p first) (cases_found v (p + steps first) rest) refl (shift_behind p (steps first) (place_in (ToCase v) rest))

mutual
  default_found : (p : ℕ) (x : Stmt) → default_at p x ≡ when (has x ToDefault) (p + place_of ToDefault x)
  default_found p (Do i) = refl
  default_found p (If e holds fails) =
      both_parts (default_from (suc p) holds) (default_from (suc (suc p + steps_in holds)) fails) (has_in holds ToDefault) (has_in fails ToDefault) p
      (suc p + place_in ToDefault holds) (suc (suc p + steps_in holds) + place_in ToDefault fails) (suc (place_in ToDefault holds)) (suc (steps_in holds + suc (place_in ToDefault fails)))
      (defaults_found (suc p) holds) (defaults_found (suc (suc p + steps_in holds)) fails) (shift p (place_in ToDefault holds)) (shift_twice p (steps_in holds) (place_in ToDefault fails))
  default_found p (Switch e body) = refl
  default_found p (Loop body) = defaults_found (suc p) body ∙ ap (when (has_in body ToDefault)) (shift p (place_in ToDefault body))
  default_found p (Block body) = defaults_found p body
  default_found p (Label n) = refl
  default_found p (Case kind w) = refl
  default_found p Default = let same : p ≡ p + 0 = omega arith in ap Some same
  default_found p (Goto n) = refl
  default_found p Break = refl
  default_found p (Return e) = refl

  defaults_found : (p : ℕ) (xs : Stmts) → default_from p xs ≡ when (has_in xs ToDefault) (p + place_in ToDefault xs)
  defaults_found p Done = refl
  defaults_found p (Seq first rest) =
      both_parts (default_at p first) (default_from (p + steps first) rest) (has first ToDefault) (has_in rest ToDefault) p
      (p + place_of ToDefault first) ((p + steps first) + place_in ToDefault rest) (place_of ToDefault first) (steps first + place_in ToDefault rest)
      (default_found p first) (defaults_found (p + steps first) rest) refl (shift_behind p (steps first) (place_in ToDefault rest))

first_found : (b : Bool) (p q other : ℕ) (o : Option ℕ) → q ≡ place_or other o → place_by b p q ≡ place_or other (or_else (when b p) o)
first_found true p q other o e = refl
first_found false p q other o e = e

looked_up : (v : ℤ) (table : List (ℤ × ℕ)) (other : ℕ) → place_for v table other ≡ place_or other (found v table)
looked_up v [] other = refl
looked_up v (x ∷ table) other = first_found (int_eq x.0 v) x.1 (place_for v table other) other (found v table) (looked_up v table other)

pub entry_within : (body : Stmts) (v : ℤ) → IsWithin body (case_for (has_in body) v)
entry_within body v = by (has_in body (ToCase v)) (has_in body ToDefault) refl refl
  where
    by : (a b : Bool) → has_in body (ToCase v) ≡ a → has_in body ToDefault ≡ b → IsWithin body (if a then Some (ToCase v) else (if b then Some ToDefault else None))
    by true b e f = e
    by false true e f = f
    by false false e f = tt

pub entry_found : (p q : ℕ) (body : Stmts) (v : ℤ) → entry_place p q body (case_for (has_in body) v) ≡ place_for v (cases_from p body) (place_or q (default_from p body))
entry_found p q body v =
    by (has_in body (ToCase v)) (has_in body ToDefault)
    ∙ (ap (λ o. place_or (place_or q o) (when (has_in body (ToCase v)) (p + place_in (ToCase v) body))) (sym (defaults_found p body))
    ∙ (ap (place_or (place_or q (default_from p body))) (sym (cases_found v p body)) ∙ sym (looked_up v (cases_from p body) (place_or q (default_from p body)))))
  where
    by : (a b : Bool) → entry_place p q body (if a then Some (ToCase v) else (if b then Some ToDefault else None)) ≡ place_or (place_or q (when b (p + place_in ToDefault body))) (when a (p + place_in (ToCase v) body))
    by true b = refl
    by false true = refl
    by false false = refl
