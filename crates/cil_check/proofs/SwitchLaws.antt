-- Device: the marks of a switch are its case values and its default labels.
use Rattle.std.proofs.Common.{◌≡◌, ℕ, suc, ◌+◌, Bool, true, false, ◌&&◌, not, nat_lt, Option, Some, None, List, [], ◌∷◌, ◌++◌, ℤ, refl, sym, ap, ◌∙◌, arith}
use Rattle.std.proofs.lemmas.Bool.Decides.{Decides-int_eq}
use Rattle.std.specs.List.{list_any}
use Rattle.std.specs.Ordering.{int_eq}
use Rattle.cil_tree.specs.Tree.{Stmt, Do, If, Switch, Loop, Block, Label, Case, Default, Goto, Break, Return, Stmts, Done, Seq}
use Rattle.cil_tree.specs.Bodies.{cases_of, cases_in, defaults_of, defaults_in, are_distinct}
use Rattle.cil_check.specs.Sets.{distinct, fresh}
use Rattle.cil_check.specs.Statements.{marks_of, marks_in, once, switch_is_once}
use Rattle.cil_check.proofs.SetLaws.{fresh_is}

-- the values among marks, and the number of the others
values : List (Option ℤ) → List ℤ
values [] = []
values (Some v ∷ ms) = v ∷ values ms
values (None ∷ ms) = values ms

others : List (Option ℤ) → ℕ
others [] = 0
others (Some v ∷ ms) = others ms
others (None ∷ ms) = suc (others ms)

values_append : (xs ys : List (Option ℤ)) → values (xs ++ ys) ≡ values xs ++ values ys
unfolding values
values_append [] ys = refl
values_append (Some v ∷ xs) ys = ap (λ z. v ∷ z) (values_append xs ys)
values_append (None ∷ xs) ys = values_append xs ys

others_append : (xs ys : List (Option ℤ)) → others (xs ++ ys) ≡ others xs + others ys
unfolding others
others_append [] ys = omega arith
others_append (Some v ∷ xs) ys = others_append xs ys
others_append (None ∷ xs) ys = let e : others (xs ++ ys) ≡ others xs + others ys = others_append xs ys in omega (arith, e)

mutual
  unfolding values

  cases_are : (ss : Stmts) → cases_of ss ≡ values (marks_of ss)
  cases_are Done = refl
  cases_are (Seq first rest) = ap (λ z. z ++ cases_of rest) (cases_within first) ∙ ap (λ z. values (marks_in first) ++ z) (cases_are rest) ∙ sym (values_append (marks_in first) (marks_of rest))

  cases_within : (s : Stmt) → cases_in s ≡ values (marks_in s)
  cases_within (If test holds fails) = ap (λ z. z ++ cases_of fails) (cases_are holds) ∙ ap (λ z. values (marks_of holds) ++ z) (cases_are fails) ∙ sym (values_append (marks_of holds) (marks_of fails))
  cases_within (Loop body) = cases_are body
  cases_within (Block body) = cases_are body
  cases_within (Case kind value) = refl
  cases_within Default = refl
  cases_within (Do instr) = refl
  cases_within (Switch value body) = refl
  cases_within (Label number) = refl
  cases_within (Goto number) = refl
  cases_within Break = refl
  cases_within (Return value) = refl

mutual
  unfolding others

  defaults_are : (ss : Stmts) → defaults_of ss ≡ others (marks_of ss)
  defaults_are Done = refl
  defaults_are (Seq first rest) = ap (λ z. z + defaults_of rest) (defaults_within first) ∙ ap (λ z. others (marks_in first) + z) (defaults_are rest) ∙ sym (others_append (marks_in first) (marks_of rest))

  defaults_within : (s : Stmt) → defaults_in s ≡ others (marks_in s)
  defaults_within (If test holds fails) = ap (λ z. z + defaults_of fails) (defaults_are holds) ∙ ap (λ z. others (marks_of holds) + z) (defaults_are fails) ∙ sym (others_append (marks_of holds) (marks_of fails))
  defaults_within (Loop body) = defaults_are body
  defaults_within (Block body) = defaults_are body
  defaults_within (Case kind value) = refl
  defaults_within Default = refl
  defaults_within (Do instr) = refl
  defaults_within (Switch value body) = refl
  defaults_within (Label number) = refl
  defaults_within (Goto number) = refl
  defaults_within Break = refl
  defaults_within (Return value) = refl

-- so many default labels, where one was seen or not
few : Bool → ℕ → Bool
few true n = nat_lt n 1
few false n = nat_lt n 2

joined : (p q r : Bool) → p && (q && r) ≡ (p && q) && r
joined true q r = refl
joined false q r = refl

few_none : (default : Bool) → true ≡ few default 0
unfolding few
few_none true = refl
few_none false = refl

few_more : (default f : Bool) (n : ℕ) → not default && (f && few true n) ≡ f && few default (suc n)
unfolding few
few_more true true n = grind arith
few_more true false n = refl
few_more false true n = grind arith
few_more false false n = refl

once_splits : (seen : List ℤ) (default : Bool) (ms : List (Option ℤ)) → once seen default ms ≡ fresh int_eq seen (values ms) && few default (others ms)
unfolding values others
once_splits seen default [] = few_none default
once_splits seen default (Some v ∷ ms) = ap (λ b. not (list_any (int_eq v) seen) && b) (once_splits (seen ++ v ∷ []) default ms) ∙ joined (not (list_any (int_eq v) seen)) (fresh int_eq (seen ++ v ∷ []) (values ms)) (few default (others ms))
once_splits seen default (None ∷ ms) = ap (λ b. not default && b) (once_splits seen true ms) ∙ few_more default (fresh int_eq seen (values ms)) (others ms)

distinct_is : (vs : List ℤ) → distinct int_eq vs ≡ are_distinct vs
distinct_is [] = refl
distinct_is (v ∷ vs) = ap (λ b. not (list_any (int_eq v) vs) && b) (distinct_is vs)

alike_both : (x y : ℤ) → int_eq x y ≡ int_eq y x
alike_both x y = by (int_eq x y) (int_eq y x) refl refl
  where
    by : (p q : Bool) → int_eq x y ≡ p → int_eq y x ≡ q → p ≡ q
    by true true a b = refl
    by false false a b = refl
    by true false a b = sym ((Decides-int_eq y x).1 (sym ((Decides-int_eq x y).0 a))) ∙ b
    by false true a b = sym a ∙ (Decides-int_eq x y).1 (sym ((Decides-int_eq y x).0 b))

-- the marks are once where the cases are, and the default labels
pub once_is : (body : Stmts) → once [] false (marks_of body) ≡ switch_is_once body
unfolding few
once_is body =
    once_splits [] false (marks_of body)
    ∙ ap (λ b. b && nat_lt (others (marks_of body)) 2) (fresh_is int_eq alike_both (values (marks_of body)) ∙ distinct_is (values (marks_of body)) ∙ ap are_distinct (sym (cases_are body)))
    ∙ ap (λ n. are_distinct (cases_of body) && nat_lt n 2) (sym (defaults_are body))
