-- Truth values as the code computes them, and the tests of lists.
use Rattle.std.proofs.Common.{◌≡◌, refl, sym, ◌∙◌, ap, ℕ, suc, ◌+◌, ◌<◌, ◌≤◌, Bool, true, false, ◌&&◌, ◌||◌, not, nat_eq, List, [], ◌∷◌, map, drop, length, get_or, arith}
use Rattle.c_tree.specs.declared.expression.Expr.{Expr}
use Rattle.c_tree.specs.declared.expression.Specifier.{Specifier}
use Rattle.c_tree.specs.declared.expression.MemberDeclaration.{MemberDeclaration}
use Rattle.c_tree.specs.declared.expression.MemberDeclarator.{MemberDeclarator}
use Rattle.c_tree.specs.declared.expression.Designator.{Designator}
use Rattle.c_tree.specs.declared.expression.Enumerator.{Enumerator}
use Rattle.c_tree.specs.declared.expression.InitItem.{InitItem}
use Rattle.c_tree.specs.declared.expression.Parameter.{Parameter}
use Rattle.c_tree.specs.declared.level.Level.TheVariants.{Assignment}
use Rattle.c_tree.specs.View.{expr_of, exprs_of, specifier_of, specifiers_of, member_of, members_of, member_declarator_of, member_declarators_of, designator_of, designators_of, enumerator_of, enumerators_of, item_of, items_of, parameter_of, parameters_of}
use Rattle.c_tree.specs.Levels.{is_within, levelled, levelled_arguments, levelled_specifier, levelled_specifiers, levelled_member, levelled_members, levelled_member_declarator, levelled_member_declarators, levelled_designator, levelled_designators, levelled_enumerator, levelled_enumerators, levelled_item, levelled_items, levelled_parameter, levelled_parameters, is_specifier_qualifier, are_specifier_qualifiers, has_specifier, has_member, has_enumerator, has_parameter, has_item, has_own_names, has_other_names, is_defined_by}
use Rattle.c_tree.specs.declared.statement.Declaration.{Declaration}
use Rattle.c_tree.specs.Syntax.{DeclaratorTree}
use Rattle.c_tree.specs.UnitView.{declaration_of}
use Rattle.c_tree.specs.Told.{told, all_of, AllSoFar}
use Rattle.c_tree.proofs.CappedLemmas.{drop_at, drop_all}

pub told_true : true ≡ told true
unfolding told
told_true = refl

pub told_false : false ≡ told false
unfolding told
told_false = refl

pub told_is : (a p : Bool) → a ≡ p → a ≡ told p
unfolding told
told_is a p e = e

pub told_says : (a p : Bool) → a ≡ told p → a ≡ p
unfolding told
told_says a p e = e

pub told_both : (a b p q both : Bool) → a ≡ told p → b ≡ told q → both ≡ (a && b) → both ≡ told (p && q)
unfolding told
told_both a b p q both e f is = rw (is, e, f) refl

and_true : (b : Bool) → (b && true) ≡ b
and_true true = refl
and_true false = refl

and_assoc : (a b c : Bool) → ((a && b) && c) ≡ (a && (b && c))
and_assoc true b c = refl
and_assoc false b c = refl

pub all_start : {A : Type 0} (f : A → Bool) (xs : List A) → AllSoFar f xs 0 true
unfolding AllSoFar
all_start f xs = (true, told_true, refl)

pub all_step : {A : Type 0} (f : A → Bool) (xs : List A) (i : ℕ) (so_far h more : Bool) (x : A) → i < length xs → x ≡ get_or xs i x → h ≡ told (f x) → more ≡ (so_far && h) → AllSoFar f xs i so_far → AllSoFar f xs (i + 1) more
unfolding AllSoFar
all_step f xs i so_far h more x lt is e m w =
    let b : Bool = w.0 in
    let split : drop i xs ≡ x ∷ drop (i + 1) xs = drop_at xs i x lt ∙ ap (λ y. y ∷ drop (i + 1) xs) (sym is) in
    (b && f x, told_both so_far h b (f x) more w.1 e m, and_assoc b (f x) (all_of f (drop (i + 1) xs)) ∙ ap (λ ys. b && all_of f ys) (sym split) ∙ w.2)

-- the same where the test's value is given plainly
pub all_step_is : {A : Type 0} (f : A → Bool) (xs : List A) (i : ℕ) (so_far h more : Bool) (x : A) → i < length xs → x ≡ get_or xs i x → h ≡ f x → more ≡ (so_far && h) → AllSoFar f xs i so_far → AllSoFar f xs (i + 1) more
all_step_is f xs i so_far h more x lt is e m w = all_step f xs i so_far h more x lt is (told_is h (f x) e) m w

pub all_end : {A : Type 0} (f : A → Bool) (xs : List A) (i : ℕ) (so_far : Bool) → length xs ≤ i → AllSoFar f xs i so_far → so_far ≡ told (all_of f xs)
unfolding AllSoFar
all_end f xs i so_far le w =
    w.1 ∙ ap told (sym (and_true w.0) ∙ ap (λ ys. w.0 && all_of f ys) (sym (drop_all xs i le)) ∙ w.2)

-- an argument, as one test
abbrev pub is_argument : Expr → Bool
is_argument e = is_within Assignment (expr_of e) && levelled (expr_of e)

pub all_arguments : (xs : List Expr) → all_of is_argument xs ≡ levelled_arguments (exprs_of xs)
all_arguments [] = refl
all_arguments (x ∷ xs) = ap (λ b. is_argument x && b) (all_arguments xs)

pub all_specifiers : (xs : List Specifier) → all_of (λ s. levelled_specifier (specifier_of s)) xs ≡ levelled_specifiers (specifiers_of xs)
all_specifiers [] = refl
all_specifiers (x ∷ xs) = ap (λ b. levelled_specifier (specifier_of x) && b) (all_specifiers xs)

pub all_qualifiers : (xs : List Specifier) → all_of (λ s. is_specifier_qualifier (specifier_of s)) xs ≡ are_specifier_qualifiers (specifiers_of xs)
all_qualifiers [] = refl
all_qualifiers (x ∷ xs) = ap (λ b. is_specifier_qualifier (specifier_of x) && b) (all_qualifiers xs)

pub all_members : (xs : List MemberDeclaration) → all_of (λ m. levelled_member (member_of m)) xs ≡ levelled_members (members_of xs)
all_members [] = refl
all_members (x ∷ xs) = ap (λ b. levelled_member (member_of x) && b) (all_members xs)

pub all_member_declarators : (xs : List MemberDeclarator) → all_of (λ d. levelled_member_declarator (member_declarator_of d)) xs ≡ levelled_member_declarators (member_declarators_of xs)
all_member_declarators [] = refl
all_member_declarators (x ∷ xs) = ap (λ b. levelled_member_declarator (member_declarator_of x) && b) (all_member_declarators xs)

pub all_designators : (xs : List Designator) → all_of (λ d. levelled_designator (designator_of d)) xs ≡ levelled_designators (designators_of xs)
all_designators [] = refl
all_designators (x ∷ xs) = ap (λ b. levelled_designator (designator_of x) && b) (all_designators xs)

pub all_enumerators : (xs : List Enumerator) → all_of (λ e. levelled_enumerator (enumerator_of e)) xs ≡ levelled_enumerators (enumerators_of xs)
all_enumerators [] = refl
all_enumerators (x ∷ xs) = ap (λ b. levelled_enumerator (enumerator_of x) && b) (all_enumerators xs)

pub all_items : (xs : List InitItem) → all_of (λ i. levelled_item (item_of i)) xs ≡ levelled_items (items_of xs)
all_items [] = refl
all_items (x ∷ xs) = ap (λ b. levelled_item (item_of x) && b) (all_items xs)

pub all_parameters : (xs : List Parameter) → all_of (λ p. levelled_parameter (parameter_of p)) xs ≡ levelled_parameters (parameters_of xs)
all_parameters [] = refl
all_parameters (x ∷ xs) = ap (λ b. levelled_parameter (parameter_of x) && b) (all_parameters xs)

-- that a list is not empty
pub some_is : (n : ℕ) → nat_eq (suc n) 0 ≡ false
some_is n = grind arith

pub some_specifiers : (xs : List Specifier) (e : Bool) → e ≡ nat_eq (length xs) 0 → not e ≡ told (has_specifier (specifiers_of xs))
some_specifiers [] e is = told_is (not e) false (ap not is)
some_specifiers (x ∷ xs) e is = told_is (not e) true (ap not (is ∙ some_is (length xs)))

pub some_members : (xs : List MemberDeclaration) (e : Bool) → e ≡ nat_eq (length xs) 0 → not e ≡ told (has_member (members_of xs))
some_members [] e is = told_is (not e) false (ap not is)
some_members (x ∷ xs) e is = told_is (not e) true (ap not (is ∙ some_is (length xs)))

pub some_enumerators : (xs : List Enumerator) (e : Bool) → e ≡ nat_eq (length xs) 0 → not e ≡ told (has_enumerator (enumerators_of xs))
some_enumerators [] e is = told_is (not e) false (ap not is)
some_enumerators (x ∷ xs) e is = told_is (not e) true (ap not (is ∙ some_is (length xs)))

pub some_parameters : (xs : List Parameter) (e : Bool) → e ≡ nat_eq (length xs) 0 → not e ≡ told (has_parameter (parameters_of xs))
some_parameters [] e is = told_is (not e) false (ap not is)
some_parameters (x ∷ xs) e is = told_is (not e) true (ap not (is ∙ some_is (length xs)))

pub some_items : (xs : List InitItem) (e : Bool) → e ≡ nat_eq (length xs) 0 → not e ≡ told (has_item (items_of xs))
some_items [] e is = told_is (not e) false (ap not is)
some_items (x ∷ xs) e is = told_is (not e) true (ap not (is ∙ some_is (length xs)))

pub defined_by : (d : DeclaratorTree) (xs : List Declaration) (other own e : Bool) → other ≡ has_other_names d → own ≡ has_own_names d → e ≡ nat_eq (length xs) 0 → (not other && (own || e)) ≡ told (is_defined_by d (map declaration_of xs))
defined_by d [] other own e is also empty = told_is (not other && (own || e)) (is_defined_by d []) (rw (is, also, empty) refl)
defined_by d (x ∷ xs) other own e is also empty = told_is (not other && (own || e)) (is_defined_by d (declaration_of x ∷ map declaration_of xs)) (rw (is, also, empty ∙ some_is (length xs)) refl)
