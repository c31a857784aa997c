-- Heights, capped.
use Rattle.std.proofs.Common.{◌≡◌, refl, sym, ◌∙◌, ap, ℕ, zero, suc, ◌+◌, ◌<◌, ◌≤◌, ◌^◌, min, max, List, [], ◌∷◌, drop, length, get_or, arith, add-one}
use Rattle.std.proofs.Math.Seq.{drop-cons}
use Rattle.c_tree.specs.declared.expression.Expr.{Expr}
use Rattle.c_tree.specs.declared.expression.Specifier.{Specifier}
use Rattle.c_tree.specs.declared.expression.MemberDeclaration.{MemberDeclaration}
use Rattle.c_tree.specs.declared.expression.MemberDeclarator.{MemberDeclarator}
use Rattle.c_tree.specs.declared.expression.Designator.{Designator}
use Rattle.c_tree.specs.declared.expression.Enumerator.{Enumerator}
use Rattle.c_tree.specs.declared.expression.InitItem.{InitItem}
use Rattle.c_tree.specs.declared.expression.Parameter.{Parameter}
use Rattle.c_tree.specs.View.{expr_of, exprs_of, specifier_of, specifiers_of, member_of, members_of, member_declarator_of, member_declarators_of, designator_of, designators_of, enumerator_of, enumerators_of, item_of, items_of, parameter_of, parameters_of}
use Rattle.c_tree.specs.Height.{expr_height, exprs_height, specifier_height, specifiers_height, member_height, members_height, member_declarator_height, member_declarators_height, designator_height, designators_height, enumerator_height, enumerators_height, item_height, items_height, parameter_height, parameters_height}
use Rattle.c_tree.specs.Capped.{capped, most_of, Highest}

pub capped_zero : 0 ≡ capped 0
unfolding capped
capped_zero = refl

pub capped_one : 1 ≡ capped 1
unfolding capped
capped_one = refl

pub capped_two : 2 ≡ capped 2
unfolding capped
capped_two = refl

pub capped_above : (h n above : ℕ) → h ≡ capped n → above ≡ min (h + 1) 4294967295 → above ≡ capped (1 + n)
unfolding capped
capped_above h n above e a = omega (arith, e, a)

pub capped_max : (a b m n : ℕ) → a ≡ capped m → b ≡ capped n → max a b ≡ capped (max m n)
unfolding capped
capped_max a b m n e f = omega (arith, e, f)

pub capped_is : (n h : ℕ) → h ≡ capped n → n < 2 ^ 32 → h ≡ n
unfolding capped
capped_is n h e small = omega (arith, e)

max_zero : (n : ℕ) → max n 0 ≡ n
max_zero n = omega arith

max_assoc : (a b c : ℕ) → max (max a b) c ≡ max a (max b c)
max_assoc a b c = omega arith

pub highest_start : {A : Type 0} (f : A → ℕ) (xs : List A) → Highest f xs 0 0
unfolding Highest
highest_start f xs = (0, capped_zero, omega arith)

pub drop_at : {A : Type 0} (xs : List A) (i : ℕ) (d : A) → i < length xs → drop i xs ≡ get_or xs i d ∷ drop (i + 1) xs
drop_at xs i d lt = rw add-one (drop-cons xs i d lt)

pub highest_step : {A : Type 0} (f : A → ℕ) (xs : List A) (i most h more : ℕ) (x : A) → i < length xs → x ≡ get_or xs i x → h ≡ capped (f x) → more ≡ max most h → Highest f xs i most → Highest f xs (i + 1) more
unfolding Highest
highest_step f xs i most h more x lt is e m w =
    let n : ℕ = w.0 in
    let split : drop i xs ≡ x ∷ drop (i + 1) xs = drop_at xs i x lt ∙ ap (λ y. y ∷ drop (i + 1) xs) (sym is) in
    (max n (f x), m ∙ capped_max most h n (f x) w.1 e, max_assoc n (f x) (most_of f (drop (i + 1) xs)) ∙ ap (λ ys. max n (most_of f ys)) (sym split) ∙ w.2)

pub drop_all : {A : Type 0} (xs : List A) (i : ℕ) → length xs ≤ i → drop i xs ≡ []
drop_all [] zero le = refl
drop_all [] (suc i) le = refl
drop_all (x ∷ xs) zero le = absurd (omega arith)
drop_all (x ∷ xs) (suc i) le = drop_all xs i (omega arith)

pub highest_end : {A : Type 0} (f : A → ℕ) (xs : List A) (i most : ℕ) → length xs ≤ i → Highest f xs i most → most ≡ capped (most_of f xs)
unfolding Highest
highest_end f xs i most le w =
    w.1 ∙ ap capped (sym (max_zero w.0) ∙ ap (λ ys. max w.0 (most_of f ys)) (sym (drop_all xs i le)) ∙ w.2)

pub most_exprs : (xs : List Expr) → most_of (λ e. expr_height (expr_of e)) xs ≡ exprs_height (exprs_of xs)
most_exprs [] = refl
most_exprs (x ∷ xs) = ap (max (expr_height (expr_of x))) (most_exprs xs)

pub most_specifiers : (xs : List Specifier) → most_of (λ s. specifier_height (specifier_of s)) xs ≡ specifiers_height (specifiers_of xs)
most_specifiers [] = refl
most_specifiers (x ∷ xs) = ap (max (specifier_height (specifier_of x))) (most_specifiers xs)

pub most_members : (xs : List MemberDeclaration) → most_of (λ m. member_height (member_of m)) xs ≡ members_height (members_of xs)
most_members [] = refl
most_members (x ∷ xs) = ap (max (member_height (member_of x))) (most_members xs)

pub most_member_declarators : (xs : List MemberDeclarator) → most_of (λ d. member_declarator_height (member_declarator_of d)) xs ≡ member_declarators_height (member_declarators_of xs)
most_member_declarators [] = refl
most_member_declarators (x ∷ xs) = ap (max (member_declarator_height (member_declarator_of x))) (most_member_declarators xs)

pub most_designators : (xs : List Designator) → most_of (λ d. designator_height (designator_of d)) xs ≡ designators_height (designators_of xs)
most_designators [] = refl
most_designators (x ∷ xs) = ap (max (designator_height (designator_of x))) (most_designators xs)

pub most_enumerators : (xs : List Enumerator) → most_of (λ e. enumerator_height (enumerator_of e)) xs ≡ enumerators_height (enumerators_of xs)
most_enumerators [] = refl
most_enumerators (x ∷ xs) = ap (max (enumerator_height (enumerator_of x))) (most_enumerators xs)

pub most_items : (xs : List InitItem) → most_of (λ i. item_height (item_of i)) xs ≡ items_height (items_of xs)
most_items [] = refl
most_items (x ∷ xs) = ap (max (item_height (item_of x))) (most_items xs)

pub most_parameters : (xs : List Parameter) → most_of (λ p. parameter_height (parameter_of p)) xs ≡ parameters_height (parameters_of xs)
most_parameters [] = refl
most_parameters (x ∷ xs) = ap (max (parameter_height (parameter_of x))) (most_parameters xs)

-- an element is the same whatever stands for one out of range
pub same_default : {A : Type 0} (xs : List A) (i : ℕ) (d e : A) → i < length xs → get_or xs i d ≡ get_or xs i e
same_default [] i d e lt = absurd (omega arith)
same_default (x ∷ xs) zero d e lt = refl
same_default (x ∷ xs) (suc i) d e lt = same_default xs i d e (omega arith)
