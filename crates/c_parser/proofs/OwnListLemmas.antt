-- Lists that are gone through while scopes change.
use Rattle.std.proofs.Common.{◌≡◌, refl, sym, ◌∙◌, ap, ℕ, zero, suc, ◌+◌, ◌<◌, ◌≤◌, false, List, [], ◌∷◌, drop, length, get_or, arith, add-one}
use Rattle.std.proofs.Math.Seq.{drop-cons}
use Rattle.cil_base.specs.declared.numbers.NameId.{NameId}
use Rattle.typedef_scopes.specs.Scopes.{Scope, declared}
use Rattle.c_tree.specs.declared.expression.Expr.{Expr}
use Rattle.c_tree.specs.declared.expression.Specifier.{Specifier}
use Rattle.c_tree.specs.declared.expression.MemberDeclaration.{MemberDeclaration}
use Rattle.c_tree.specs.declared.expression.MemberDeclarator.{MemberDeclarator}
use Rattle.c_tree.specs.declared.expression.Designator.{Designator}
use Rattle.c_tree.specs.declared.expression.Enumerator.{Enumerator}
use Rattle.c_tree.specs.declared.expression.InitItem.{InitItem}
use Rattle.c_tree.specs.declared.expression.Parameter.{Parameter}
use Rattle.c_tree.specs.View.{expr_of, exprs_of, specifier_of, specifiers_of, member_of, members_of, member_declarator_of, member_declarators_of, designator_of, designators_of, enumerator_of, enumerators_of, item_of, items_of, parameter_of, parameters_of}
use Rattle.c_tree.specs.Scoped.{declared_all, after_expr, after_exprs, after_specifier, after_specifiers, after_member, after_members, after_member_declarator, after_member_declarators, after_designator, after_designators, after_enumerator, after_enumerators, after_item, after_items, after_parameter, after_parameters}
use Rattle.c_parser.specs.OwnList.{folded, Reaches}

drop_at : {A : Type 0} (xs : List A) (i : ℕ) (d : A) → i < length xs → drop i xs ≡ get_or xs i d ∷ drop (i + 1) xs
drop_at xs i d lt = rw add-one (drop-cons xs i d lt)

drop_all : {A : Type 0} (xs : List A) (i : ℕ) → length xs ≤ i → drop i xs ≡ []
drop_all [] zero le = refl
drop_all [] (suc i) le = refl
drop_all (x ∷ xs) zero le = absurd (omega arith)
drop_all (x ∷ xs) (suc i) le = drop_all xs i (omega arith)

pub reaches_start : {A : Type 0} (f : List Scope → A → List Scope) (start : List Scope) (xs : List A) → Reaches f start xs 0 start
unfolding Reaches
reaches_start f start xs = refl

pub reaches_step : {A : Type 0} (f : List Scope → A → List Scope) (start now next : List Scope) (xs : List A) (i : ℕ) (x : A) → i < length xs → x ≡ get_or xs i x → next ≡ f now x → Reaches f start xs i now → Reaches f start xs (i + 1) next
unfolding Reaches
reaches_step f start now next xs i x lt is e r =
    let split : drop i xs ≡ x ∷ drop (i + 1) xs = drop_at xs i x lt ∙ ap (λ y. y ∷ drop (i + 1) xs) (sym is) in
    ap (λ s. folded f s (drop (i + 1) xs)) e ∙ (ap (folded f now) (sym split) ∙ r)

pub reaches_end : {A : Type 0} (f : List Scope → A → List Scope) (start now : List Scope) (xs : List A) (i : ℕ) → length xs ≤ i → Reaches f start xs i now → now ≡ folded f start xs
unfolding Reaches
reaches_end f start now xs i le r = ap (folded f now) (sym (drop_all xs i le)) ∙ r

pub fold_exprs : (ds : List Scope) (xs : List Expr) → folded (λ s x. after_expr s (expr_of x)) ds xs ≡ after_exprs ds (exprs_of xs)
fold_exprs ds [] = refl
fold_exprs ds (x ∷ xs) = fold_exprs (after_expr ds (expr_of x)) xs

pub fold_specifiers : (ds : List Scope) (xs : List Specifier) → folded (λ s x. after_specifier s (specifier_of x)) ds xs ≡ after_specifiers ds (specifiers_of xs)
fold_specifiers ds [] = refl
fold_specifiers ds (x ∷ xs) = fold_specifiers (after_specifier ds (specifier_of x)) xs

pub fold_members : (ds : List Scope) (xs : List MemberDeclaration) → folded (λ s x. after_member s (member_of x)) ds xs ≡ after_members ds (members_of xs)
fold_members ds [] = refl
fold_members ds (x ∷ xs) = fold_members (after_member ds (member_of x)) xs

pub fold_member_declarators : (ds : List Scope) (xs : List MemberDeclarator) → folded (λ s x. after_member_declarator s (member_declarator_of x)) ds xs ≡ after_member_declarators ds (member_declarators_of xs)
fold_member_declarators ds [] = refl
fold_member_declarators ds (x ∷ xs) = fold_member_declarators (after_member_declarator ds (member_declarator_of x)) xs

pub fold_enumerators : (ds : List Scope) (xs : List Enumerator) → folded (λ s x. after_enumerator s (enumerator_of x)) ds xs ≡ after_enumerators ds (enumerators_of xs)
fold_enumerators ds [] = refl
fold_enumerators ds (x ∷ xs) = fold_enumerators (after_enumerator ds (enumerator_of x)) xs

pub fold_items : (ds : List Scope) (xs : List InitItem) → folded (λ s x. after_item s (item_of x)) ds xs ≡ after_items ds (items_of xs)
fold_items ds [] = refl
fold_items ds (x ∷ xs) = fold_items (after_item ds (item_of x)) xs

pub fold_designators : (ds : List Scope) (xs : List Designator) → folded (λ s x. after_designator s (designator_of x)) ds xs ≡ after_designators ds (designators_of xs)
fold_designators ds [] = refl
fold_designators ds (x ∷ xs) = fold_designators (after_designator ds (designator_of x)) xs

pub fold_parameters : (ds : List Scope) (xs : List Parameter) → folded (λ s x. after_parameter s (parameter_of x)) ds xs ≡ after_parameters ds (parameters_of xs)
fold_parameters ds [] = refl
fold_parameters ds (x ∷ xs) = fold_parameters (after_parameter ds (parameter_of x)) xs

pub fold_names : (ds : List Scope) (xs : List NameId) → folded (λ s n. declared n false s) ds xs ≡ declared_all ds xs
fold_names ds [] = refl
fold_names ds (n ∷ ns) = fold_names (declared n false ds) ns
