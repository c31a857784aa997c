-- The height of a list with one more at its end.
use Rattle.std.proofs.Common.{◌≡◌, ◌∙◌, ap, ℕ, max, List, [], ◌∷◌, ◌++◌, arith}
use Rattle.c_tree.specs.declared.expression.Expr.{Expr}
use Rattle.c_tree.specs.declared.expression.Specifier.{Specifier}
use Rattle.c_tree.specs.declared.expression.MemberDeclaration.{MemberDeclaration}
use Rattle.c_tree.specs.declared.expression.MemberDeclarator.{MemberDeclarator}
use Rattle.c_tree.specs.declared.expression.Enumerator.{Enumerator}
use Rattle.c_tree.specs.declared.expression.Parameter.{Parameter}
use Rattle.c_tree.specs.declared.expression.InitItem.{InitItem}
use Rattle.c_tree.specs.declared.expression.Designator.{Designator}
use Rattle.c_tree.specs.View.{expr_of, specifier_of, member_of, member_declarator_of, enumerator_of, parameter_of, item_of, designator_of, exprs_of, specifiers_of, members_of, member_declarators_of, enumerators_of, parameters_of, items_of, designators_of}
use Rattle.c_tree.specs.Height.{expr_height, specifier_height, member_height, member_declarator_height, enumerator_height, parameter_height, item_height, designator_height, exprs_height, specifiers_height, members_height, member_declarators_height, enumerators_height, parameters_height, items_height, designators_height}

max_none : (n : ℕ) → max n 0 ≡ max 0 n
max_none n = omega arith

max_end : (a b c : ℕ) → max a (max b c) ≡ max (max a b) c
max_end a b c = omega arith

pub tall_exprs : (xs : List Expr) (x : Expr) → exprs_height (exprs_of (xs ++ x ∷ [])) ≡ max (exprs_height (exprs_of xs)) (expr_height (expr_of x))
tall_exprs [] x = max_none (expr_height (expr_of x))
tall_exprs (y ∷ ys) x = ap (max (expr_height (expr_of y))) (tall_exprs ys x) ∙ max_end (expr_height (expr_of y)) (exprs_height (exprs_of ys)) (expr_height (expr_of x))

pub tall_specifiers : (xs : List Specifier) (x : Specifier) → specifiers_height (specifiers_of (xs ++ x ∷ [])) ≡ max (specifiers_height (specifiers_of xs)) (specifier_height (specifier_of x))
tall_specifiers [] x = max_none (specifier_height (specifier_of x))
tall_specifiers (y ∷ ys) x = ap (max (specifier_height (specifier_of y))) (tall_specifiers ys x) ∙ max_end (specifier_height (specifier_of y)) (specifiers_height (specifiers_of ys)) (specifier_height (specifier_of x))

pub tall_members : (xs : List MemberDeclaration) (x : MemberDeclaration) → members_height (members_of (xs ++ x ∷ [])) ≡ max (members_height (members_of xs)) (member_height (member_of x))
tall_members [] x = max_none (member_height (member_of x))
tall_members (y ∷ ys) x = ap (max (member_height (member_of y))) (tall_members ys x) ∙ max_end (member_height (member_of y)) (members_height (members_of ys)) (member_height (member_of x))

pub tall_member_declarators : (xs : List MemberDeclarator) (x : MemberDeclarator) → member_declarators_height (member_declarators_of (xs ++ x ∷ [])) ≡ max (member_declarators_height (member_declarators_of xs)) (member_declarator_height (member_declarator_of x))
tall_member_declarators [] x = max_none (member_declarator_height (member_declarator_of x))
tall_member_declarators (y ∷ ys) x = ap (max (member_declarator_height (member_declarator_of y))) (tall_member_declarators ys x) ∙ max_end (member_declarator_height (member_declarator_of y)) (member_declarators_height (member_declarators_of ys)) (member_declarator_height (member_declarator_of x))

pub tall_enumerators : (xs : List Enumerator) (x : Enumerator) → enumerators_height (enumerators_of (xs ++ x ∷ [])) ≡ max (enumerators_height (enumerators_of xs)) (enumerator_height (enumerator_of x))
tall_enumerators [] x = max_none (enumerator_height (enumerator_of x))
tall_enumerators (y ∷ ys) x = ap (max (enumerator_height (enumerator_of y))) (tall_enumerators ys x) ∙ max_end (enumerator_height (enumerator_of y)) (enumerators_height (enumerators_of ys)) (enumerator_height (enumerator_of x))

pub tall_parameters : (xs : List Parameter) (x : Parameter) → parameters_height (parameters_of (xs ++ x ∷ [])) ≡ max (parameters_height (parameters_of xs)) (parameter_height (parameter_of x))
tall_parameters [] x = max_none (parameter_height (parameter_of x))
tall_parameters (y ∷ ys) x = ap (max (parameter_height (parameter_of y))) (tall_parameters ys x) ∙ max_end (parameter_height (parameter_of y)) (parameters_height (parameters_of ys)) (parameter_height (parameter_of x))

pub tall_items : (xs : List InitItem) (x : InitItem) → items_height (items_of (xs ++ x ∷ [])) ≡ max (items_height (items_of xs)) (item_height (item_of x))
tall_items [] x = max_none (item_height (item_of x))
tall_items (y ∷ ys) x = ap (max (item_height (item_of y))) (tall_items ys x) ∙ max_end (item_height (item_of y)) (items_height (items_of ys)) (item_height (item_of x))

pub tall_designators : (xs : List Designator) (x : Designator) → designators_height (designators_of (xs ++ x ∷ [])) ≡ max (designators_height (designators_of xs)) (designator_height (designator_of x))
tall_designators [] x = max_none (designator_height (designator_of x))
tall_designators (y ∷ ys) x = ap (max (designator_height (designator_of y))) (tall_designators ys x) ∙ max_end (designator_height (designator_of y)) (designators_height (designators_of ys)) (designator_height (designator_of x))
