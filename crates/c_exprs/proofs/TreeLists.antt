-- The trees of a list, read one by one and put at its end.
use Rattle.std.proofs.Common.{◌≡◌, refl, ◌∙◌, ap, Bool, true, false, not, ◌||◌, List, [], ◌∷◌, ◌++◌, map, length, arith}
use Rattle.c_tree.specs.declared.words.Qualifier.{Qualifier}
use Rattle.c_tree.specs.Levels.{has_some}
use Rattle.c_tree.specs.declared.expression.Expr.{Expr}
use Rattle.c_tree.specs.declared.expression.Specifier.{Specifier}
use Rattle.c_tree.specs.declared.expression.MemberDeclaration.{MemberDeclaration}
use Rattle.c_tree.specs.declared.expression.MemberDeclarator.{MemberDeclarator}
use Rattle.c_tree.specs.declared.expression.Enumerator.{Enumerator}
use Rattle.c_tree.specs.declared.expression.Parameter.{Parameter}
use Rattle.c_tree.specs.declared.expression.InitItem.{InitItem}
use Rattle.c_tree.specs.declared.expression.Designator.{Designator}
use Rattle.c_tree.specs.Syntax.{MoreExprs, MoreSpecifiers, MoreMembers, MoreMemberDeclarators, MoreEnumerators, MoreParameters, MoreItems, MoreDesignators}
use Rattle.c_tree.specs.View.{expr_of, specifier_of, member_of, member_declarator_of, enumerator_of, parameter_of, item_of, designator_of, exprs_of, specifiers_of, members_of, member_declarators_of, enumerators_of, parameters_of, items_of, designators_of}
use Rattle.c_tree.specs.Scoped.{names_type}
use Rattle.c_exprs.specs.ExprReading.{expr_trees}
use Rattle.c_exprs.specs.SpecifierReading.{some_typed, specifier_trees, member_trees, member_declarator_trees, enumerator_trees}
use Rattle.c_exprs.specs.DeclaratorReading.{parameter_trees}
use Rattle.c_exprs.specs.InitReading.{item_trees, designator_trees}

or_false : (b : Bool) → (b || false) ≡ b
or_false true = refl
or_false false = refl

or_or : (a b c : Bool) → (a || (b || c)) ≡ ((a || b) || c)
or_or true b c = refl
or_or false b c = refl

pub seen_exprs : (xs : List Expr) → expr_trees (map expr_of xs) ≡ exprs_of xs
seen_exprs [] = refl
seen_exprs (x ∷ xs) = ap (MoreExprs (expr_of x)) (seen_exprs xs)

pub seen_specifiers : (xs : List Specifier) → specifier_trees (map specifier_of xs) ≡ specifiers_of xs
seen_specifiers [] = refl
seen_specifiers (x ∷ xs) = ap (MoreSpecifiers (specifier_of x)) (seen_specifiers xs)

pub seen_members : (xs : List MemberDeclaration) → member_trees (map member_of xs) ≡ members_of xs
seen_members [] = refl
seen_members (x ∷ xs) = ap (MoreMembers (member_of x)) (seen_members xs)

pub seen_member_declarators : (xs : List MemberDeclarator) → member_declarator_trees (map member_declarator_of xs) ≡ member_declarators_of xs
seen_member_declarators [] = refl
seen_member_declarators (x ∷ xs) = ap (MoreMemberDeclarators (member_declarator_of x)) (seen_member_declarators xs)

pub seen_enumerators : (xs : List Enumerator) → enumerator_trees (map enumerator_of xs) ≡ enumerators_of xs
seen_enumerators [] = refl
seen_enumerators (x ∷ xs) = ap (MoreEnumerators (enumerator_of x)) (seen_enumerators xs)

pub seen_parameters : (xs : List Parameter) → parameter_trees (map parameter_of xs) ≡ parameters_of xs
seen_parameters [] = refl
seen_parameters (x ∷ xs) = ap (MoreParameters (parameter_of x)) (seen_parameters xs)

pub seen_items : (xs : List InitItem) → item_trees (map item_of xs) ≡ items_of xs
seen_items [] = refl
seen_items (x ∷ xs) = ap (MoreItems (item_of x)) (seen_items xs)

pub seen_designators : (xs : List Designator) → designator_trees (map designator_of xs) ≡ designators_of xs
seen_designators [] = refl
seen_designators (x ∷ xs) = ap (MoreDesignators (designator_of x)) (seen_designators xs)

-- a type specifier is among one more
pub typed_more : (xs : List Specifier) (x : Specifier) → some_typed (map specifier_of (xs ++ x ∷ [])) ≡ (some_typed (map specifier_of xs) || names_type (specifier_of x))
typed_more [] x = or_false (names_type (specifier_of x))
typed_more (y ∷ ys) x = ap (λ b. names_type (specifier_of y) || b) (typed_more ys x) ∙ or_or (names_type (specifier_of y)) (some_typed (map specifier_of ys)) (names_type (specifier_of x))

pub some_qualified : (qs : List Qualifier) (b : Bool) → (b ≡ true → length qs ≡ 0) → (length qs ≡ 0 → b ≡ true) → not b ≡ has_some qs
some_qualified [] b to back = ap not (back refl)
some_qualified (q ∷ qs) true to back = absurd (omega (arith, to refl))
some_qualified (q ∷ qs) false to back = refl
