-- The plain tree of each variant that holds a list, from the list's elements.
use Rattle.std.proofs.Common.{◌≡◌, refl, sym, ◌∙◌, ap, ℕ, Bool, List, Option, Vec, Box, Global}
use Rattle.cil_base.specs.declared.numbers.NameId.{NameId}
use Rattle.c_tree.specs.declared.words.StructKind.{StructKind}
use Rattle.c_tree.specs.declared.expression.Expr.{Expr}
use Rattle.c_tree.specs.declared.expression.Specifier.{Specifier}
use Rattle.c_tree.specs.declared.expression.MemberDeclaration.{MemberDeclaration}
use Rattle.c_tree.specs.declared.expression.MemberDeclarator.{MemberDeclarator}
use Rattle.c_tree.specs.declared.expression.Declarator.{Declarator}
use Rattle.c_tree.specs.declared.expression.Init.{Init}
use Rattle.c_tree.specs.declared.expression.Designator.{Designator}
use Rattle.c_tree.specs.declared.expression.Enumerator.{Enumerator}
use Rattle.c_tree.specs.declared.expression.InitItem.{InitItem}
use Rattle.c_tree.specs.declared.expression.TypeName.{TypeName}
use Rattle.c_tree.specs.declared.expression.Parameter.{Parameter as ParameterRecord}
use Rattle.c_tree.specs.declared.expression.Expr.TheVariants.{Call, CompoundLiteral, SizeofType, AlignofType, Cast}
use Rattle.c_tree.specs.declared.expression.Specifier.TheVariants.{Members as MembersSpecifier, Enumerators}
use Rattle.c_tree.specs.declared.expression.MemberDeclaration.TheVariants.{Members as MembersDeclaration}
use Rattle.c_tree.specs.declared.expression.Declarator.TheVariants.{Function as FunctionDeclarator}
use Rattle.c_tree.specs.declared.expression.Init.TheVariants.{Braces as BracesInit}
use Rattle.c_tree.specs.declared.expression.ArrayBound.TheBlock.{Row_of-Specifier, end_of-Specifier, more_of-Specifier, items-the_row-Specifier, hidden-the_row-Specifier-0, items_hidden-the_row-Specifier-0, Row_of-Parameter, end_of-Parameter, more_of-Parameter, items-the_row-Parameter, hidden-the_row-Parameter-1, items_hidden-the_row-Parameter-1, Row_of-Expr, end_of-Expr, more_of-Expr, items-the_row-Expr, hidden-the_row-Expr-2, items_hidden-the_row-Expr-2, Row_of-Designator, end_of-Designator, more_of-Designator, items-the_row-Designator, hidden-the_row-Designator-3, items_hidden-the_row-Designator-3, Row_of-InitItem, end_of-InitItem, more_of-InitItem, items-the_row-InitItem, hidden-the_row-InitItem-4, items_hidden-the_row-InitItem-4, Row_of-MemberDeclarator, end_of-MemberDeclarator, more_of-MemberDeclarator, items-the_row-MemberDeclarator, hidden-the_row-MemberDeclarator-5, items_hidden-the_row-MemberDeclarator-5, Row_of-MemberDeclaration, end_of-MemberDeclaration, more_of-MemberDeclaration, items-the_row-MemberDeclaration, hidden-the_row-MemberDeclaration-6, items_hidden-the_row-MemberDeclaration-6, Row_of-Enumerator, end_of-Enumerator, more_of-Enumerator, items-the_row-Enumerator, hidden-the_row-Enumerator-7, items_hidden-the_row-Enumerator-7, shown-the_row-Specifier-0, items_shown-the_row-Specifier-0, shown-the_row-Designator-3, items_shown-the_row-Designator-3, Held-Enumerator-value, None', Some', view-Enumerator-value}
use Rattle.c_tree.specs.Syntax as plain
use Rattle.c_tree.specs.View.{expr_of, specifier_of, member_of, member_declarator_of, declarator_of, init_of, designator_of, value_of, maybe_of, specifiers_row, specifiers_of, parameters_row, parameters_of, exprs_row, exprs_of, designators_row, designators_of, items_row, items_of, member_declarators_row, member_declarators_of, members_row, members_of, enumerators_row, enumerators_of}

row_specifiers : {n : _} (k : Row_of-Specifier n) → specifiers_row k ≡ specifiers_of (items-the_row-Specifier n k)
row_specifiers end_of-Specifier = refl
row_specifiers (more_of-Specifier x rest) = ap (plain.MoreSpecifiers (specifier_of x)) (row_specifiers rest)

row_exprs : {n : _} (k : Row_of-Expr n) → exprs_row k ≡ exprs_of (items-the_row-Expr n k)
row_exprs end_of-Expr = refl
row_exprs (more_of-Expr x rest) = ap (plain.MoreExprs (expr_of x)) (row_exprs rest)

row_designators : {n : _} (k : Row_of-Designator n) → designators_row k ≡ designators_of (items-the_row-Designator n k)
row_designators end_of-Designator = refl
row_designators (more_of-Designator x rest) = ap (plain.MoreDesignators (designator_of x)) (row_designators rest)

row_member_declarators : {n : _} (k : Row_of-MemberDeclarator n) → member_declarators_row k ≡ member_declarators_of (items-the_row-MemberDeclarator n k)
row_member_declarators end_of-MemberDeclarator = refl
row_member_declarators (more_of-MemberDeclarator x rest) = ap (plain.MoreMemberDeclarators (member_declarator_of x)) (row_member_declarators rest)

row_members : {n : _} (k : Row_of-MemberDeclaration n) → members_row k ≡ members_of (items-the_row-MemberDeclaration n k)
row_members end_of-MemberDeclaration = refl
row_members (more_of-MemberDeclaration x rest) = ap (plain.MoreMembers (member_of x)) (row_members rest)

held_value : (h : Held-Enumerator-value) → value_of h ≡ maybe_of (view-Enumerator-value h)
held_value None' = refl
held_value (Some' p e) = refl

row_enumerators : {n : _} (k : Row_of-Enumerator n) → enumerators_row k ≡ enumerators_of (items-the_row-Enumerator n k)
row_enumerators end_of-Enumerator = refl
row_enumerators (more_of-Enumerator at name value rest) =
    ap (λ v. plain.MoreEnumerators (plain.Enumerates at name v) (enumerators_row rest)) (held_value value) ∙ ap (plain.MoreEnumerators (plain.Enumerates at name (maybe_of (view-Enumerator-value value)))) (row_enumerators rest)

row_parameters : {n : _} (k : Row_of-Parameter n) → parameters_row k ≡ parameters_of (items-the_row-Parameter n k)
row_parameters end_of-Parameter = refl
row_parameters (more_of-Parameter n ss d rest) =
    let e : specifiers_row ss ≡ specifiers_of (shown-the_row-Specifier-0 n ss).items = row_specifiers ss ∙ ap specifiers_of (sym (items_shown-the_row-Specifier-0 n ss)) in
    ap (λ v. plain.MoreParameters (plain.Parameter v (declarator_of d)) (parameters_row rest)) e ∙ ap (plain.MoreParameters (plain.Parameter (specifiers_of (shown-the_row-Specifier-0 n ss).items) (declarator_of d))) (row_parameters rest)

row_items : {n : _} (k : Row_of-InitItem n) → items_row k ≡ items_of (items-the_row-InitItem n k)
row_items end_of-InitItem = refl
row_items (more_of-InitItem n ds i rest) =
    let e : designators_row ds ≡ designators_of (shown-the_row-Designator-3 n ds).items = row_designators ds ∙ ap designators_of (sym (items_shown-the_row-Designator-3 n ds)) in
    ap (λ v. plain.MoreItems (plain.Item v (init_of i)) (items_row rest)) e ∙ ap (plain.MoreItems (plain.Item (designators_of (shown-the_row-Designator-3 n ds).items) (init_of i))) (row_items rest)

pub held_specifiers : (v : Vec Specifier Global) → specifiers_row (hidden-the_row-Specifier-0 v) ≡ specifiers_of v.items
held_specifiers v = row_specifiers (hidden-the_row-Specifier-0 v) ∙ ap specifiers_of (items_hidden-the_row-Specifier-0 v)

pub held_parameters : (v : Vec ParameterRecord Global) → parameters_row (hidden-the_row-Parameter-1 v) ≡ parameters_of v.items
held_parameters v = row_parameters (hidden-the_row-Parameter-1 v) ∙ ap parameters_of (items_hidden-the_row-Parameter-1 v)

pub held_exprs : (v : Vec Expr Global) → exprs_row (hidden-the_row-Expr-2 v) ≡ exprs_of v.items
held_exprs v = row_exprs (hidden-the_row-Expr-2 v) ∙ ap exprs_of (items_hidden-the_row-Expr-2 v)

pub held_designators : (v : Vec Designator Global) → designators_row (hidden-the_row-Designator-3 v) ≡ designators_of v.items
held_designators v = row_designators (hidden-the_row-Designator-3 v) ∙ ap designators_of (items_hidden-the_row-Designator-3 v)

pub held_items : (v : Vec InitItem Global) → items_row (hidden-the_row-InitItem-4 v) ≡ items_of v.items
held_items v = row_items (hidden-the_row-InitItem-4 v) ∙ ap items_of (items_hidden-the_row-InitItem-4 v)

pub held_member_declarators : (v : Vec MemberDeclarator Global) → member_declarators_row (hidden-the_row-MemberDeclarator-5 v) ≡ member_declarators_of v.items
held_member_declarators v = row_member_declarators (hidden-the_row-MemberDeclarator-5 v) ∙ ap member_declarators_of (items_hidden-the_row-MemberDeclarator-5 v)

pub held_members : (v : Vec MemberDeclaration Global) → members_row (hidden-the_row-MemberDeclaration-6 v) ≡ members_of v.items
held_members v = row_members (hidden-the_row-MemberDeclaration-6 v) ∙ ap members_of (items_hidden-the_row-MemberDeclaration-6 v)

pub held_enumerators : (v : Vec Enumerator Global) → enumerators_row (hidden-the_row-Enumerator-7 v) ≡ enumerators_of v.items
held_enumerators v = row_enumerators (hidden-the_row-Enumerator-7 v) ∙ ap enumerators_of (items_hidden-the_row-Enumerator-7 v)

-- For each variant with a list: the tree, from what a body reads.

pub at_call : (x : Expr) (at : ℕ) (e : Box Expr Global) (v : Vec Expr Global) (xs : List Expr) → x ≡ Call at e v → xs ≡ v.items → expr_of x ≡ plain.Call at (expr_of e.value) (exprs_of xs)
at_call x at e v xs is same = ap expr_of is ∙ ap (plain.Call at (expr_of e.value)) (held_exprs v ∙ ap exprs_of (sym same))

pub at_compound_literal : (x : Expr) (at : ℕ) (t : Box TypeName Global) (v : Vec InitItem Global) (comma : Bool) (xs : List InitItem) → x ≡ CompoundLiteral at t v comma → xs ≡ v.items →
    expr_of x ≡ plain.CompoundLiteral at (plain.TypeName (specifiers_of t.value.specifiers.items) (declarator_of t.value.declarator)) (items_of xs) comma
at_compound_literal x at t v comma xs is same =
    ap expr_of is ∙ ap (λ ss. plain.CompoundLiteral at (plain.TypeName ss (declarator_of t.value.declarator)) (items_row (hidden-the_row-InitItem-4 v)) comma) (held_specifiers t.value.specifiers)
    ∙ ap (λ is. plain.CompoundLiteral at (plain.TypeName (specifiers_of t.value.specifiers.items) (declarator_of t.value.declarator)) is comma) (held_items v ∙ ap items_of (sym same))

pub at_sizeof : (x : Expr) (at : ℕ) (t : Box TypeName Global) → x ≡ SizeofType at t → expr_of x ≡ plain.SizeofType at (plain.TypeName (specifiers_of t.value.specifiers.items) (declarator_of t.value.declarator))
at_sizeof x at t is = ap expr_of is ∙ ap (λ ss. plain.SizeofType at (plain.TypeName ss (declarator_of t.value.declarator))) (held_specifiers t.value.specifiers)

pub at_alignof : (x : Expr) (at : ℕ) (t : Box TypeName Global) → x ≡ AlignofType at t → expr_of x ≡ plain.AlignofType at (plain.TypeName (specifiers_of t.value.specifiers.items) (declarator_of t.value.declarator))
at_alignof x at t is = ap expr_of is ∙ ap (λ ss. plain.AlignofType at (plain.TypeName ss (declarator_of t.value.declarator))) (held_specifiers t.value.specifiers)

pub at_cast : (x : Expr) (at : ℕ) (t : Box TypeName Global) (e : Box Expr Global) → x ≡ Cast at t e → expr_of x ≡ plain.Cast at (plain.TypeName (specifiers_of t.value.specifiers.items) (declarator_of t.value.declarator)) (expr_of e.value)
at_cast x at t e is = ap expr_of is ∙ ap (λ ss. plain.Cast at (plain.TypeName ss (declarator_of t.value.declarator)) (expr_of e.value)) (held_specifiers t.value.specifiers)

pub at_struct : (x : Specifier) (at : ℕ) (kind : StructKind) (tag : Option NameId) (v : Vec MemberDeclaration Global) (xs : List MemberDeclaration) → x ≡ MembersSpecifier at kind tag v → xs ≡ v.items → specifier_of x ≡ plain.StructBody at kind tag (members_of xs)
at_struct x at kind tag v xs is same = ap specifier_of is ∙ ap (plain.StructBody at kind tag) (held_members v ∙ ap members_of (sym same))

pub at_enum : (x : Specifier) (at : ℕ) (tag : Option NameId) (v : Vec Enumerator Global) (comma : Bool) (xs : List Enumerator) → x ≡ Enumerators at tag v comma → xs ≡ v.items → specifier_of x ≡ plain.EnumBody at tag (enumerators_of xs) comma
at_enum x at tag v comma xs is same = ap specifier_of is ∙ ap (λ es. plain.EnumBody at tag es comma) (held_enumerators v ∙ ap enumerators_of (sym same))

pub at_member : (x : MemberDeclaration) (v : Vec Specifier Global) (w : Vec MemberDeclarator Global) (xs : List Specifier) (ys : List MemberDeclarator) → x ≡ MembersDeclaration v w → xs ≡ v.items → ys ≡ w.items →
    member_of x ≡ plain.MemberLine (specifiers_of xs) (member_declarators_of ys)
at_member x v w xs ys is same also =
    ap member_of is ∙ ap (λ ss. plain.MemberLine ss (member_declarators_row (hidden-the_row-MemberDeclarator-5 w))) (held_specifiers v ∙ ap specifiers_of (sym same))
    ∙ ap (plain.MemberLine (specifiers_of xs)) (held_member_declarators w ∙ ap member_declarators_of (sym also))

pub at_function : (x : Declarator) (at : ℕ) (d : Box Declarator Global) (v : Vec ParameterRecord Global) (variadic : Bool) (xs : List ParameterRecord) → x ≡ FunctionDeclarator at d v variadic → xs ≡ v.items →
    declarator_of x ≡ plain.Function at (declarator_of d.value) (parameters_of xs) variadic
at_function x at d v variadic xs is same = ap declarator_of is ∙ ap (λ ps. plain.Function at (declarator_of d.value) ps variadic) (held_parameters v ∙ ap parameters_of (sym same))

pub at_braces : (x : Init) (at : ℕ) (v : Vec InitItem Global) (comma : Bool) (xs : List InitItem) → x ≡ BracesInit at v comma → xs ≡ v.items → init_of x ≡ plain.Braces at (items_of xs) comma
at_braces x at v comma xs is same = ap init_of is ∙ ap (λ is. plain.Braces at is comma) (held_items v ∙ ap items_of (sym same))
