use Rattle.std.proofs.Common.{rules, ◌≡◌, refl, sym, ◌∙◌, ap, ◌+◌, max}
use Rattle.c_tree.specs.Syntax as plain
use Rattle.c_tree.specs.View.{expr_of, exprs_of, specifier_of, specifiers_of, members_of, enumerators_of, declarator_of, parameters_of, items_of}
use Rattle.c_tree.specs.Height.{tag_height, expr_height, exprs_height, specifier_height, specifiers_height, members_height, enumerators_height, declarator_height, parameters_height, items_height}
use Rattle.c_tree.specs.Capped.{capped}
use Rattle.c_tree.proofs.Views.{at_call, at_compound_literal, at_cast, at_struct, at_enum, at_function}
use Rattle.c_height.proofs.measure.+height.Goals as goal

pub height_of_expr-returns-in-Call : goal.height_of_expr-returns-in-Call
height_of_expr-returns-in-Call t c =
    let is : expr_of c.args.x.now ≡ plain.Call c.in-Call.field-0 (expr_of c.in-Call.e.value) (exprs_of c.in-Call.es.items) = at_call c.args.x.now c.in-Call.field-0 c.in-Call.e c.in-Call.es c.in-Call.es.items c.in-Call.is refl in
    let got : c.above-in-Call.result ≡ capped (1 + max (expr_height (expr_of c.in-Call.e.value)) (exprs_height (exprs_of c.in-Call.es.items))) = search rules in
    got ∙ ap (λ z. capped (expr_height z)) (sym is)

pub height_of_expr-returns-in-CompoundLiteral : goal.height_of_expr-returns-in-CompoundLiteral
height_of_expr-returns-in-CompoundLiteral t c =
    let is : expr_of c.args.x.now ≡ plain.CompoundLiteral c.in-CompoundLiteral.field-0 (plain.TypeName (specifiers_of c.in-CompoundLiteral.t.value.specifiers.items) (declarator_of c.in-CompoundLiteral.t.value.declarator)) (items_of c.in-CompoundLiteral.items.items) c.in-CompoundLiteral.field-3
    = at_compound_literal c.args.x.now c.in-CompoundLiteral.field-0 c.in-CompoundLiteral.t c.in-CompoundLiteral.items c.in-CompoundLiteral.field-3 c.in-CompoundLiteral.items.items c.in-CompoundLiteral.is refl in
    let got : c.above-in-CompoundLiteral.result ≡ capped (1 + max (max (specifiers_height (specifiers_of c.in-CompoundLiteral.t.value.specifiers.items)) (declarator_height (declarator_of c.in-CompoundLiteral.t.value.declarator))) (items_height (items_of c.in-CompoundLiteral.items.items))) = search rules in
    got ∙ ap (λ z. capped (expr_height z)) (sym is)

pub height_of_expr-returns-in-Cast : goal.height_of_expr-returns-in-Cast
height_of_expr-returns-in-Cast t c =
    let is : expr_of c.args.x.now ≡ plain.Cast c.in-Cast.field-0 (plain.TypeName (specifiers_of c.in-Cast.t.value.specifiers.items) (declarator_of c.in-Cast.t.value.declarator)) (expr_of c.in-Cast.e.value) = at_cast c.args.x.now c.in-Cast.field-0 c.in-Cast.t c.in-Cast.e c.in-Cast.is in
    let got : c.above-in-Cast.result ≡ capped (1 + max (max (specifiers_height (specifiers_of c.in-Cast.t.value.specifiers.items)) (declarator_height (declarator_of c.in-Cast.t.value.declarator))) (expr_height (expr_of c.in-Cast.e.value))) = search rules in
    got ∙ ap (λ z. capped (expr_height z)) (sym is)

pub height_of_specifier-returns-in-Members : goal.height_of_specifier-returns-in-Members
height_of_specifier-returns-in-Members t c =
    let is : specifier_of c.args.x.now ≡ plain.StructBody c.in-Members.field-0 c.in-Members.field-1 c.in-Members.tag (members_of c.in-Members.members.items) = at_struct c.args.x.now c.in-Members.field-0 c.in-Members.field-1 c.in-Members.tag c.in-Members.members c.in-Members.members.items c.in-Members.is refl in
    let got : c.above.result ≡ capped (1 + max (tag_height c.in-Members.tag) (members_height (members_of c.in-Members.members.items))) = search rules in
    got ∙ ap (λ z. capped (specifier_height z)) (sym is)

pub height_of_specifier-returns-in-Enumerators : goal.height_of_specifier-returns-in-Enumerators
height_of_specifier-returns-in-Enumerators t c =
    let is : specifier_of c.args.x.now ≡ plain.EnumBody c.in-Enumerators.field-0 c.in-Enumerators.tag (enumerators_of c.in-Enumerators.es.items) c.in-Enumerators.field-3 = at_enum c.args.x.now c.in-Enumerators.field-0 c.in-Enumerators.tag c.in-Enumerators.es c.in-Enumerators.field-3 c.in-Enumerators.es.items c.in-Enumerators.is refl in
    let got : c.above-in-Enumerators.result ≡ capped (1 + max (tag_height c.in-Enumerators.tag) (enumerators_height (enumerators_of c.in-Enumerators.es.items))) = search rules in
    got ∙ ap (λ z. capped (specifier_height z)) (sym is)

pub height_of_declarator-returns-in-Function : goal.height_of_declarator-returns-in-Function
height_of_declarator-returns-in-Function t c =
    let is : declarator_of c.args.x.now ≡ plain.Function c.in-Function.field-0 (declarator_of c.in-Function.d.value) (parameters_of c.in-Function.ps.items) c.in-Function.field-3 = at_function c.args.x.now c.in-Function.field-0 c.in-Function.d c.in-Function.ps c.in-Function.field-3 c.in-Function.ps.items c.in-Function.is refl in
    let got : c.above-in-Function.result ≡ capped (1 + max (declarator_height (declarator_of c.in-Function.d.value)) (parameters_height (parameters_of c.in-Function.ps.items))) = search rules in
    got ∙ ap (λ z. capped (declarator_height z)) (sym is)
