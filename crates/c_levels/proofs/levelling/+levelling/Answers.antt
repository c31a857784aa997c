use Rattle.std.proofs.Common.{rules, ◌≡◌, refl, sym, ◌∙◌, ap}
use Rattle.c_tree.specs.Syntax as plain
use Rattle.c_tree.specs.View.{expr_of, specifier_of, specifiers_of, member_of, member_declarator_of, enumerator_of, declarator_of, parameter_of, parameters_of, item_of, items_of, designator_of}
use Rattle.c_tree.specs.Levels.{levelled, levelled_specifier, levelled_declarator, levelled_member, levelled_member_declarator, levelled_enumerator, levelled_parameter, levelled_item, levelled_designator}
use Rattle.c_tree.specs.Told.{told}
use Rattle.c_tree.proofs.ToldLemmas.{all_step, is_argument}
use Rattle.c_tree.proofs.Views.{at_compound_literal, at_sizeof, at_alignof, at_cast, at_function}
use Rattle.c_levels.proofs.levelling.+levelling.Goals as goal

pub arguments_fit-loop-x-preserved : goal.arguments_fit-loop-x-preserved
arguments_fit-loop-x-preserved t c = all_step is_argument c.args.xs.now c.loop-x.x-index c.loop-x.all c.operand_fits.result c.both-all.result c.x-item.result c.loop-x-test.true c.x-item.is c.operand_fits.ensures c.both-all.ensures.is c.loop-x.invariant

pub specifiers_fit-loop-x-preserved : goal.specifiers_fit-loop-x-preserved
specifiers_fit-loop-x-preserved t c = all_step (λ x. levelled_specifier (specifier_of x)) c.args.xs.now c.loop-x.x-index c.loop-x.all c.specifier_fits.result c.both-all.result c.x-item.result c.loop-x-test.true c.x-item.is c.specifier_fits.ensures c.both-all.ensures.is c.loop-x.invariant

pub members_fit-loop-x-preserved : goal.members_fit-loop-x-preserved
members_fit-loop-x-preserved t c = all_step (λ x. levelled_member (member_of x)) c.args.xs.now c.loop-x.x-index c.loop-x.all c.member_fits.result c.both-all.result c.x-item.result c.loop-x-test.true c.x-item.is c.member_fits.ensures c.both-all.ensures.is c.loop-x.invariant

pub member_declarators_fit-loop-x-preserved : goal.member_declarators_fit-loop-x-preserved
member_declarators_fit-loop-x-preserved t c = all_step (λ x. levelled_member_declarator (member_declarator_of x)) c.args.xs.now c.loop-x.x-index c.loop-x.all c.member_declarator_fits.result c.both-all.result c.x-item.result c.loop-x-test.true c.x-item.is c.member_declarator_fits.ensures c.both-all.ensures.is c.loop-x.invariant

pub enumerators_fit-loop-x-preserved : goal.enumerators_fit-loop-x-preserved
enumerators_fit-loop-x-preserved t c = all_step (λ x. levelled_enumerator (enumerator_of x)) c.args.xs.now c.loop-x.x-index c.loop-x.all c.enumerator_fits.result c.both-all.result c.x-item.result c.loop-x-test.true c.x-item.is c.enumerator_fits.ensures c.both-all.ensures.is c.loop-x.invariant

pub parameters_fit-loop-x-preserved : goal.parameters_fit-loop-x-preserved
parameters_fit-loop-x-preserved t c = all_step (λ x. levelled_parameter (parameter_of x)) c.args.xs.now c.loop-x.x-index c.loop-x.all c.parameter_fits.result c.both-all.result c.x-item.result c.loop-x-test.true c.x-item.is c.parameter_fits.ensures c.both-all.ensures.is c.loop-x.invariant

pub items_fit-loop-x-preserved : goal.items_fit-loop-x-preserved
items_fit-loop-x-preserved t c = all_step (λ x. levelled_item (item_of x)) c.args.xs.now c.loop-x.x-index c.loop-x.all c.item_fits.result c.both-all.result c.x-item.result c.loop-x-test.true c.x-item.is c.item_fits.ensures c.both-all.ensures.is c.loop-x.invariant

pub designators_fit-loop-x-preserved : goal.designators_fit-loop-x-preserved
designators_fit-loop-x-preserved t c = all_step (λ x. levelled_designator (designator_of x)) c.args.xs.now c.loop-x.x-index c.loop-x.all c.designator_fits.result c.both-all.result c.x-item.result c.loop-x-test.true c.x-item.is c.designator_fits.ensures c.both-all.ensures.is c.loop-x.invariant

pub derivation_fits-returns-in-Function : goal.derivation_fits-returns-in-Function
derivation_fits-returns-in-Function t c =
    let is : declarator_of c.args.x.now ≡ plain.Function c.in-Function.field-0 (declarator_of c.in-Function.d.value) (parameters_of c.in-Function.ps.items) c.in-Function.field-3 = at_function c.args.x.now c.in-Function.field-0 c.in-Function.d c.in-Function.ps c.in-Function.field-3 c.in-Function.ps.items c.in-Function.is refl in
    let got : c.both-in-Function-3.result ≡ told (levelled_declarator (plain.Function c.in-Function.field-0 (declarator_of c.in-Function.d.value) (parameters_of c.in-Function.ps.items) c.in-Function.field-3)) = search rules in
    got ∙ ap (λ z. told (levelled_declarator z)) (sym is)

pub expr_fits-returns-in-CompoundLiteral : goal.expr_fits-returns-in-CompoundLiteral
expr_fits-returns-in-CompoundLiteral t c =
    let is : expr_of c.args.x.now ≡ plain.CompoundLiteral c.in-CompoundLiteral.field-0 (plain.TypeName (specifiers_of c.in-CompoundLiteral.t.value.specifiers.items) (declarator_of c.in-CompoundLiteral.t.value.declarator)) (items_of c.in-CompoundLiteral.items.items) c.in-CompoundLiteral.field-3
    = at_compound_literal c.args.x.now c.in-CompoundLiteral.field-0 c.in-CompoundLiteral.t c.in-CompoundLiteral.items c.in-CompoundLiteral.field-3 c.in-CompoundLiteral.items.items c.in-CompoundLiteral.is refl in
    let got : c.both-in-CompoundLiteral-2.result ≡ told (levelled (plain.CompoundLiteral c.in-CompoundLiteral.field-0 (plain.TypeName (specifiers_of c.in-CompoundLiteral.t.value.specifiers.items) (declarator_of c.in-CompoundLiteral.t.value.declarator)) (items_of c.in-CompoundLiteral.items.items) c.in-CompoundLiteral.field-3)) = search rules in
    got ∙ ap (λ z. told (levelled z)) (sym is)

pub expr_fits-returns-in-SizeofType : goal.expr_fits-returns-in-SizeofType
expr_fits-returns-in-SizeofType t c =
    let is : expr_of c.args.x.now ≡ plain.SizeofType c.in-SizeofType.field-0 (plain.TypeName (specifiers_of c.in-SizeofType.t.value.specifiers.items) (declarator_of c.in-SizeofType.t.value.declarator)) = at_sizeof c.args.x.now c.in-SizeofType.field-0 c.in-SizeofType.t c.in-SizeofType.is in
    let got : c.type_fits-in-SizeofType.result ≡ told (levelled (plain.SizeofType c.in-SizeofType.field-0 (plain.TypeName (specifiers_of c.in-SizeofType.t.value.specifiers.items) (declarator_of c.in-SizeofType.t.value.declarator)))) = search rules in
    got ∙ ap (λ z. told (levelled z)) (sym is)

pub expr_fits-returns-in-AlignofType : goal.expr_fits-returns-in-AlignofType
expr_fits-returns-in-AlignofType t c =
    let is : expr_of c.args.x.now ≡ plain.AlignofType c.in-AlignofType.field-0 (plain.TypeName (specifiers_of c.in-AlignofType.t.value.specifiers.items) (declarator_of c.in-AlignofType.t.value.declarator)) = at_alignof c.args.x.now c.in-AlignofType.field-0 c.in-AlignofType.t c.in-AlignofType.is in
    let got : c.type_fits-in-AlignofType.result ≡ told (levelled (plain.AlignofType c.in-AlignofType.field-0 (plain.TypeName (specifiers_of c.in-AlignofType.t.value.specifiers.items) (declarator_of c.in-AlignofType.t.value.declarator)))) = search rules in
    got ∙ ap (λ z. told (levelled z)) (sym is)

pub expr_fits-returns-in-Cast : goal.expr_fits-returns-in-Cast
expr_fits-returns-in-Cast t c =
    let is : expr_of c.args.x.now ≡ plain.Cast c.in-Cast.field-0 (plain.TypeName (specifiers_of c.in-Cast.t.value.specifiers.items) (declarator_of c.in-Cast.t.value.declarator)) (expr_of c.in-Cast.e.value) = at_cast c.args.x.now c.in-Cast.field-0 c.in-Cast.t c.in-Cast.e c.in-Cast.is in
    let got : c.both-in-Cast.result ≡ told (levelled (plain.Cast c.in-Cast.field-0 (plain.TypeName (specifiers_of c.in-Cast.t.value.specifiers.items) (declarator_of c.in-Cast.t.value.declarator)) (expr_of c.in-Cast.e.value))) = search rules in
    got ∙ ap (λ z. told (levelled z)) (sym is)
