use Rattle.std.proofs.Common.{false, map, refl, ◌∙◌, arith}
use Rattle.cil_base.specs.declared.tokens.Punctuator.TheVariants.{Ellipsis}
use Rattle.c_tree.specs.View.{expr_of, declarator_of, parameter_of}
use Rattle.c_cursor.specs.Lexemes.{ahead}
use Rattle.c_cursor.specs.Classes.{next_is, is_sign, take}
use Rattle.c_exprs.specs.Subs.{more_listed_to}
use Rattle.c_exprs.specs.Reading.{below}
use Rattle.c_exprs.specs.DeclaratorReading.{parameter}
use Rattle.c_exprs.proofs.ListLoops.{growing_from, growing_next, growing_stops, growing_ends, ending_from, ending_next, ending_stops, ending_last, ending_ends, following_from, following_next, following_fails, following_ends, specifying_from, specifying_next, specifying_stops, specifying_ends}
use Rattle.c_exprs.proofs.TreeLists.{typed_more}
use Rattle.c_exprs.proofs.LeaveLemmas.{prototyped_read}
use Rattle.c_exprs.proofs.TailLemmas.{derived_array, declarator_pointer, declarator_direct}
use Rattle.c_exprs.proofs.+reading.Goals as goal

pub parameters::more_parameters-returns-in-None-clause-gives : goal.parameters::more_parameters-returns-in-None-clause-gives
parameters::more_parameters-returns-in-None-clause-gives g t c =
    ending_last parameter_of _ (next_is (is_sign Ellipsis)) (take (is_sign Ellipsis)) (parameter (below c.args.height)) c.loop-alloc.c.all c.next_parameter.new.c.all c.loop-alloc.c.at c.next_parameter.new.c.at
    c.loop-alloc.ps c.in_ok-p.field-0 c.loop-alloc.s c.next_parameter.new.s c.at_sign.result
    (more_listed_to (next_is (is_sign Ellipsis)) (take (is_sign Ellipsis)) (parameter (below c.args.height)) ((map parameter_of c.args.first, false), c.args.s.now) (ahead c.args.c.now))
    c.loop-alloc.invariant.0 c.at_sign.ensures.is c.loop-alloc-test.true c.at_sign.ensures.room c.in_ok-p.ensures.gives c.in-None.is

pub parameters::prototyped-returns-clause-gives : goal.parameters::prototyped-returns-clause-gives
parameters::prototyped-returns-clause-gives g t c =
    prototyped_read c.args.height c.args.at (declarator_of c.args.d) (declarator_of c.in_ok-function_of.field-0) c.args.s.now c.enter.new.self c.parameters.new.s c.leave.new.self
    c.in_ok-ps.ps c.in_ok-ps.variadic c.in_ok-take_sign.field-0 (ahead c.args.c.now) (ahead c.parameters.new.c) (ahead c.take_sign.new.c)
    c.in_ok-enter.ensures.ok c.in_ok-ps.ensures.gives c.in_ok-take_sign.ensures.gives c.leave.ensures c.in_ok-function_of.ensures

pub declarators::declarator-returns-then-at_sign-clause-gives : goal.declarators::declarator-returns-then-at_sign-clause-gives
declarators::declarator-returns-then-at_sign-clause-gives g t c =
    declarator_pointer _ c.pointer.result c.args.height (below c.args.height) c.args.form c.args.s.now c.at_sign.result _ (ahead c.args.c.now) (ahead c.pointer.new.c)
    (omega arith) (search) c.at_sign.ensures.is c.if-at_sign.true c.pointer.ensures.gives

pub declarators::declarator-returns-else-at_sign-clause-gives : goal.declarators::declarator-returns-else-at_sign-clause-gives
declarators::declarator-returns-else-at_sign-clause-gives g t c =
    declarator_direct _ c.direct.result c.args.height (below c.args.height) c.args.form c.args.s.now c.at_sign.result _ (ahead c.args.c.now) (ahead c.direct.new.c)
    (omega arith) (search) c.at_sign.ensures.is c.if-at_sign.false c.direct.ensures.gives

pub declarators::derivation-returns-in-Array-clause-gives : goal.declarators::derivation-returns-in-Array-clause-gives
declarators::derivation-returns-in-Array-clause-gives g t c =
    derived_array _ c.array_behind.result c.args.height (below c.args.height) c.args.form c.args.at c.position-b.result (declarator_of c.args.d, c.args.s.now) c.in_ok-take_derivation.field-0 (ahead c.args.c.now) (ahead c.take_derivation.new.c) (ahead c.array_behind.new.c)
    (search) c.in_ok-take_derivation.ensures.gives c.in-Array.is c.array_behind.ensures.gives

pub argument_list::more_arguments-loop-alloc-init : goal.argument_list::more_arguments-loop-alloc-init
argument_list::more_arguments-loop-alloc-init g t c = (grind (arith, growing_from), record { same = refl; onward = omega arith })

pub argument_list::more_arguments-loop-alloc-preserved : goal.argument_list::more_arguments-loop-alloc-preserved
argument_list::more_arguments-loop-alloc-preserved g t c = (grind (arith, growing_next), record { same = c.next_argument.ensures.onward.same ∙ c.loop-alloc.invariant.1.same; onward = omega (arith, c.next_argument.ensures.onward.onward, c.loop-alloc.invariant.1.onward) })

pub argument_list::more_arguments-returns-in_err-e-clause-gives : goal.argument_list::more_arguments-returns-in_err-e-clause-gives
argument_list::more_arguments-returns-in_err-e-clause-gives g t c = grind (arith, growing_stops)

pub argument_list::more_arguments-returns-clause-gives : goal.argument_list::more_arguments-returns-clause-gives
argument_list::more_arguments-returns-clause-gives g t c = grind (arith, growing_ends)

pub declarators::derivations-loop-alloc-init : goal.declarators::derivations-loop-alloc-init
declarators::derivations-loop-alloc-init g t c = (grind (arith, following_from), record { same = refl; onward = omega arith })

pub declarators::derivations-loop-alloc-preserved : goal.declarators::derivations-loop-alloc-preserved
declarators::derivations-loop-alloc-preserved g t c = (
  following_next _ _ c.loop-alloc.c.all c.derivation.new.c.all c.loop-alloc.c.at c.derivation.new.c.at (declarator_of c.loop-alloc.d) (declarator_of c.in_ok-d.d) c.loop-alloc.s c.derivation.new.s c.goes_on_declarator.result _
      c.loop-alloc.invariant.0 c.goes_on_declarator.ensures.is c.loop-alloc-test.true c.goes_on_declarator.ensures.room c.in_ok-d.ensures.gives c.derivation.ensures.onward.same c.in_ok-d.ensures.further,
  record { same = c.derivation.ensures.onward.same ∙ c.loop-alloc.invariant.1.same; onward = omega (arith, c.derivation.ensures.onward.onward, c.loop-alloc.invariant.1.onward) },
)

pub declarators::derivations-returns-in_err-d-clause-gives : goal.declarators::derivations-returns-in_err-d-clause-gives
declarators::derivations-returns-in_err-d-clause-gives g t c = grind (arith, following_fails)

pub declarators::derivations-returns-clause-gives : goal.declarators::derivations-returns-clause-gives
declarators::derivations-returns-clause-gives g t c = grind (arith, following_ends)

pub enumerators::more_enumerators-loop-alloc-init : goal.enumerators::more_enumerators-loop-alloc-init
enumerators::more_enumerators-loop-alloc-init g t c = (grind (arith, ending_from), record { same = refl; onward = omega arith })

pub enumerators::more_enumerators-loop-alloc-preserved : goal.enumerators::more_enumerators-loop-alloc-preserved
enumerators::more_enumerators-loop-alloc-preserved g t c = (grind (arith, ending_next), record { same = c.next_enumerator.ensures.onward.same ∙ c.loop-alloc.invariant.1.same; onward = omega (arith, c.next_enumerator.ensures.onward.onward, c.loop-alloc.invariant.1.onward) })

pub enumerators::more_enumerators-returns-in_err-e-clause-gives : goal.enumerators::more_enumerators-returns-in_err-e-clause-gives
enumerators::more_enumerators-returns-in_err-e-clause-gives g t c = grind (arith, ending_stops)

pub enumerators::more_enumerators-returns-in-None-clause-gives : goal.enumerators::more_enumerators-returns-in-None-clause-gives
enumerators::more_enumerators-returns-in-None-clause-gives g t c = grind (arith, ending_last)

pub enumerators::more_enumerators-returns-clause-gives : goal.enumerators::more_enumerators-returns-clause-gives
enumerators::more_enumerators-returns-clause-gives g t c = grind (arith, ending_ends)

pub expressions::rises-loop-alloc-init : goal.expressions::rises-loop-alloc-init
expressions::rises-loop-alloc-init g t c = (grind (arith, following_from), record { same = refl; onward = omega arith })

pub expressions::rises-loop-alloc-preserved : goal.expressions::rises-loop-alloc-preserved
expressions::rises-loop-alloc-preserved g t c = (
  following_next _ _ c.loop-alloc.c.all c.rise.new.c.all c.loop-alloc.c.at c.rise.new.c.at (expr_of c.loop-alloc.e) (expr_of c.in_ok-e.e) c.loop-alloc.s c.rise.new.s c.goes_on_expr.result _
      c.loop-alloc.invariant.0 c.goes_on_expr.ensures.is c.loop-alloc-test.true c.goes_on_expr.ensures.room c.in_ok-e.ensures.gives c.rise.ensures.onward.same c.in_ok-e.ensures.further,
  record { same = c.rise.ensures.onward.same ∙ c.loop-alloc.invariant.1.same; onward = omega (arith, c.rise.ensures.onward.onward, c.loop-alloc.invariant.1.onward) },
)

pub expressions::rises-returns-in_err-e-clause-gives : goal.expressions::rises-returns-in_err-e-clause-gives
expressions::rises-returns-in_err-e-clause-gives g t c = grind (arith, following_fails)

pub expressions::rises-returns-clause-gives : goal.expressions::rises-returns-clause-gives
expressions::rises-returns-clause-gives g t c = grind (arith, following_ends)

pub initialisers::more_designators-loop-alloc-init : goal.initialisers::more_designators-loop-alloc-init
initialisers::more_designators-loop-alloc-init g t c = (grind (arith, growing_from), record { same = refl; onward = omega arith })

pub initialisers::more_designators-loop-alloc-preserved : goal.initialisers::more_designators-loop-alloc-preserved
initialisers::more_designators-loop-alloc-preserved g t c = (grind (arith, growing_next), record { same = c.designator.ensures.onward.same ∙ c.loop-alloc.invariant.1.same; onward = omega (arith, c.designator.ensures.onward.onward, c.loop-alloc.invariant.1.onward) })

pub initialisers::more_designators-returns-in_err-d-clause-gives : goal.initialisers::more_designators-returns-in_err-d-clause-gives
initialisers::more_designators-returns-in_err-d-clause-gives g t c = grind (arith, growing_stops)

pub initialisers::more_designators-returns-clause-gives : goal.initialisers::more_designators-returns-clause-gives
initialisers::more_designators-returns-clause-gives g t c = grind (arith, growing_ends)

pub initialisers::more_items-loop-alloc-init : goal.initialisers::more_items-loop-alloc-init
initialisers::more_items-loop-alloc-init g t c = (grind (arith, ending_from), record { same = refl; onward = omega arith })

pub initialisers::more_items-loop-alloc-preserved : goal.initialisers::more_items-loop-alloc-preserved
initialisers::more_items-loop-alloc-preserved g t c = (grind (arith, ending_next), record { same = c.next_item.ensures.onward.same ∙ c.loop-alloc.invariant.1.same; onward = omega (arith, c.next_item.ensures.onward.onward, c.loop-alloc.invariant.1.onward) })

pub initialisers::more_items-returns-in_err-i-clause-gives : goal.initialisers::more_items-returns-in_err-i-clause-gives
initialisers::more_items-returns-in_err-i-clause-gives g t c = grind (arith, ending_stops)

pub initialisers::more_items-returns-in-None-clause-gives : goal.initialisers::more_items-returns-in-None-clause-gives
initialisers::more_items-returns-in-None-clause-gives g t c = grind (arith, ending_last)

pub initialisers::more_items-returns-clause-gives : goal.initialisers::more_items-returns-clause-gives
initialisers::more_items-returns-clause-gives g t c = grind (arith, ending_ends)

pub members::more_member_declarators-loop-alloc-init : goal.members::more_member_declarators-loop-alloc-init
members::more_member_declarators-loop-alloc-init g t c = (grind (arith, growing_from), record { same = refl; onward = omega arith })

pub members::more_member_declarators-loop-alloc-preserved : goal.members::more_member_declarators-loop-alloc-preserved
members::more_member_declarators-loop-alloc-preserved g t c = (grind (arith, growing_next), record { same = c.next_member_declarator.ensures.onward.same ∙ c.loop-alloc.invariant.1.same; onward = omega (arith, c.next_member_declarator.ensures.onward.onward, c.loop-alloc.invariant.1.onward) })

pub members::more_member_declarators-returns-in_err-d-clause-gives : goal.members::more_member_declarators-returns-in_err-d-clause-gives
members::more_member_declarators-returns-in_err-d-clause-gives g t c = grind (arith, growing_stops)

pub members::more_member_declarators-returns-clause-gives : goal.members::more_member_declarators-returns-clause-gives
members::more_member_declarators-returns-clause-gives g t c = grind (arith, growing_ends)

pub parameters::more_parameters-loop-alloc-init : goal.parameters::more_parameters-loop-alloc-init
parameters::more_parameters-loop-alloc-init g t c = (grind (arith, ending_from), record { same = refl; onward = omega arith })

pub parameters::more_parameters-loop-alloc-preserved : goal.parameters::more_parameters-loop-alloc-preserved
parameters::more_parameters-loop-alloc-preserved g t c = (grind (arith, ending_next), record { same = c.next_parameter.ensures.onward.same ∙ c.loop-alloc.invariant.1.same; onward = omega (arith, c.next_parameter.ensures.onward.onward, c.loop-alloc.invariant.1.onward) })

pub parameters::more_parameters-returns-in_err-p-clause-gives : goal.parameters::more_parameters-returns-in_err-p-clause-gives
parameters::more_parameters-returns-in_err-p-clause-gives g t c = grind (arith, ending_stops)

pub parameters::more_parameters-returns-clause-gives : goal.parameters::more_parameters-returns-clause-gives
parameters::more_parameters-returns-clause-gives g t c = grind (arith, ending_ends)

pub specifier_lists::more_members-loop-alloc-init : goal.specifier_lists::more_members-loop-alloc-init
specifier_lists::more_members-loop-alloc-init g t c = (grind (arith, growing_from), record { same = refl; onward = omega arith })

pub specifier_lists::more_members-loop-alloc-preserved : goal.specifier_lists::more_members-loop-alloc-preserved
specifier_lists::more_members-loop-alloc-preserved g t c = (grind (arith, growing_next), record { same = c.member.ensures.onward.same ∙ c.loop-alloc.invariant.1.same; onward = omega (arith, c.member.ensures.onward.onward, c.loop-alloc.invariant.1.onward) })

pub specifier_lists::more_members-returns-in_err-m-clause-gives : goal.specifier_lists::more_members-returns-in_err-m-clause-gives
specifier_lists::more_members-returns-in_err-m-clause-gives g t c = grind (arith, growing_stops)

pub specifier_lists::more_members-returns-clause-gives : goal.specifier_lists::more_members-returns-clause-gives
specifier_lists::more_members-returns-clause-gives g t c = grind (arith, growing_ends)

pub specifier_lists::more_specifiers-loop-alloc-init : goal.specifier_lists::more_specifiers-loop-alloc-init
specifier_lists::more_specifiers-loop-alloc-init g t c = (grind (arith, specifying_from), record { same = refl; onward = omega arith }, grind arith)

pub specifier_lists::more_specifiers-loop-alloc-preserved : goal.specifier_lists::more_specifiers-loop-alloc-preserved
specifier_lists::more_specifiers-loop-alloc-preserved g t c = (grind (arith, specifying_next), record { same = c.specifier.ensures.onward.same ∙ c.loop-alloc.invariant.1.same; onward = omega (arith, c.specifier.ensures.onward.onward, c.loop-alloc.invariant.1.onward) }, grind (arith, typed_more))

pub specifier_lists::more_specifiers-returns-in_err-x-clause-gives : goal.specifier_lists::more_specifiers-returns-in_err-x-clause-gives
specifier_lists::more_specifiers-returns-in_err-x-clause-gives g t c = grind (arith, specifying_stops)

pub specifier_lists::more_specifiers-returns-clause-gives : goal.specifier_lists::more_specifiers-returns-clause-gives
specifier_lists::more_specifiers-returns-clause-gives g t c = grind (arith, specifying_ends)
