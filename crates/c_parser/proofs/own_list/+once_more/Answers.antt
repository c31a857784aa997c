-- The steps of the loops over lists.
use Rattle.c_tree.specs.View.{expr_of, specifier_of, member_of, member_declarator_of, enumerator_of, item_of, designator_of}
use Rattle.c_tree.specs.Scoped.{after_expr, after_specifier, after_member, after_member_declarator, after_enumerator, after_item, after_designator}
use Rattle.c_parser.proofs.OwnListLemmas.{reaches_step}
use Rattle.c_parser.proofs.own_list.+once_more.Goals as goal

pub declare_exprs-loop-x-preserved : goal.declare_exprs-loop-x-preserved
declare_exprs-loop-x-preserved t c = reaches_step (λ ds x. after_expr ds (expr_of x)) c.args.s.now c.loop-x.s c.declare_expr.new.s c.args.xs.now c.loop-x.x-index c.x-item.result c.loop-x-test.true c.x-item.is c.in_ok-declare_expr.ensures c.loop-x.invariant

pub declare_specifiers-loop-x-preserved : goal.declare_specifiers-loop-x-preserved
declare_specifiers-loop-x-preserved t c = reaches_step (λ ds x. after_specifier ds (specifier_of x)) c.args.s.now c.loop-x.s c.declare_specifier.new.s c.args.xs.now c.loop-x.x-index c.x-item.result c.loop-x-test.true c.x-item.is c.in_ok-declare_specifier.ensures c.loop-x.invariant

pub declare_members-loop-x-preserved : goal.declare_members-loop-x-preserved
declare_members-loop-x-preserved t c = reaches_step (λ ds x. after_member ds (member_of x)) c.args.s.now c.loop-x.s c.declare_member.new.s c.args.xs.now c.loop-x.x-index c.x-item.result c.loop-x-test.true c.x-item.is c.in_ok-declare_member.ensures c.loop-x.invariant

pub declare_member_declarators-loop-x-preserved : goal.declare_member_declarators-loop-x-preserved
declare_member_declarators-loop-x-preserved t c = reaches_step (λ ds x. after_member_declarator ds (member_declarator_of x)) c.args.s.now c.loop-x.s c.declare_member_declarator.new.s c.args.xs.now c.loop-x.x-index c.x-item.result c.loop-x-test.true c.x-item.is c.in_ok-declare_member_declarator.ensures c.loop-x.invariant

pub declare_enumerators-loop-x-preserved : goal.declare_enumerators-loop-x-preserved
declare_enumerators-loop-x-preserved t c = reaches_step (λ ds x. after_enumerator ds (enumerator_of x)) c.args.s.now c.loop-x.s c.declare_enumerator.new.s c.args.xs.now c.loop-x.x-index c.x-item.result c.loop-x-test.true c.x-item.is c.in_ok-declare_enumerator.ensures c.loop-x.invariant

pub declare_items-loop-x-preserved : goal.declare_items-loop-x-preserved
declare_items-loop-x-preserved t c = reaches_step (λ ds x. after_item ds (item_of x)) c.args.s.now c.loop-x.s c.declare_item.new.s c.args.xs.now c.loop-x.x-index c.x-item.result c.loop-x-test.true c.x-item.is c.in_ok-declare_item.ensures c.loop-x.invariant

pub declare_designators-loop-x-preserved : goal.declare_designators-loop-x-preserved
declare_designators-loop-x-preserved t c = reaches_step (λ ds x. after_designator ds (designator_of x)) c.args.s.now c.loop-x.s c.declare_designator.new.s c.args.xs.now c.loop-x.x-index c.x-item.result c.loop-x-test.true c.x-item.is c.in_ok-declare_designator.ensures c.loop-x.invariant
