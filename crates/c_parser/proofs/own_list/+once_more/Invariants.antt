use Rattle.c_tree.specs.View.{expr_of, specifier_of, member_of, member_declarator_of, enumerator_of, item_of, designator_of}
use Rattle.c_tree.specs.Scoped.{after_expr, after_specifier, after_member, after_member_declarator, after_enumerator, after_item, after_designator}
use Rattle.c_parser.specs.OwnList.{Reaches}
use Rattle.c_parser.proofs.own_list.+once_more.Given as goal

abbrev pub invariant-declare_exprs-loop-x : goal.invariant-declare_exprs-loop-x
invariant-declare_exprs-loop-x l = Reaches (λ ds x. after_expr ds (expr_of x)) l.fn.s l.xs l.x-index l.s

abbrev pub invariant-declare_specifiers-loop-x : goal.invariant-declare_specifiers-loop-x
invariant-declare_specifiers-loop-x l = Reaches (λ ds x. after_specifier ds (specifier_of x)) l.fn.s l.xs l.x-index l.s

abbrev pub invariant-declare_members-loop-x : goal.invariant-declare_members-loop-x
invariant-declare_members-loop-x l = Reaches (λ ds x. after_member ds (member_of x)) l.fn.s l.xs l.x-index l.s

abbrev pub invariant-declare_member_declarators-loop-x : goal.invariant-declare_member_declarators-loop-x
invariant-declare_member_declarators-loop-x l = Reaches (λ ds x. after_member_declarator ds (member_declarator_of x)) l.fn.s l.xs l.x-index l.s

abbrev pub invariant-declare_enumerators-loop-x : goal.invariant-declare_enumerators-loop-x
invariant-declare_enumerators-loop-x l = Reaches (λ ds x. after_enumerator ds (enumerator_of x)) l.fn.s l.xs l.x-index l.s

abbrev pub invariant-declare_items-loop-x : goal.invariant-declare_items-loop-x
invariant-declare_items-loop-x l = Reaches (λ ds x. after_item ds (item_of x)) l.fn.s l.xs l.x-index l.s

abbrev pub invariant-declare_designators-loop-x : goal.invariant-declare_designators-loop-x
invariant-declare_designators-loop-x l = Reaches (λ ds x. after_designator ds (designator_of x)) l.fn.s l.xs l.x-index l.s
