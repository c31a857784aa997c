use Rattle.c_tree.specs.Capped.{Highest}
use Rattle.c_tree.specs.View.{expr_of, specifier_of, member_of, member_declarator_of, enumerator_of, parameter_of, item_of, designator_of}
use Rattle.c_tree.specs.Height.{expr_height, specifier_height, member_height, member_declarator_height, enumerator_height, parameter_height, item_height, designator_height}
use Rattle.c_height.proofs.measure.+height.Given as goal

abbrev pub invariant-height_of_exprs-loop-x : goal.invariant-height_of_exprs-loop-x
invariant-height_of_exprs-loop-x l = Highest (λ x. expr_height (expr_of x)) l.xs l.x-index l.most

abbrev pub invariant-height_of_specifiers-loop-x : goal.invariant-height_of_specifiers-loop-x
invariant-height_of_specifiers-loop-x l = Highest (λ x. specifier_height (specifier_of x)) l.xs l.x-index l.most

abbrev pub invariant-height_of_members-loop-x : goal.invariant-height_of_members-loop-x
invariant-height_of_members-loop-x l = Highest (λ x. member_height (member_of x)) l.xs l.x-index l.most

abbrev pub invariant-height_of_member_declarators-loop-x : goal.invariant-height_of_member_declarators-loop-x
invariant-height_of_member_declarators-loop-x l = Highest (λ x. member_declarator_height (member_declarator_of x)) l.xs l.x-index l.most

abbrev pub invariant-height_of_enumerators-loop-x : goal.invariant-height_of_enumerators-loop-x
invariant-height_of_enumerators-loop-x l = Highest (λ x. enumerator_height (enumerator_of x)) l.xs l.x-index l.most

abbrev pub invariant-height_of_parameters-loop-x : goal.invariant-height_of_parameters-loop-x
invariant-height_of_parameters-loop-x l = Highest (λ x. parameter_height (parameter_of x)) l.xs l.x-index l.most

abbrev pub invariant-height_of_items-loop-x : goal.invariant-height_of_items-loop-x
invariant-height_of_items-loop-x l = Highest (λ x. item_height (item_of x)) l.xs l.x-index l.most

abbrev pub invariant-height_of_designators-loop-x : goal.invariant-height_of_designators-loop-x
invariant-height_of_designators-loop-x l = Highest (λ x. designator_height (designator_of x)) l.xs l.x-index l.most
