use Rattle.c_tree.specs.Told.{AllSoFar}
use Rattle.c_tree.specs.View.{specifier_of, member_of, member_declarator_of, enumerator_of, parameter_of, item_of, designator_of}
use Rattle.c_tree.specs.Levels.{levelled_specifier, levelled_member, levelled_member_declarator, levelled_enumerator, levelled_parameter, levelled_item, levelled_designator}
use Rattle.c_tree.proofs.ToldLemmas.{is_argument}
use Rattle.c_levels.proofs.levelling.+levelling.Given as goal

abbrev pub invariant-arguments_fit-loop-x : goal.invariant-arguments_fit-loop-x
invariant-arguments_fit-loop-x l = AllSoFar is_argument l.xs l.x-index l.all

abbrev pub invariant-specifiers_fit-loop-x : goal.invariant-specifiers_fit-loop-x
invariant-specifiers_fit-loop-x l = AllSoFar (λ x. levelled_specifier (specifier_of x)) l.xs l.x-index l.all

abbrev pub invariant-members_fit-loop-x : goal.invariant-members_fit-loop-x
invariant-members_fit-loop-x l = AllSoFar (λ x. levelled_member (member_of x)) l.xs l.x-index l.all

abbrev pub invariant-member_declarators_fit-loop-x : goal.invariant-member_declarators_fit-loop-x
invariant-member_declarators_fit-loop-x l = AllSoFar (λ x. levelled_member_declarator (member_declarator_of x)) l.xs l.x-index l.all

abbrev pub invariant-enumerators_fit-loop-x : goal.invariant-enumerators_fit-loop-x
invariant-enumerators_fit-loop-x l = AllSoFar (λ x. levelled_enumerator (enumerator_of x)) l.xs l.x-index l.all

abbrev pub invariant-parameters_fit-loop-x : goal.invariant-parameters_fit-loop-x
invariant-parameters_fit-loop-x l = AllSoFar (λ x. levelled_parameter (parameter_of x)) l.xs l.x-index l.all

abbrev pub invariant-items_fit-loop-x : goal.invariant-items_fit-loop-x
invariant-items_fit-loop-x l = AllSoFar (λ x. levelled_item (item_of x)) l.xs l.x-index l.all

abbrev pub invariant-designators_fit-loop-x : goal.invariant-designators_fit-loop-x
invariant-designators_fit-loop-x l = AllSoFar (λ x. levelled_designator (designator_of x)) l.xs l.x-index l.all
