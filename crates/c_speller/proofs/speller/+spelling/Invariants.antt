use Rattle.c_tree.specs.View.{expr_of, specifier_of, member_of, member_declarator_of, enumerator_of, parameter_of, item_of, designator_of}
use Rattle.c_tree.specs.Spelling.{spell_expr, spell_specifier, spell_member, spell_member_declarator, spell_enumerator, spell_parameter, spell_item, spell_designator}
use Rattle.c_speller.specs.Added.{AddedSoFar, CommasSoFar}
use Rattle.c_speller.proofs.speller.+spelling.Given as goal

abbrev pub invariant-put_designators-loop-x : goal.invariant-put_designators-loop-x
invariant-put_designators-loop-x l = AddedSoFar l.from.names.now l.fn.out l.out (λ d. spell_designator (designator_of d)) l.xs l.x-index

abbrev pub invariant-put_specifiers-loop-x : goal.invariant-put_specifiers-loop-x
invariant-put_specifiers-loop-x l = AddedSoFar l.from.names.now l.fn.out l.out (λ x. spell_specifier (specifier_of x)) l.xs l.x-index

abbrev pub invariant-put_members-loop-x : goal.invariant-put_members-loop-x
invariant-put_members-loop-x l = AddedSoFar l.from.names.now l.fn.out l.out (λ x. spell_member (member_of x)) l.xs l.x-index

abbrev pub invariant-put_exprs-loop-x : goal.invariant-put_exprs-loop-x
invariant-put_exprs-loop-x l = CommasSoFar l.from.names.now l.fn.out l.out (λ x. spell_expr (expr_of x)) l.xs l.x-index l.is_more

abbrev pub invariant-put_member_declarators-loop-x : goal.invariant-put_member_declarators-loop-x
invariant-put_member_declarators-loop-x l = CommasSoFar l.from.names.now l.fn.out l.out (λ x. spell_member_declarator (member_declarator_of x)) l.xs l.x-index l.is_more

abbrev pub invariant-put_enumerators-loop-x : goal.invariant-put_enumerators-loop-x
invariant-put_enumerators-loop-x l = CommasSoFar l.from.names.now l.fn.out l.out (λ x. spell_enumerator (enumerator_of x)) l.xs l.x-index l.is_more

abbrev pub invariant-put_parameters-loop-x : goal.invariant-put_parameters-loop-x
invariant-put_parameters-loop-x l = CommasSoFar l.from.names.now l.fn.out l.out (λ x. spell_parameter (parameter_of x)) l.xs l.x-index l.is_more

abbrev pub invariant-put_items-loop-x : goal.invariant-put_items-loop-x
invariant-put_items-loop-x l = CommasSoFar l.from.names.now l.fn.out l.out (λ x. spell_item (item_of x)) l.xs l.x-index l.is_more
