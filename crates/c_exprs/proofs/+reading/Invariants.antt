-- The measure is the height that is left, and then how far a reading stands from those below it.
use Rattle.std.proofs.Common.{◌≡◌, ◌-◌, ◌+◌, ◌*◌, length, map, false}
use Rattle.cil_base.specs.declared.tokens.Punctuator.TheVariants.{RightBrace, Ellipsis}
use Rattle.c_tree.specs.declared.level.Level.TheVariants.{Assignment as AssignmentLevel}
use Rattle.c_tree.specs.View.{expr_of, member_of, member_declarator_of, enumerator_of, specifier_of, parameter_of, declarator_of, designator_of, item_of}
use Rattle.c_cursor.specs.Lexemes.{Onward, ahead}
use Rattle.c_cursor.specs.Readers.{pure}
use Rattle.c_cursor.specs.Classes.{next_is, next_is_not, is_sign, take}
use Rattle.c_exprs.specs.Classes.{is_designation}
use Rattle.c_exprs.specs.GoesOn.{goes_on_expr, goes_on_declarator}
use Rattle.c_exprs.specs.Subs.{comma_ahead, behind_comma, more_listed, more_listed_to}
use Rattle.c_exprs.specs.Reading.{below}
use Rattle.c_exprs.specs.ExprReading.{rise, rises}
use Rattle.c_exprs.specs.SpecifierReading.{member, more_members, member_declarator, enumerator, more_specifiers, some_typed}
use Rattle.c_exprs.specs.DeclaratorReading.{parameter, derivation, derivations}
use Rattle.c_exprs.specs.InitReading.{designator, more_designators, item}
use Rattle.c_exprs.specs.ListSteps.{Following, Growing, Ending, Specifying}
use Rattle.c_exprs.proofs.+reading.Given as goal

abbrev pub decreases-argument_list::arguments : goal.decreases-argument_list::arguments
decreases-argument_list::arguments g l = 19 * l.height + 4

abbrev pub decreases-argument_list::more_arguments : goal.decreases-argument_list::more_arguments
decreases-argument_list::more_arguments g l = 19 * l.height + 2

abbrev pub decreases-argument_list::next_argument : goal.decreases-argument_list::next_argument
decreases-argument_list::next_argument g l = 19 * l.height + 1

abbrev pub decreases-below::declarator_below : goal.decreases-below::declarator_below
decreases-below::declarator_below g l = 19 * l.height + 0

abbrev pub decreases-below::expr_below : goal.decreases-below::expr_below
decreases-below::expr_below g l = 19 * l.height + 0

abbrev pub decreases-below::items_below : goal.decreases-below::items_below
decreases-below::items_below g l = 19 * l.height + 0

abbrev pub decreases-below::literal_below : goal.decreases-below::literal_below
decreases-below::literal_below g l = 19 * l.height + 0

abbrev pub decreases-below::parenthesised_below : goal.decreases-below::parenthesised_below
decreases-below::parenthesised_below g l = 19 * l.height + 0

abbrev pub decreases-below::specifiers_below : goal.decreases-below::specifiers_below
decreases-below::specifiers_below g l = 19 * l.height + 0

abbrev pub decreases-below::starred_below : goal.decreases-below::starred_below
decreases-below::starred_below g l = 19 * l.height + 0

abbrev pub decreases-bounds::bound : goal.decreases-bounds::bound
decreases-bounds::bound g l = 19 * l.height + 6

abbrev pub decreases-bounds::qualified_bound : goal.decreases-bounds::qualified_bound
decreases-bounds::qualified_bound g l = 19 * l.height + 5

abbrev pub decreases-bounds::star_bound : goal.decreases-bounds::star_bound
decreases-bounds::star_bound g l = 19 * l.height + 2

abbrev pub decreases-declarators::array_behind : goal.decreases-declarators::array_behind
decreases-declarators::array_behind g l = 19 * l.height + 7

abbrev pub decreases-declarators::declarator : goal.decreases-declarators::declarator
decreases-declarators::declarator g l = 19 * l.height + 12

abbrev pub decreases-declarators::derivation : goal.decreases-declarators::derivation
decreases-declarators::derivation g l = 19 * l.height + 9

abbrev pub decreases-declarators::derivations : goal.decreases-declarators::derivations
decreases-declarators::derivations g l = 19 * l.height + 10

abbrev pub decreases-declarators::direct : goal.decreases-declarators::direct
decreases-declarators::direct g l = 19 * l.height + 11

abbrev pub decreases-declarators::inner : goal.decreases-declarators::inner
decreases-declarators::inner g l = 19 * l.height + 10

abbrev pub decreases-declarators::pointer : goal.decreases-declarators::pointer
decreases-declarators::pointer g l = 19 * l.height + 1

abbrev pub decreases-enumerators::enumerator : goal.decreases-enumerators::enumerator
decreases-enumerators::enumerator g l = 19 * l.height + 2

abbrev pub decreases-enumerators::enumerators : goal.decreases-enumerators::enumerators
decreases-enumerators::enumerators g l = 19 * l.height + 5

abbrev pub decreases-enumerators::more_enumerators : goal.decreases-enumerators::more_enumerators
decreases-enumerators::more_enumerators g l = 19 * l.height + 4

abbrev pub decreases-enumerators::next_enumerator : goal.decreases-enumerators::next_enumerator
decreases-enumerators::next_enumerator g l = 19 * l.height + 3

abbrev pub decreases-expressions::expression : goal.decreases-expressions::expression
decreases-expressions::expression g l = 19 * l.height + 9

abbrev pub decreases-expressions::literal_of : goal.decreases-expressions::literal_of
decreases-expressions::literal_of g l = 19 * l.height + 9

abbrev pub decreases-expressions::parenthesised : goal.decreases-expressions::parenthesised
decreases-expressions::parenthesised g l = 19 * l.height + 9

abbrev pub decreases-expressions::rise : goal.decreases-expressions::rise
decreases-expressions::rise g l = 19 * l.height + 7

abbrev pub decreases-expressions::rises : goal.decreases-expressions::rises
decreases-expressions::rises g l = 19 * l.height + 8

abbrev pub decreases-expressions::starred : goal.decreases-expressions::starred
decreases-expressions::starred g l = 19 * l.height + 9

abbrev pub decreases-expressions::to_choose : goal.decreases-expressions::to_choose
decreases-expressions::to_choose g l = 19 * l.height + 1

abbrev pub decreases-initialisers::designator : goal.decreases-initialisers::designator
decreases-initialisers::designator g l = 19 * l.height + 11

abbrev pub decreases-initialisers::initialiser_within : goal.decreases-initialisers::initialiser_within
decreases-initialisers::initialiser_within g l = 19 * l.height + 11

abbrev pub decreases-initialisers::item : goal.decreases-initialisers::item
decreases-initialisers::item g l = 19 * l.height + 15

abbrev pub decreases-initialisers::items : goal.decreases-initialisers::items
decreases-initialisers::items g l = 19 * l.height + 18

abbrev pub decreases-initialisers::more_designators : goal.decreases-initialisers::more_designators
decreases-initialisers::more_designators g l = 19 * l.height + 12

abbrev pub decreases-initialisers::more_items : goal.decreases-initialisers::more_items
decreases-initialisers::more_items g l = 19 * l.height + 17

abbrev pub decreases-initialisers::next_item : goal.decreases-initialisers::next_item
decreases-initialisers::next_item g l = 19 * l.height + 16

abbrev pub decreases-initialisers::some_designators : goal.decreases-initialisers::some_designators
decreases-initialisers::some_designators g l = 19 * l.height + 13

abbrev pub decreases-members::bit_field : goal.decreases-members::bit_field
decreases-members::bit_field g l = 19 * l.height + 1

abbrev pub decreases-members::member : goal.decreases-members::member
decreases-members::member g l = 19 * l.height + 9

abbrev pub decreases-members::member_declarator : goal.decreases-members::member_declarator
decreases-members::member_declarator g l = 19 * l.height + 3

abbrev pub decreases-members::member_declarators : goal.decreases-members::member_declarators
decreases-members::member_declarators g l = 19 * l.height + 6

abbrev pub decreases-members::member_line : goal.decreases-members::member_line
decreases-members::member_line g l = 19 * l.height + 8

abbrev pub decreases-members::more_member_declarators : goal.decreases-members::more_member_declarators
decreases-members::more_member_declarators g l = 19 * l.height + 5

abbrev pub decreases-members::next_member_declarator : goal.decreases-members::next_member_declarator
decreases-members::next_member_declarator g l = 19 * l.height + 4

abbrev pub decreases-operands::behind_parenthesis : goal.decreases-operands::behind_parenthesis
decreases-operands::behind_parenthesis g l = 19 * l.height + 5

abbrev pub decreases-operands::compound : goal.decreases-operands::compound
decreases-operands::compound g l = 19 * l.height + 2

abbrev pub decreases-operands::in_parentheses : goal.decreases-operands::in_parentheses
decreases-operands::in_parentheses g l = 19 * l.height + 1

abbrev pub decreases-operands::operand : goal.decreases-operands::operand
decreases-operands::operand g l = 19 * l.height + 6

abbrev pub decreases-operands::signed : goal.decreases-operands::signed
decreases-operands::signed g l = 19 * l.height + 1

abbrev pub decreases-operands::sizeof_operand : goal.decreases-operands::sizeof_operand
decreases-operands::sizeof_operand g l = 19 * l.height + 5

abbrev pub decreases-parameters::function_behind : goal.decreases-parameters::function_behind
decreases-parameters::function_behind g l = 19 * l.height + 7

abbrev pub decreases-parameters::more_parameters : goal.decreases-parameters::more_parameters
decreases-parameters::more_parameters g l = 19 * l.height + 3

abbrev pub decreases-parameters::next_parameter : goal.decreases-parameters::next_parameter
decreases-parameters::next_parameter g l = 19 * l.height + 2

abbrev pub decreases-parameters::parameter : goal.decreases-parameters::parameter
decreases-parameters::parameter g l = 19 * l.height + 1

abbrev pub decreases-parameters::parameters : goal.decreases-parameters::parameters
decreases-parameters::parameters g l = 19 * l.height + 4

abbrev pub decreases-parameters::prototyped : goal.decreases-parameters::prototyped
decreases-parameters::prototyped g l = 19 * l.height + 5

abbrev pub decreases-specifier_lists::behind_enum : goal.decreases-specifier_lists::behind_enum
decreases-specifier_lists::behind_enum g l = 19 * l.height + 8

abbrev pub decreases-specifier_lists::behind_struct : goal.decreases-specifier_lists::behind_struct
decreases-specifier_lists::behind_struct g l = 19 * l.height + 14

abbrev pub decreases-specifier_lists::enum_body : goal.decreases-specifier_lists::enum_body
decreases-specifier_lists::enum_body g l = 19 * l.height + 6

abbrev pub decreases-specifier_lists::members : goal.decreases-specifier_lists::members
decreases-specifier_lists::members g l = 19 * l.height + 11

abbrev pub decreases-specifier_lists::more_members : goal.decreases-specifier_lists::more_members
decreases-specifier_lists::more_members g l = 19 * l.height + 10

abbrev pub decreases-specifier_lists::more_specifiers : goal.decreases-specifier_lists::more_specifiers
decreases-specifier_lists::more_specifiers g l = 19 * l.height + 17

abbrev pub decreases-specifier_lists::specifier : goal.decreases-specifier_lists::specifier
decreases-specifier_lists::specifier g l = 19 * l.height + 16

abbrev pub decreases-specifier_lists::specifiers : goal.decreases-specifier_lists::specifiers
decreases-specifier_lists::specifiers g l = 19 * l.height + 18

abbrev pub decreases-specifier_lists::struct_body : goal.decreases-specifier_lists::struct_body
decreases-specifier_lists::struct_body g l = 19 * l.height + 12

abbrev pub decreases-type_names::braced : goal.decreases-type_names::braced
decreases-type_names::braced g l = 19 * l.height + 1

abbrev pub decreases-type_names::type_name_closed : goal.decreases-type_names::type_name_closed
decreases-type_names::type_name_closed g l = 19 * l.height + 2

abbrev pub invariant-argument_list::more_arguments-loop-alloc : goal.invariant-argument_list::more_arguments-loop-alloc
invariant-argument_list::more_arguments-loop-alloc g l = Growing expr_of (λ y. comma_ahead) (behind_comma ((below l.height).expr AssignmentLevel)) l.c.all l.c.at l.es l.s (more_listed ((below l.height).expr AssignmentLevel) (map expr_of l.fn.first, l.fn.s) (ahead l.fn.c)) × Onward l.fn.c l.c

abbrev pub decreases-argument_list::more_arguments-loop-alloc : goal.decreases-argument_list::more_arguments-loop-alloc
decreases-argument_list::more_arguments-loop-alloc g l = length l.c.all - l.c.at

abbrev pub invariant-expressions::rises-loop-alloc : goal.invariant-expressions::rises-loop-alloc
invariant-expressions::rises-loop-alloc g l = Following (λ y. goes_on_expr l.level) (rise l.height (below l.height) l.at l.level) l.c.all l.c.at (expr_of l.e) l.s (rises l.height (below l.height) l.at l.level (expr_of l.fn.x, l.fn.s) (ahead l.fn.c)) × Onward l.fn.c l.c

abbrev pub decreases-expressions::rises-loop-alloc : goal.decreases-expressions::rises-loop-alloc
decreases-expressions::rises-loop-alloc g l = length l.c.all - l.c.at

abbrev pub invariant-members::more_member_declarators-loop-alloc : goal.invariant-members::more_member_declarators-loop-alloc
invariant-members::more_member_declarators-loop-alloc g l = Growing member_declarator_of (λ y. comma_ahead) (behind_comma (member_declarator (below l.height))) l.c.all l.c.at l.ds l.s (more_listed (member_declarator (below l.height)) (map member_declarator_of l.fn.first, l.fn.s) (ahead l.fn.c)) × Onward l.fn.c l.c

abbrev pub decreases-members::more_member_declarators-loop-alloc : goal.decreases-members::more_member_declarators-loop-alloc
decreases-members::more_member_declarators-loop-alloc g l = length l.c.all - l.c.at

abbrev pub invariant-specifier_lists::more_members-loop-alloc : goal.invariant-specifier_lists::more_members-loop-alloc
invariant-specifier_lists::more_members-loop-alloc g l = Growing member_of (λ y. next_is_not RightBrace) (member (below l.height)) l.c.all l.c.at l.ms l.s (more_members (below l.height) (map member_of l.fn.first, l.fn.s) (ahead l.fn.c)) × Onward l.fn.c l.c

abbrev pub decreases-specifier_lists::more_members-loop-alloc : goal.decreases-specifier_lists::more_members-loop-alloc
decreases-specifier_lists::more_members-loop-alloc g l = length l.c.all - l.c.at

abbrev pub invariant-enumerators::more_enumerators-loop-alloc : goal.invariant-enumerators::more_enumerators-loop-alloc
invariant-enumerators::more_enumerators-loop-alloc g l = Ending enumerator_of (next_is (is_sign RightBrace)) (pure tt) (enumerator (below l.height)) l.c.all l.c.at l.es l.s (more_listed_to (next_is (is_sign RightBrace)) (pure tt) (enumerator (below l.height)) ((map enumerator_of l.fn.first, false), l.fn.s) (ahead l.fn.c)) × Onward l.fn.c l.c

abbrev pub decreases-enumerators::more_enumerators-loop-alloc : goal.decreases-enumerators::more_enumerators-loop-alloc
decreases-enumerators::more_enumerators-loop-alloc g l = length l.c.all - l.c.at

abbrev pub invariant-specifier_lists::more_specifiers-loop-alloc : goal.invariant-specifier_lists::more_specifiers-loop-alloc
invariant-specifier_lists::more_specifiers-loop-alloc g l = Specifying l.height l.form l.c.all l.c.at l.xs l.s (more_specifiers l.height (below l.height) l.form (map specifier_of l.fn.first, l.fn.s) (ahead l.fn.c)) × Onward l.fn.c l.c × (l.typed ≡ some_typed (map specifier_of l.xs))

abbrev pub decreases-specifier_lists::more_specifiers-loop-alloc : goal.decreases-specifier_lists::more_specifiers-loop-alloc
decreases-specifier_lists::more_specifiers-loop-alloc g l = length l.c.all - l.c.at

abbrev pub invariant-parameters::more_parameters-loop-alloc : goal.invariant-parameters::more_parameters-loop-alloc
invariant-parameters::more_parameters-loop-alloc g l = Ending parameter_of (next_is (is_sign Ellipsis)) (take (is_sign Ellipsis)) (parameter (below l.height)) l.c.all l.c.at l.ps l.s (more_listed_to (next_is (is_sign Ellipsis)) (take (is_sign Ellipsis)) (parameter (below l.height)) ((map parameter_of l.fn.first, false), l.fn.s) (ahead l.fn.c)) × Onward l.fn.c l.c

abbrev pub decreases-parameters::more_parameters-loop-alloc : goal.decreases-parameters::more_parameters-loop-alloc
decreases-parameters::more_parameters-loop-alloc g l = length l.c.all - l.c.at

abbrev pub invariant-declarators::derivations-loop-alloc : goal.invariant-declarators::derivations-loop-alloc
invariant-declarators::derivations-loop-alloc g l = Following (λ y. goes_on_declarator l.form) (derivation l.height (below l.height) l.form l.at) l.c.all l.c.at (declarator_of l.d) l.s (derivations l.height (below l.height) l.form l.at (declarator_of l.fn.first, l.fn.s) (ahead l.fn.c)) × Onward l.fn.c l.c

abbrev pub decreases-declarators::derivations-loop-alloc : goal.decreases-declarators::derivations-loop-alloc
decreases-declarators::derivations-loop-alloc g l = length l.c.all - l.c.at

abbrev pub invariant-initialisers::more_designators-loop-alloc : goal.invariant-initialisers::more_designators-loop-alloc
invariant-initialisers::more_designators-loop-alloc g l = Growing designator_of (λ y. next_is is_designation) (designator l.height (below l.height)) l.c.all l.c.at l.ds l.s (more_designators l.height (below l.height) (map designator_of l.fn.first, l.fn.s) (ahead l.fn.c)) × Onward l.fn.c l.c

abbrev pub decreases-initialisers::more_designators-loop-alloc : goal.decreases-initialisers::more_designators-loop-alloc
decreases-initialisers::more_designators-loop-alloc g l = length l.c.all - l.c.at

abbrev pub invariant-initialisers::more_items-loop-alloc : goal.invariant-initialisers::more_items-loop-alloc
invariant-initialisers::more_items-loop-alloc g l = Ending item_of (next_is (is_sign RightBrace)) (pure tt) (item l.height (below l.height)) l.c.all l.c.at l.is l.s (more_listed_to (next_is (is_sign RightBrace)) (pure tt) (item l.height (below l.height)) ((map item_of l.fn.first, false), l.fn.s) (ahead l.fn.c)) × Onward l.fn.c l.c

abbrev pub decreases-initialisers::more_items-loop-alloc : goal.decreases-initialisers::more_items-loop-alloc
decreases-initialisers::more_items-loop-alloc g l = length l.c.all - l.c.at
