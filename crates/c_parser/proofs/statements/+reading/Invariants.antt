-- The measures of the readings of statements, and what the loop over the items of a block has read.
use Rattle.std.proofs.Common.{◌≡◌, ◌+◌, ◌*◌, ◌-◌, length, map, []}
use Rattle.cil_base.specs.declared.tokens.Punctuator.TheVariants.{RightBrace}
use Rattle.c_tree.specs.UnitView.{block_item_of}
use Rattle.c_cursor.specs.Lexemes.{ahead}
use Rattle.c_cursor.specs.Classes.{next_is_not}
use Rattle.c_cursor.specs.Lexemes.{Onward}
use Rattle.c_exprs.specs.ListSteps.{Growing}
use Rattle.c_exprs.specs.DeclaratorReading.{outer_of}
use Rattle.c_parser.specs.StatementReading.{item, items}
use Rattle.c_parser.specs.UnitReading.{lower}
use Rattle.c_parser.proofs.statements.+reading.Given as goal

abbrev pub decreases-statement_below : goal.decreases-statement_below
decreases-statement_below g l = 13 * l.height + 0

abbrev pub decreases-inner_below : goal.decreases-inner_below
decreases-inner_below g l = 13 * l.height + 1

abbrev pub decreases-controlled : goal.decreases-controlled
decreases-controlled g l = 13 * l.height + 2

abbrev pub decreases-labelled : goal.decreases-labelled
decreases-labelled g l = 13 * l.height + 2

abbrev pub decreases-case_behind : goal.decreases-case_behind
decreases-case_behind g l = 13 * l.height + 2

abbrev pub decreases-default_behind : goal.decreases-default_behind
decreases-default_behind g l = 13 * l.height + 2

abbrev pub decreases-else_behind : goal.decreases-else_behind
decreases-else_behind g l = 13 * l.height + 2

abbrev pub decreases-if_rest : goal.decreases-if_rest
decreases-if_rest g l = 13 * l.height + 3

abbrev pub decreases-if_behind : goal.decreases-if_behind
decreases-if_behind g l = 13 * l.height + 4

abbrev pub decreases-switch_behind : goal.decreases-switch_behind
decreases-switch_behind g l = 13 * l.height + 3

abbrev pub decreases-while_behind : goal.decreases-while_behind
decreases-while_behind g l = 13 * l.height + 3

abbrev pub decreases-do_behind : goal.decreases-do_behind
decreases-do_behind g l = 13 * l.height + 2

abbrev pub decreases-for_body : goal.decreases-for_body
decreases-for_body g l = 13 * l.height + 2

abbrev pub decreases-for_rest : goal.decreases-for_rest
decreases-for_rest g l = 13 * l.height + 3

abbrev pub decreases-for_inside : goal.decreases-for_inside
decreases-for_inside g l = 13 * l.height + 4

abbrev pub decreases-for_behind : goal.decreases-for_behind
decreases-for_behind g l = 13 * l.height + 5

abbrev pub decreases-doing : goal.decreases-doing
decreases-doing g l = 13 * l.height + 2

abbrev pub decreases-typed_item : goal.decreases-typed_item
decreases-typed_item g l = 13 * l.height + 3

abbrev pub decreases-untyped_item : goal.decreases-untyped_item
decreases-untyped_item g l = 13 * l.height + 3

abbrev pub decreases-item : goal.decreases-item
decreases-item g l = 13 * l.height + 4

abbrev pub decreases-items : goal.decreases-items
decreases-items g l = 13 * l.height + 5

abbrev pub decreases-items_closed : goal.decreases-items_closed
decreases-items_closed g l = 13 * l.height + 6

abbrev pub decreases-block_behind : goal.decreases-block_behind
decreases-block_behind g l = 13 * l.height + 7

abbrev pub decreases-behind_word : goal.decreases-behind_word
decreases-behind_word g l = 13 * l.height + 8

abbrev pub decreases-worded : goal.decreases-worded
decreases-worded g l = 13 * l.height + 9

abbrev pub decreases-named : goal.decreases-named
decreases-named g l = 13 * l.height + 3

abbrev pub decreases-unnamed : goal.decreases-unnamed
decreases-unnamed g l = 13 * l.height + 10

abbrev pub decreases-statement_at : goal.decreases-statement_at
decreases-statement_at g l = 13 * l.height + 11

abbrev pub decreases-statement : goal.decreases-statement
decreases-statement g l = 13 * l.height + 12

abbrev pub invariant-items-loop-alloc : goal.invariant-items-loop-alloc
invariant-items-loop-alloc g l = Growing block_item_of (λ y. next_is_not RightBrace) (item l.height (lower l.height)) l.c.all l.c.at l.is l.s (items l.height (lower l.height) l.fn.s (ahead l.fn.c)) × Onward l.fn.c l.c × (outer_of l.s ≡ outer_of l.fn.s)

abbrev pub decreases-items-loop-alloc : goal.decreases-items-loop-alloc
decreases-items-loop-alloc g l = length l.c.all - l.c.at
