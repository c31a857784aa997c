use Rattle.std.proofs.Common.{◌≡◌, ◌+◌, ◌*◌, drop}
use Rattle.cil_printer.specs.Output.{puts}
use Rattle.cil_printer.specs.Seen.{tree_of}
use Rattle.cil_printer.specs.Sides.{following, type_parts}
use Rattle.cil_printer.proofs.program.Program.+after.Given as goal

abbrev pub decreases-push_after : goal.decreases-push_after
decreases-push_after l = 8 * l.t.0 + 5

abbrev pub decreases-write_after : goal.decreases-write_after
decreases-write_after l = 8 * l.t.0 + 4

abbrev pub decreases-push_parameters : goal.decreases-push_parameters
decreases-push_parameters l = 8 * l.list.of.0 + 3

abbrev pub decreases-push_listed : goal.decreases-push_listed
decreases-push_listed l = 8 * l.list.of.0 + 2

abbrev pub decreases-push_types : goal.decreases-push_types
decreases-push_types l = 8 * l.of.0 + 1

abbrev pub decreases-push_following : goal.decreases-push_following
decreases-push_following l = 8 * l.of.0

abbrev pub decreases-push_type : goal.decreases-push_type
decreases-push_type l = 8 * l.t.0 + 6

abbrev pub invariant-push_following-loop-i : goal.invariant-push_following-loop-i
invariant-push_following-loop-i l = puts l.out (following (type_parts (tree_of l.self) (drop l.i l.rest))) ≡ puts l.fn.out (following (type_parts (tree_of l.self) l.rest))
