use Rattle.std.proofs.Common.{◌≡◌, drop}
use Rattle.cil_printer.specs.Output.{puts}
use Rattle.cil_printer.specs.Sides.{following}
use Rattle.cil_printer.specs.Seen.{scope_in, nodes_in, exp_parts}
use Rattle.cil_printer.proofs.function.Function.push_following_arguments.Given as goal

abbrev pub invariant-loop-i : goal.invariant-loop-i
invariant-loop-i l = puts l.out (following (exp_parts (scope_in l.self) (nodes_in l.self) (drop l.i l.arguments))) ≡ puts l.fn.out (following (exp_parts (scope_in l.self) (nodes_in l.self) l.arguments))
