use Rattle.std.proofs.Common.{◌≡◌, drop}
use Rattle.cil_printer.specs.Output.{puts}
use Rattle.cil_printer.specs.Sides.{following}
use Rattle.cil_printer.specs.Seen.{tree_of, named_parts}
use Rattle.cil_printer.proofs.program.Program.push_following_parameters.Given as goal

abbrev pub invariant-loop-i : goal.invariant-loop-i
invariant-loop-i l = puts l.out (following (named_parts (tree_of l.self) (drop l.i l.types) (drop l.i l.names))) ≡ puts l.fn.out (following (named_parts (tree_of l.self) l.types l.names))
