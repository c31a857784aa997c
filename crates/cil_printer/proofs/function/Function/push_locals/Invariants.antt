use Rattle.std.proofs.Common.{◌≡◌, drop, length, map}
use Rattle.cil_tree.specs.Text.{local_line}
use Rattle.cil_printer.specs.Plain.{prints}
use Rattle.cil_printer.specs.Seen.{scope_in}
use Rattle.cil_printer.proofs.function.Function.push_locals.Given as goal

abbrev pub invariant-loop-i : goal.invariant-loop-i
invariant-loop-i l = prints l.out 1 (map (local_line (scope_in l.self).program) (drop l.i (scope_in l.self).locals)) ≡ prints l.fn.out 1 (map (local_line (scope_in l.self).program) (drop (length l.params) (scope_in l.self).locals))
