use Rattle.std.proofs.Common.{◌≡◌, drop, map}
use Rattle.cil_tree.specs.Text.{enumerator_line}
use Rattle.cil_printer.specs.Plain.{prints}
use Rattle.cil_printer.specs.Seen.{tree_of}
use Rattle.cil_printer.proofs.program.Program.push_enumerators.Given as goal

abbrev pub invariant-loop-i : goal.invariant-loop-i
invariant-loop-i l = prints l.out 1 (map (enumerator_line (tree_of l.self)) (drop l.i l.ms)) ≡ prints l.fn.out 1 (map (enumerator_line (tree_of l.self)) l.ms)
