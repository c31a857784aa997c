use Rattle.std.proofs.Common.{◌≡◌, drop}
use Rattle.cil_tree.specs.Text.{concat_each}
use Rattle.cil_printer.specs.Plain.{prints}
use Rattle.cil_printer.specs.Parts.{global_lines}
use Rattle.cil_printer.specs.Seen.{tree_of}
use Rattle.cil_printer.proofs.program.Program.push_globals.Given as goal

abbrev pub invariant-loop-i : goal.invariant-loop-i
invariant-loop-i l = prints l.out 0 (concat_each (global_lines l.part (tree_of l.self)) (drop l.i (tree_of l.self).globals)) ≡ prints l.fn.out 0 (concat_each (global_lines l.part (tree_of l.self)) (tree_of l.self).globals)
