use Rattle.std.proofs.Common.{◌≡◌, drop}
use Rattle.cil_tree.specs.Text.{concat_each}
use Rattle.cil_printer.specs.Plain.{prints}
use Rattle.cil_printer.specs.Parts.{aggregate_lines}
use Rattle.cil_printer.specs.Seen.{tree_of}
use Rattle.cil_printer.proofs.program.Program.push_aggregates.Given as goal

abbrev pub invariant-loop-a : goal.invariant-loop-a
invariant-loop-a l = prints l.out 0 (concat_each (aggregate_lines l.part (tree_of l.self)) (drop l.a (tree_of l.self).graph.aggs)) ≡ prints l.fn.out 0 (concat_each (aggregate_lines l.part (tree_of l.self)) (tree_of l.self).graph.aggs)
