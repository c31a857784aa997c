use Rattle.cil_scan.specs.Said.{all_lines}
use Rattle.cil_scan.specs.Lines.{CollectsLines}
use Rattle.cil_scan.proofs.lines.lines_of.Given as goal

abbrev pub invariant-loop-at : goal.invariant-loop-at
invariant-loop-at l = CollectsLines l.bytes l.start l.at (all_lines l.lines.items)
