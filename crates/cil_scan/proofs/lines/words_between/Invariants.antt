use Rattle.cil_scan.specs.Said.{all_said}
use Rattle.cil_scan.specs.Lines.{CollectsWords}
use Rattle.cil_scan.proofs.lines.words_between.Given as goal

abbrev pub invariant-loop-at : goal.invariant-loop-at
invariant-loop-at l = CollectsWords l.text l.start l.at (all_said l.words.items)
