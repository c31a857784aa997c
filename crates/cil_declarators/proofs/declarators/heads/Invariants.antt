use Rattle.std.proofs.Common.{◌≡◌, ◌≤◌, ◌-◌, [], length, drop}
use Rattle.cil_text.specs.ReadTypes.{heads}
use Rattle.cil_scan.specs.Said.{all_said}
use Rattle.cil_declarators.specs.Layers.{marks_of}
use Rattle.cil_declarators.proofs.declarators.heads.Given as goal

abbrev pub invariant-loop-mark : goal.invariant-loop-mark
invariant-loop-mark l = (l.at ≤ length l.words) × (heads (marks_of l.marks.items) (all_said (drop l.at l.words)) ≡ heads [] (all_said l.words))

abbrev pub decreases-loop-mark : goal.decreases-loop-mark
decreases-loop-mark l = length l.words - l.at
