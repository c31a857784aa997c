use Rattle.std.proofs.Common.{◌≡◌, length}
use Rattle.cil_text.specs.ReadGlobals.{has_assign}
use Rattle.cil_scan.specs.Said.{all_said}
use Rattle.cil_forms.proofs.line_kinds.has_assign.Given as goal

abbrev pub invariant-loop-rest : goal.invariant-loop-rest
invariant-loop-rest l = has_assign (all_said l.rest) ≡ has_assign (all_said l.words)

abbrev pub decreases-loop-rest : goal.decreases-loop-rest
decreases-loop-rest l = length l.rest
