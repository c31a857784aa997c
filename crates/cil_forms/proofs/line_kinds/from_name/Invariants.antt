use Rattle.std.proofs.Common.{◌≡◌, length}
use Rattle.cil_text.specs.ReadGlobals.{from_name}
use Rattle.cil_scan.specs.Said.{all_said}
use Rattle.cil_forms.proofs.line_kinds.from_name.Given as goal

abbrev pub invariant-loop-rest : goal.invariant-loop-rest
invariant-loop-rest l = from_name (all_said l.rest) ≡ from_name (all_said l.words)

abbrev pub decreases-loop-rest : goal.decreases-loop-rest
decreases-loop-rest l = length l.rest
