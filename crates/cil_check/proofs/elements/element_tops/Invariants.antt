use Rattle.std.proofs.Common.{◌≡◌, length}
use Rattle.cil_check.specs.Rules.{AreTops}
use Rattle.cil_check.proofs.elements.element_tops.Given as goal

abbrev pub invariant-loop-t : goal.invariant-loop-t
invariant-loop-t l = AreTops l.tops.items l.g × (length l.tops.items ≡ l.t)
