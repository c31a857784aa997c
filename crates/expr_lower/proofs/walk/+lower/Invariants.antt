use Rattle.lower_parts.specs.Code.{Extends}
use Rattle.expr_lower.proofs.walk.+lower.Given as goal

abbrev pub invariant-values-loop-i : goal.invariant-values-loop-i
invariant-values-loop-i l = Extends l.fn.out.items l.out.items

abbrev pub invariant-initialise-loop-step : goal.invariant-initialise-loop-step
invariant-initialise-loop-step l = Extends l.fn.out.items l.out.items
