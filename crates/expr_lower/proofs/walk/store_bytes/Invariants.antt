use Rattle.lower_parts.specs.Code.{Extends}
use Rattle.expr_lower.proofs.walk.store_bytes.Given as goal

abbrev pub invariant-loop-i : goal.invariant-loop-i
invariant-loop-i l = Extends l.fn.out.items l.out.items
