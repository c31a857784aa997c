use Rattle.type_order.specs.Coming.{IsUpTo}
use Rattle.type_order.proofs.coming.first_open.Given as goal

abbrev pub invariant-loop-i : goal.invariant-loop-i
invariant-loop-i l = IsUpTo l.needed l.done l.from → IsUpTo l.needed l.done l.i
