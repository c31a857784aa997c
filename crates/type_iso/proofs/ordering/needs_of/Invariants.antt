use Rattle.type_iso.specs.Ordering.{AreNeedsUpTo}
use Rattle.type_iso.proofs.ordering.needs_of.Given as goal

abbrev pub invariant-loop-i : goal.invariant-loop-i
invariant-loop-i l = AreNeedsUpTo l.standing l.values l.web.aggregates l.by_value l.x l.parts l.all.items l.i
