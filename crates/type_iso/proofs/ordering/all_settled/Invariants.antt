use Rattle.type_things.specs.Webs.{things_of}
use Rattle.type_iso.specs.Ordering.{AreSettledUpTo}
use Rattle.type_iso.proofs.ordering.all_settled.Given as goal

abbrev pub invariant-loop-x : goal.invariant-loop-x
invariant-loop-x l = AreSettledUpTo (things_of l.web) l.web.aggregates l.standing l.values l.all.items l.x
