use Rattle.type_things.specs.Webs.{things_of}
use Rattle.type_iso.specs.Ordering.{AreEnums}
use Rattle.type_iso.proofs.ordering.enums.Given as goal

abbrev pub invariant-loop-a : goal.invariant-loop-a
invariant-loop-a l = AreEnums (things_of l.web) l.web.aggregates l.standing l.order.items l.a
