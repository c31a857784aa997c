use Rattle.std.proofs.Common.{◌≡◌, length}
use Rattle.type_things.specs.Webs.{things_of}
use Rattle.type_order.specs.Order.{needed_of}
use Rattle.type_iso.specs.Ordering.{AreNeeds}
use Rattle.type_iso.proofs.ordering.all_needs.Given as goal

abbrev pub invariant-loop-x : goal.invariant-loop-x
invariant-loop-x l = record {
  count : length l.all.items ≡ l.x;
  needs : AreNeeds l.web.aggregates l.standing l.values (things_of l.web) l.settled (needed_of l.all.items) l.x;
}
