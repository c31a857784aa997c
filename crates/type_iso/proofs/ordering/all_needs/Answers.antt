use Rattle.std.proofs.Common.{length, ap, subst, arith}
use Rattle.type_things.specs.Webs.{things_of}
use Rattle.type_order.specs.Order.{needed_of}
use Rattle.type_iso.specs.Ordering.{AreNeeds}
use Rattle.type_iso.proofs.OrderSteps.{all_start, all_more, vec_length}
use Rattle.type_iso.proofs.ordering.all_needs.Goals as goal

pub loop-x-init : goal.loop-x-init
loop-x-init c = record {
  count = ap length c.new-all.ensures.items;
  needs = all_start c.args.web.now.aggregates c.args.standing.now c.args.values.now (things_of c.args.web.now) c.args.settled.now c.new-all.result.items;
}

pub loop-x-preserved : goal.loop-x-preserved
loop-x-preserved c = record {
  count = vec_length c.loop-x.all.items c.push.new.self.items c.in_ok-needs.needs c.loop-x.x c.loop-x.invariant.count c.in_ok-push.ensures.items;
  needs = all_more c.args.web.now.aggregates c.args.standing.now c.args.values.now (things_of c.args.web.now) c.args.settled.now c.loop-x.all.items c.push.new.self.items c.in_ok-needs.needs c.loop-x.x c.in_ok-known.known c.loop-x.invariant.count c.in_ok-push.ensures.items c.in_ok-known.ensures c.in_ok-needs.ensures c.loop-x.invariant.needs;
}

pub returns : goal.returns
returns c = subst (AreNeeds c.args.web.now.aggregates c.args.standing.now c.args.values.now (things_of c.args.web.now) c.args.settled.now (needed_of c.loop-x.all.items)) (omega (arith, c.loop-x-test.false, c.loop-x.auto.x-end, c.in_ok-x-end.ensures)) c.loop-x.invariant.needs
