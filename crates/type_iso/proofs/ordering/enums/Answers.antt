use Rattle.std.proofs.Common.{subst, arith}
use Rattle.type_things.specs.Webs.{things_of}
use Rattle.type_iso.specs.Ordering.{AreEnums}
use Rattle.type_iso.proofs.OrderSteps.{enums_start, enums_step}
use Rattle.type_iso.proofs.ordering.enums.Goals as goal

pub loop-a-init : goal.loop-a-init
loop-a-init c = enums_start (things_of c.args.web.now) c.args.web.now.aggregates c.args.standing.now c.new-order.result.items c.new-order.ensures.items

pub loop-a-preserved : goal.loop-a-preserved
loop-a-preserved c = enums_step (things_of c.args.web.now) c.args.web.now.aggregates c.args.standing.now c.loop-a.order.items c.list_enum.new.order.items c.loop-a.a (omega (arith, c.loop-a-test.true, c.loop-a.auto.a-end)) c.in_ok-list_enum.ensures c.loop-a.invariant

pub returns : goal.returns
returns c = subst (AreEnums (things_of c.args.web.now) c.args.web.now.aggregates c.args.standing.now c.loop-a.order.items) (omega (arith, c.loop-a-test.false, c.loop-a.auto.a-end)) c.loop-a.invariant
