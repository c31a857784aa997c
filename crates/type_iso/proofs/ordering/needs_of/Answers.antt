use Rattle.std.proofs.Common.{arith}
use Rattle.type_things.specs.Webs.{things_of}
use Rattle.type_iso.proofs.OrderSteps.{needs_start, needs_more, needs_end}
use Rattle.type_iso.proofs.ordering.needs_of.Goals as goal

pub loop-i-init : goal.loop-i-init
loop-i-init c = needs_start c.args.standing.now c.args.values.now c.args.web.now.aggregates c.args.x c.has_values-by_value.result c.in_ok-parts.parts.now c.new-all.result.items c.new-all.ensures.items

pub loop-i-preserved : goal.loop-i-preserved
loop-i-preserved c = needs_more c.args.standing.now c.args.values.now c.args.web.now.aggregates c.args.x c.has_values-by_value.result c.in_ok-parts.parts.now c.loop-i.all.items c.push_needs.new.all.items c.loop-i.i _ c.loop-i-test.true c.in_ok-push_needs.ensures c.loop-i.invariant

pub returns : goal.returns
returns c = needs_end c.args.standing.now c.args.values.now c.args.web.now.aggregates c.args.x (things_of c.args.web.now) c.in_ok-head.field-0 c.has_values-by_value.result c.in_ok-parts.parts.now c.loop-i.all.items c.loop-i.i c.in_ok-head.ensures c.has_values-by_value.ensures c.in_ok-parts.ensures (omega (arith, c.loop-i-test.false)) c.loop-i.invariant
