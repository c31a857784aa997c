use Rattle.std.proofs.Common.{refl, arith}
use Rattle.layout_lp64.proofs.UpdateLaws.{order_within, aggs_step, aggs_fit_all}
use Rattle.layout_lp64.proofs.layouts.Layouts.aggs_fit.Goals as goal

pub index-most-requires : goal.index-most-requires
index-most-requires c = omega (arith, order_within c.args.self.now c.args.g.now c.requires.arena c.requires.tables c.completed-order.result.now c.loop-i.i (record { 0 = 0 }) c.completed-order.ensures.order c.loop-i-test.true)

pub loop-i-preserved : goal.loop-i-preserved
loop-i-preserved c =
    aggs_step c.args.self.now c.args.g.now c.requires.arena c.requires.tables c.args.first c.loop-i.i (record { 0 = 0 }) c.completed-order.result.now c.args.self.now.aggs c.index-most.result.now c.whole.result c.copied.result c.large.result
    c.completed-order.ensures.order c.loop-i-test.true refl c.index-most.ensures c.whole.ensures c.copied.ensures c.large.ensures c.if-large.false c.loop-i.invariant

pub returns : goal.returns
returns c h = aggs_fit_all c.args.self.now c.args.g.now c.args.first c.loop-i.i c.completed-order.result.now c.completed-order.ensures.order c.loop-i-test.false c.loop-i.invariant
