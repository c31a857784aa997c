use Rattle.std.proofs.Common.{subst, arith}
use Rattle.type_things.specs.Webs.{things_of}
use Rattle.type_iso.specs.Ordering.{IsSettled, AreSettledUpTo}
use Rattle.type_iso.proofs.OrderSteps.{settled_start, settled_more}
use Rattle.type_iso.proofs.ordering.all_settled.Goals as goal

pub loop-x-init : goal.loop-x-init
loop-x-init c = settled_start (things_of c.args.web.now) c.args.web.now.aggregates c.args.standing.now c.args.values.now c.new-all.result.items c.new-all.ensures.items

pub loop-x-preserved : goal.loop-x-preserved
loop-x-preserved c = settled_more (things_of c.args.web.now) c.args.web.now.aggregates c.args.standing.now c.args.values.now c.loop-x.all.items c.push.new.self.items c.loop-x.x c.in_ok-settled.settled c.in_ok-push.ensures.items (subst (λ l. IsSettled (things_of c.args.web.now) c.args.web.now.aggregates c.args.standing.now c.args.values.now l c.loop-x.x c.in_ok-settled.settled) c.deref.ensures.value c.in_ok-settled.ensures) c.loop-x.invariant

pub returns : goal.returns
returns c = subst (AreSettledUpTo (things_of c.args.web.now) c.args.web.now.aggregates c.args.standing.now c.args.values.now c.loop-x.all.items) (omega (arith, c.loop-x-test.false, c.loop-x.auto.x-end, c.in_ok-x-end.ensures)) c.loop-x.invariant
