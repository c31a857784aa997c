use Rattle.std.proofs.Common.{subst, arith}
use Rattle.type_things.specs.Webs.{things_of}
use Rattle.type_iso.specs.Ordering.{IsValue, AreValues}
use Rattle.type_iso.proofs.OrderSteps.{values_start, values_more}
use Rattle.type_iso.proofs.ordering.values.Goals as goal

pub loop-x-init : goal.loop-x-init
loop-x-init c = values_start (things_of c.args.web.now) c.new-all.result.items c.new-all.ensures.items

pub loop-x-preserved : goal.loop-x-preserved
loop-x-preserved c = values_more (things_of c.args.web.now) c.loop-x.all.items c.push.new.self.items c.loop-x.x c.in_ok-value.value c.in_ok-push.ensures.items (subst (λ l. IsValue (things_of c.args.web.now) l c.loop-x.x c.in_ok-value.value) c.deref.ensures.value c.in_ok-value.ensures) c.loop-x.invariant

pub returns : goal.returns
returns c = subst (AreValues (things_of c.args.web.now) c.loop-x.all.items) (omega (arith, c.loop-x-test.false, c.loop-x.auto.x-end, c.in_ok-x-end.ensures)) c.loop-x.invariant
