use Rattle.type_order.specs.Order.{needed_of}
use Rattle.type_order.proofs.ComingLaws.{popped, drained}
use Rattle.type_order.proofs.coming.least_first.Goals as goal

pub returns-in_default : goal.returns-in_default
returns-in_default c = drained (needed_of c.args.needs.now) c.args.listed c.args.done.items c.loop-step.order.items c.loop-step.coming c.pop.new.self c.loop-step.invariant c.in_default.ensures

pub loop-step-preserved : goal.loop-step-preserved
loop-step-preserved c = c.in_ok-advance.ensures c.args.done.items (popped (needed_of c.args.needs.now) c.args.listed c.args.done.items c.loop-step.order.items c.in-Some.x c.loop-step.coming c.pop.new.self c.loop-step.invariant c.in-Some.ensures)
