use Rattle.type_order.specs.Order.{needed_of}
use Rattle.type_order.specs.Coming.{IsRun}
use Rattle.type_order.proofs.coming.least_first.Given as goal

abbrev pub invariant-loop-step : goal.invariant-loop-step
invariant-loop-step l = IsRun (needed_of l.needs) l.listed l.fn.done.items l.order.items l.coming
