use Rattle.std.proofs.Common.{◌≡◌, get_or}
use Rattle.type_order.specs.Order.{needed_of}
use Rattle.type_order.specs.Coming.{IsChained, IsComing}
use Rattle.type_order.proofs.coming.Coming.release.Given as goal

abbrev pub invariant-loop-step : goal.invariant-loop-step
invariant-loop-step l = IsComing (needed_of l.needs) l.listed (IsChained l.fn.self.all.items (get_or l.fn.self.firsts.items l.x 0)) l.fn.self → IsComing (needed_of l.needs) l.listed (IsChained l.self.all.items l.number) l.self × (l.self.done ≡ l.fn.self.done)
