use Rattle.std.proofs.Common.{◌≡◌, ◌≤◌}
use Rattle.type_order.specs.Order.{needed_of}
use Rattle.type_order.specs.Coming.{IsComing}
use Rattle.type_order.proofs.coming.Coming.attempt_all.Given as goal

abbrev pub invariant-loop-x : goal.invariant-loop-x
invariant-loop-x l = IsComing (needed_of l.needs) l.listed (λ y. 0 ≤ y) l.fn.self → IsComing (needed_of l.needs) l.listed (λ y. l.x ≤ y) l.self × (l.self.done ≡ l.fn.self.done)
