use Rattle.std.proofs.Common.{◌≡◌, ℕ, get_or}
use Rattle.type_order.proofs.coming.zeroes.Given as goal

abbrev pub invariant-loop-i : goal.invariant-loop-i
invariant-loop-i l = (x : ℕ) → get_or l.all.items x 0 ≡ 0
