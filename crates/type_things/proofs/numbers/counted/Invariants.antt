use Rattle.std.proofs.Common.{◌≡◌, ℕ, length, get_or}
use Rattle.type_things.proofs.numbers.counted.Given as goal

abbrev pub invariant-loop-x : goal.invariant-loop-x
invariant-loop-x l = (length l.all.items ≡ l.x) × ((k : ℕ) → get_or l.all.items k k ≡ k)
