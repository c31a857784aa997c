use Rattle.std.proofs.Common.{◌≡◌, ◌<◌, ℕ, length}
use Rattle.type_partition.specs.Keys.{num_at}
use Rattle.type_partition.proofs.refining.one_class.Given as goal

abbrev pub invariant-loop-x : goal.invariant-loop-x
invariant-loop-x l = (length l.classes.items ≡ l._x) × ((k : ℕ) → k < l._x → num_at l.classes.items k ≡ 0)
