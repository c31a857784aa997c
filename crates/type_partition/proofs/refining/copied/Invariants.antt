use Rattle.std.proofs.Common.{◌≡◌, ◌++◌, drop}
use Rattle.type_partition.proofs.refining.copied.Given as goal

abbrev pub invariant-loop-n : goal.invariant-loop-n
invariant-loop-n l = l.all.items ++ drop l.n-index l.numbers ≡ l.numbers
