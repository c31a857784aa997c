use Rattle.std.proofs.Common.{ℕ, ◌<◌, ◌≤◌}
use Rattle.cil_base.specs.NamePool.{Stays}
use Rattle.fresh_names.specs.Naming.{IsSuffixTaken}
use Rattle.fresh_names.proofs.fresh.Fresh.free_from.Given as goal

abbrev pub invariant-loop-number : goal.invariant-loop-number
invariant-loop-number l = Stays l.fn.names l.names × ((j : ℕ) → l.from ≤ j → j < l.number → IsSuffixTaken l.self.taken.keys l.names l.base j)
