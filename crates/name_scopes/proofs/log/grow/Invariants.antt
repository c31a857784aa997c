use Rattle.std.proofs.Common.{◌-◌, ◌+◌, length}
use Rattle.name_scopes.specs.Undo.{Grown}
use Rattle.name_scopes.proofs.log.grow.Given as goal

abbrev pub invariant-loop-n : goal.invariant-loop-n
invariant-loop-n g l = Grown l.fn.latest.items l.latest.items

abbrev pub decreases-loop-n : goal.decreases-loop-n
decreases-loop-n g l = l.n.0 + 1 - length l.latest.items
