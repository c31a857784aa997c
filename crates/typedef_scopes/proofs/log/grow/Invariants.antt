use Rattle.std.proofs.Common.{◌-◌, ◌+◌, length}
use Rattle.typedef_scopes.specs.Undo.{Grown}
use Rattle.typedef_scopes.proofs.log.grow.Given as goal

abbrev pub invariant-loop-n : goal.invariant-loop-n
invariant-loop-n l = Grown l.fn.types.items l.types.items

abbrev pub decreases-loop-n : goal.decreases-loop-n
decreases-loop-n l = l.n.0 + 1 - length l.types.items
