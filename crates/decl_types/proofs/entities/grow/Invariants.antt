use Rattle.std.proofs.Common.{◌-◌, ◌+◌, length}
use Rattle.decl_types.proofs.entities.grow.Given as goal

abbrev pub decreases-loop-n : goal.decreases-loop-n
decreases-loop-n l = l.n.0 + 1 - length l.linked.items
