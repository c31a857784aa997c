use Rattle.std.proofs.Common.{◌-◌}
use Rattle.byte_mem.proofs.scalars.+goes_on.Given as goal

abbrev pub decreases-goes_on : goal.decreases-goes_on
decreases-goes_on l = l.size - l.k
