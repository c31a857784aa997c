use Rattle.std.proofs.Common.{◌≤◌, ◌-◌, length}
use Rattle.byte_mem.proofs.regions.first_fit.Given as goal

abbrev pub invariant-loop-r : goal.invariant-loop-r
invariant-loop-r l = l.r ≤ length l.regions

abbrev pub decreases-loop-r : goal.decreases-loop-r
decreases-loop-r l = length l.regions - l.r
