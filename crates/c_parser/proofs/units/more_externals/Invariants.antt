use Rattle.std.proofs.Common.{◌≡◌, ◌-◌, length, map, true}
use Rattle.c_tree.specs.UnitView.{external_of as tree_of}
use Rattle.c_tree.specs.Levels.{has_some}
use Rattle.c_parser.specs.UnitStops.{Behind}
use Rattle.c_parser.proofs.units.more_externals.Given as goal

abbrev pub invariant-loop-alloc : goal.invariant-loop-alloc
invariant-loop-alloc g l = Behind l.c.all l.c.at (map tree_of l.ds) l.s × (has_some (map tree_of l.ds) ≡ true) × (l.c.all ≡ l.fn.c.all)

abbrev pub decreases-loop-alloc : goal.decreases-loop-alloc
decreases-loop-alloc g l = length l.c.all - l.c.at
