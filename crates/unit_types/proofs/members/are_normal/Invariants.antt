use Rattle.std.proofs.Common.{◌≡◌, drop}
use Rattle.unit_types.specs.Normal.{normal_members}
use Rattle.unit_types.proofs.members.are_normal.Given as goal

abbrev pub invariant-loop-i : goal.invariant-loop-i
invariant-loop-i l = normal_members l.g (drop l.i l.members) ≡ normal_members l.g l.members
