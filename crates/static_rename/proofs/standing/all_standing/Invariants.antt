use Rattle.std.proofs.Common.{◌≡◌}
use Rattle.static_rename.specs.Tags.{standing_below}
use Rattle.static_rename.proofs.standing.all_standing.Given as goal

abbrev pub invariant-loop-k : goal.invariant-loop-k
invariant-loop-k l = l.all.items ≡ standing_below l.classes l.k
