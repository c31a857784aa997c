use Rattle.std.proofs.Common.{◌≡◌}
use Rattle.static_rename.specs.Tags.{standing_in}
use Rattle.static_rename.proofs.standing.standing_in.Given as goal

abbrev pub invariant-loop-a : goal.invariant-loop-a
invariant-loop-a l = l.all.items ≡ standing_in l.classes l.u.0 l.a
