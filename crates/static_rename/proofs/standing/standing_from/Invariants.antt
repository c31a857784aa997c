use Rattle.std.proofs.Common.{◌≡◌, ◌++◌, map, drop}
use Rattle.static_rename.specs.Tags.{standing_from}
use Rattle.static_rename.proofs.standing.standing_from.Given as goal

abbrev pub invariant-loop-u : goal.invariant-loop-u
invariant-loop-u l = map (λ s. s.items) l.all.items ++ standing_from l.classes l.u (drop l.u l.units) ≡ standing_from l.classes 0 l.units
