use Rattle.std.proofs.Common.{◌≡◌, map, take}
use Rattle.static_rename.specs.Tags.{class_wish}
use Rattle.static_rename.proofs.tags.class_wishes.Given as goal

abbrev pub invariant-loop-k : goal.invariant-loop-k
invariant-loop-k l = l.all.items ≡ map (class_wish l.bases l.units) (take l.k l.stands)
