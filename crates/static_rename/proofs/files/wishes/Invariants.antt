use Rattle.std.proofs.Common.{◌≡◌, map, take}
use Rattle.static_rename.specs.Files.{wish_at}
use Rattle.static_rename.proofs.files.wishes.Given as goal

abbrev pub invariant-loop-i : goal.invariant-loop-i
invariant-loop-i l = l.all.items ≡ map (wish_at l.bases l.f) (take l.i l.things)
