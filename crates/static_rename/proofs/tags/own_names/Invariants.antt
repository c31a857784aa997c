use Rattle.std.proofs.Common.{◌≡◌, map, take}
use Rattle.static_rename.proofs.tags.own_names.Given as goal

abbrev pub invariant-loop-i : goal.invariant-loop-i
invariant-loop-i l = l.all.items ≡ map (λ m. m.name) (take l.i l.members)
