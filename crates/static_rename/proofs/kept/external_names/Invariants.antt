use Rattle.std.proofs.Common.{◌≡◌, map, take}
use Rattle.static_rename.proofs.kept.external_names.Given as goal

abbrev pub invariant-loop-i : goal.invariant-loop-i
invariant-loop-i l = l.all.items ≡ map (λ x. x.name) (take l.i l.linked)
