use Rattle.std.proofs.Common.{◌≡◌, map, take}
use Rattle.static_rename.specs.Within.{label_wish}
use Rattle.static_rename.proofs.bodies.label_wishes.Given as goal

abbrev pub invariant-loop-i : goal.invariant-loop-i
invariant-loop-i l = l.all.items ≡ map (label_wish l.base l.labels) (take l.i l.order)
