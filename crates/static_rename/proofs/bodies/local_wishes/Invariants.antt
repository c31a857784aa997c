use Rattle.std.proofs.Common.{◌≡◌, take}
use Rattle.static_rename.specs.Within.{local_wishes}
use Rattle.static_rename.proofs.bodies.local_wishes.Given as goal

abbrev pub invariant-loop-i : goal.invariant-loop-i
invariant-loop-i l = l.all.items ≡ local_wishes l.base (take l.i l.locals)
