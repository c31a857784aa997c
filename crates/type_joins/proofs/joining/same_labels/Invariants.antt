use Rattle.std.proofs.Common.{◌≡◌, take}
use Rattle.type_things.specs.Things.{labels}
use Rattle.type_joins.proofs.joining.same_labels.Given as goal

abbrev pub invariant-loop-i : goal.invariant-loop-i
invariant-loop-i l = labels (take l.i l.left) ≡ labels (take l.i l.right)
