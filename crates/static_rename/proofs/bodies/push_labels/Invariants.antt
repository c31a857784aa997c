use Rattle.std.proofs.Common.{◌≡◌, ◌++◌, drop}
use Rattle.static_rename.specs.Within.{labels_from}
use Rattle.static_rename.proofs.bodies.push_labels.Given as goal

abbrev pub invariant-loop-i : goal.invariant-loop-i
invariant-loop-i l = l.all.items ++ labels_from l.made l.base l.i (drop l.i l.labels) ≡ l.fn.all.items ++ labels_from l.made l.base 0 l.labels
