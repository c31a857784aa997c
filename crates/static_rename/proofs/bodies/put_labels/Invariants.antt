use Rattle.std.proofs.Common.{◌≡◌, drop}
use Rattle.static_rename.specs.Within.{with_labels}
use Rattle.static_rename.proofs.bodies.put_labels.Given as goal

abbrev pub invariant-loop-i : goal.invariant-loop-i
invariant-loop-i l = with_labels (drop l.i l.order) (drop l.i l.names) l.labels.items ≡ with_labels l.order l.names l.fn.labels.items
