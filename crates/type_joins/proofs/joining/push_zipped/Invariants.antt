use Rattle.std.proofs.Common.{◌≡◌, ◌++◌, drop}
use Rattle.type_joins.specs.Joined.{zipped}
use Rattle.type_joins.proofs.joining.push_zipped.Given as goal

abbrev pub invariant-loop-i : goal.invariant-loop-i
invariant-loop-i l = l.work.items ++ zipped (drop l.i l.left) (drop l.i l.right) ≡ l.fn.work.items ++ zipped l.left l.right
