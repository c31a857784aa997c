use Rattle.std.proofs.Common.{◌≡◌, suc}
use Rattle.type_iso.proofs.merging.later_unit.Given as goal

abbrev pub invariant-loop-next : goal.invariant-loop-next
invariant-loop-next l = suc l.u ≡ l.next
