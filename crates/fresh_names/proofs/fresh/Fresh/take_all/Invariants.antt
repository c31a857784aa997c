use Rattle.std.proofs.Common.{◌≡◌, drop}
use Rattle.fresh_names.specs.Naming.{with_names}
use Rattle.fresh_names.proofs.fresh.Fresh.take_all.Given as goal

abbrev pub invariant-loop-i : goal.invariant-loop-i
invariant-loop-i l = (with_names l.self.taken.keys (drop l.i l.all) ≡ with_names l.fn.self.taken.keys l.all) × (l.self.next.entries ≡ l.fn.self.next.entries)
