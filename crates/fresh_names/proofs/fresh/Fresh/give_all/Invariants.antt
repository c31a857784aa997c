use Rattle.std.proofs.Common.{take}
use Rattle.fresh_names.specs.Giving.{GivesAll}
use Rattle.fresh_names.proofs.fresh.Fresh.give_all.Given as goal

abbrev pub invariant-loop-i : goal.invariant-loop-i
invariant-loop-i l = GivesAll l.fn.self.taken.keys l.self.taken.keys l.self.next.entries l.fn.names l.names (take l.i l.wishes) l.given.items
