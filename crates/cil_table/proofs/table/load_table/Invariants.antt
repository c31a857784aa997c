use Rattle.std.proofs.Common.{take}
use Rattle.cil_link.specs.Units.{programs_in}
use Rattle.cil_table.specs.Entries.{AreEntries}
use Rattle.cil_table.proofs.table.load_table.Given as goal

abbrev pub invariant-loop-i : goal.invariant-loop-i
invariant-loop-i l = AreEntries (programs_in l.l.linked) (take l.i l.l.linked.entities.now.definers.items) l.table.items
