use Rattle.cil_merge.specs.Classes.{AreClassesOf}
use Rattle.cil_merge.proofs.arena.class_table.Given as goal

abbrev pub invariant-loop-a : goal.invariant-loop-a
invariant-loop-a l = AreClassesOf l.classes l.u.0 l.a l.table.items
