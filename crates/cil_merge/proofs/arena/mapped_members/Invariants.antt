use Rattle.cil_merge.specs.Classes.{AreMembers}
use Rattle.cil_merge.proofs.arena.mapped_members.Given as goal

abbrev pub invariant-loop-i : goal.invariant-loop-i
invariant-loop-i l = AreMembers l.types l.members l.mapped.items l.i
