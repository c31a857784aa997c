use Rattle.cil_merge.specs.Numbering.{AreRepresentatives}
use Rattle.cil_merge.proofs.arena.representatives.Given as goal

abbrev pub invariant-loop-k : goal.invariant-loop-k
invariant-loop-k l = AreRepresentatives l.classes l.k l.all.items
