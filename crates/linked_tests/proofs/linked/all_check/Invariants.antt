use Rattle.std.proofs.Common.{All, take}
use Rattle.cil_tree.specs.View.{program_of}
use Rattle.cil_tree.specs.Programs.{IsProgram}
use Rattle.linked_tests.proofs.linked.all_check.Given as goal

abbrev pub invariant-loop-i : goal.invariant-loop-i
invariant-loop-i l = All (λ u. IsProgram (program_of l.names u)) (take l.i l.units)
