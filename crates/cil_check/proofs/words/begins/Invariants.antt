use Rattle.std.proofs.Common.{◌≡◌, ◌≤◌, drop, length}
use Rattle.cil_tree.specs.Names.{begins}
use Rattle.cil_check.proofs.words.begins.Given as goal

abbrev pub invariant-loop-i : goal.invariant-loop-i
invariant-loop-i l = (l.i ≤ length l.text) × (begins (drop l.i l.prefix) (drop l.i l.text) ≡ begins l.prefix l.text)
