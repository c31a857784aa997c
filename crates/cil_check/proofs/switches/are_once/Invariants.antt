use Rattle.std.proofs.Common.{◌≡◌, drop, false, []}
use Rattle.cil_check.specs.Statements.{once}
use Rattle.cil_check.proofs.switches.are_once.Given as goal

abbrev pub invariant-loop-i : goal.invariant-loop-i
invariant-loop-i l = once l.marked.values.keys l.marked.has_default (drop l.i l.marks) ≡ once [] false l.marks
