use Rattle.std.proofs.Common.{◌≡◌, drop}
use Rattle.cil_check.specs.Statements.{numbered}
use Rattle.cil_check.proofs.labels.are_numbered.Given as goal

abbrev pub invariant-loop-i : goal.invariant-loop-i
invariant-loop-i l = numbered l.i l.count (drop l.i l.labels) ≡ numbered 0 l.count l.labels
