use Rattle.std.proofs.Common.{◌≡◌, ◌+◌, drop}
use Rattle.cil_tree.specs.View.{stmts_of}
use Rattle.cil_control.specs.Remains.{steps_in}
use Rattle.cil_control.proofs.places.+behind.Given as goal

abbrev pub invariant-behind-loop-i : goal.invariant-behind-loop-i
invariant-behind-loop-i l = l.at + steps_in (stmts_of l.g.nodes (drop l.i l.stmts)) ≡ l.p + steps_in (stmts_of l.g.nodes l.stmts)
