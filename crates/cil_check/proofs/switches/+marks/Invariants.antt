use Rattle.std.proofs.Common.{◌≡◌, ◌++◌, drop}
use Rattle.cil_tree.specs.View.{stmts_of}
use Rattle.cil_check.specs.Statements.{marks_of}
use Rattle.cil_check.proofs.switches.+marks.Given as goal

abbrev pub invariant-add_marks-loop-i : goal.invariant-add_marks-loop-i
invariant-add_marks-loop-i l = l.marks.items ++ marks_of (stmts_of l.s.unit.now.graph.nodes (drop l.i l.stmts)) ≡ l.initial.marks.items ++ marks_of (stmts_of l.s.unit.now.graph.nodes l.stmts)
