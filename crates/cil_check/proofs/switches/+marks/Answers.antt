use Rattle.std.proofs.Common.{◌≡◌, ap}
use Rattle.cil_tree.specs.View.{stmts_of, stmt_of, exp_of}
use Rattle.cil_tree.specs.Tree.{If}
use Rattle.cil_tree.proofs.Views.{at_if}
use Rattle.cil_check.specs.Statements.{marks_of, marks_in}
use Rattle.cil_check.proofs.StatementSteps.{both_added}
use Rattle.cil_check.proofs.switches.+marks.Goals as goal

pub add_marks_of-returns-in_ok-add_marks-in-If : goal.add_marks_of-returns-in_ok-add_marks-in-If
add_marks_of-returns-in_ok-add_marks-in-If t c =
    let nodes = c.args.s.now.unit.now.graph.nodes in
    let is : stmt_of nodes c.args.x.now ≡ If (exp_of nodes c.in-If.field-0) (stmts_of nodes c.deref.result.now) (stmts_of nodes c.deref-in-If.result.now)
    = at_if nodes c.args.x.now c.in-If.field-0 c.in-If.holds c.in-If.fails c.deref.result.now c.deref-in-If.result.now c.in-If.is c.deref.ensures.value c.deref-in-If.ensures.value in
    both_added c.add_marks-in-If.result c.args.marks.now.items c.add_marks.new.marks.items c.add_marks-in-If.new.marks.items (marks_of (stmts_of nodes c.deref.result.now)) (marks_of (stmts_of nodes c.deref-in-If.result.now)) (marks_in (stmt_of nodes c.args.x.now))
    c.in_ok-add_marks-in-If.ensures (ap marks_in is) c.add_marks-in-If.ensures
