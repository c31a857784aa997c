use Rattle.std.proofs.Common.{◌≡◌, ap}
use Rattle.cil_tree.specs.View.{stmts_of, stmt_of, exp_of}
use Rattle.cil_tree.specs.Tree.{If}
use Rattle.cil_tree.proofs.Views.{at_if}
use Rattle.cil_tree.specs.Bodies.{labels_of, labels_in}
use Rattle.cil_check.proofs.StatementSteps.{both_added}
use Rattle.cil_check.proofs.labels.+labels.Goals as goal

pub add_labels_of-returns-in_ok-add_labels-in-If : goal.add_labels_of-returns-in_ok-add_labels-in-If
add_labels_of-returns-in_ok-add_labels-in-If t c =
    let nodes = c.args.s.now.unit.now.graph.nodes in
    let is : stmt_of nodes c.args.x.now ≡ If (exp_of nodes c.in-If.field-0) (stmts_of nodes c.deref.result.now) (stmts_of nodes c.deref-in-If.result.now)
    = at_if nodes c.args.x.now c.in-If.field-0 c.in-If.holds c.in-If.fails c.deref.result.now c.deref-in-If.result.now c.in-If.is c.deref.ensures.value c.deref-in-If.ensures.value in
    both_added c.add_labels-in-If.result c.args.labels.now.items c.add_labels.new.labels.items c.add_labels-in-If.new.labels.items (labels_of (stmts_of nodes c.deref.result.now)) (labels_of (stmts_of nodes c.deref-in-If.result.now)) (labels_in (stmt_of nodes c.args.x.now))
    c.in_ok-add_labels-in-If.ensures (ap labels_in is) c.add_labels-in-If.ensures
