use Rattle.std.proofs.Common.{◌≡◌, ap}
use Rattle.cil_tree.specs.View.{stmts_of, stmt_of, exp_of}
use Rattle.cil_tree.specs.Tree.{If}
use Rattle.cil_tree.proofs.Views.{at_if}
use Rattle.cil_control.specs.Remains.{steps_in}
use Rattle.cil_control.specs.Flat.{labels_at, labels_from}
use Rattle.cil_control.proofs.Walks.{both_listed}
use Rattle.cil_control.proofs.places.+labels.Goals as goal

pub add_labels_of-returns-in_ok-next-in-If-2-clause-added : goal.add_labels_of-returns-in_ok-next-in-If-2-clause-added
add_labels_of-returns-in_ok-next-in-If-2-clause-added t c =
    let nodes = c.args.g.now.nodes in
    let is : stmt_of nodes c.args.x.now ≡ If (exp_of nodes c.in-If.field-0) (stmts_of nodes c.deref.result.now) (stmts_of nodes c.deref-in-If.result.now)
    = at_if nodes c.args.x.now c.in-If.field-0 c.in-If.holds c.in-If.fails c.deref.result.now c.deref-in-If.result.now c.in-If.is c.deref.ensures.value c.deref-in-If.ensures.value in
    both_listed c.add_labels-in-If.result c.args.places.now.items c.add_labels.new.places.items c.add_labels-in-If.new.places.items (labels_at c.args.p (stmt_of nodes c.args.x.now))
    (λ i. labels_from i (stmts_of nodes c.deref.result.now)) (λ i. labels_from i (stmts_of nodes c.deref-in-If.result.now)) c.args.p c.in_ok-next-in-If.field-0 c.in_ok-at-in-If.at c.in_ok-next-in-If-2.field-0 (steps_in (stmts_of nodes c.deref.result.now))
    c.in_ok-next-in-If.ensures c.in_ok-at-in-If.ensures.behind c.in_ok-next-in-If-2.ensures c.in_ok-at-in-If.ensures.added (ap (labels_at c.args.p) is) c.add_labels-in-If.ensures.added
