use Rattle.std.proofs.Common.{◌≡◌, ap}
use Rattle.cil_tree.specs.View.{stmts_of, stmt_of, exp_of}
use Rattle.cil_tree.specs.Tree.{If, Loop}
use Rattle.cil_tree.proofs.Views.{at_if, at_loop}
use Rattle.cil_control.specs.Remains.{steps_in}
use Rattle.cil_control.specs.Flat.{cases_at, cases_from, default_at, default_from}
use Rattle.cil_control.proofs.Walks.{both_listed, both_found, inner_found}
use Rattle.cil_control.proofs.places.+cases.Goals as goal

pub add_cases_of-returns-in_ok-next-in-If-2-clause-cases : goal.add_cases_of-returns-in_ok-next-in-If-2-clause-cases
add_cases_of-returns-in_ok-next-in-If-2-clause-cases t c =
    let nodes = c.args.g.now.nodes in
    let is : stmt_of nodes c.args.x.now ≡ If (exp_of nodes c.in-If.field-0) (stmts_of nodes c.deref.result.now) (stmts_of nodes c.deref-in-If.result.now)
    = at_if nodes c.args.x.now c.in-If.field-0 c.in-If.holds c.in-If.fails c.deref.result.now c.deref-in-If.result.now c.in-If.is c.deref.ensures.value c.deref-in-If.ensures.value in
    both_listed c.add_cases-in-If.result c.args.table.now.cases.items c.add_cases.new.table.cases.items c.add_cases-in-If.new.table.cases.items (cases_at c.args.p (stmt_of nodes c.args.x.now))
    (λ i. cases_from i (stmts_of nodes c.deref.result.now)) (λ i. cases_from i (stmts_of nodes c.deref-in-If.result.now)) c.args.p c.in_ok-next-in-If.field-0 c.in_ok-at-in-If.at c.in_ok-next-in-If-2.field-0 (steps_in (stmts_of nodes c.deref.result.now))
    c.in_ok-next-in-If.ensures c.in_ok-at-in-If.ensures.behind c.in_ok-next-in-If-2.ensures c.in_ok-at-in-If.ensures.cases (ap (cases_at c.args.p) is) c.add_cases-in-If.ensures.cases

pub add_cases_of-returns-in_ok-next-in-If-2-clause-other : goal.add_cases_of-returns-in_ok-next-in-If-2-clause-other
add_cases_of-returns-in_ok-next-in-If-2-clause-other t c =
    let nodes = c.args.g.now.nodes in
    let is : stmt_of nodes c.args.x.now ≡ If (exp_of nodes c.in-If.field-0) (stmts_of nodes c.deref.result.now) (stmts_of nodes c.deref-in-If.result.now)
    = at_if nodes c.args.x.now c.in-If.field-0 c.in-If.holds c.in-If.fails c.deref.result.now c.deref-in-If.result.now c.in-If.is c.deref.ensures.value c.deref-in-If.ensures.value in
    both_found c.add_cases-in-If.result c.args.table.now.other c.add_cases.new.table.other c.add_cases-in-If.new.table.other (default_at c.args.p (stmt_of nodes c.args.x.now))
    (λ i. default_from i (stmts_of nodes c.deref.result.now)) (λ i. default_from i (stmts_of nodes c.deref-in-If.result.now)) c.args.p c.in_ok-next-in-If.field-0 c.in_ok-at-in-If.at c.in_ok-next-in-If-2.field-0 (steps_in (stmts_of nodes c.deref.result.now))
    c.in_ok-next-in-If.ensures c.in_ok-at-in-If.ensures.behind c.in_ok-next-in-If-2.ensures c.in_ok-at-in-If.ensures.other (ap (default_at c.args.p) is) c.add_cases-in-If.ensures.other

pub add_cases_of-returns-in_ok-add_cases-in-Loop-clause-other : goal.add_cases_of-returns-in_ok-add_cases-in-Loop-clause-other
add_cases_of-returns-in_ok-add_cases-in-Loop-clause-other t c =
    let nodes = c.args.g.now.nodes in
    let is : stmt_of nodes c.args.x.now ≡ Loop (stmts_of nodes c.deref-in-Loop.result.now) = at_loop nodes c.args.x.now c.in-Loop.body c.deref-in-Loop.result.now c.in-Loop.is c.deref-in-Loop.ensures.value in
    inner_found c.next-in-Loop-2.result c.args.table.now.other c.add_cases-in-Loop.new.table.other (default_at c.args.p (stmt_of nodes c.args.x.now))
    (λ i. default_from i (stmts_of nodes c.deref-in-Loop.result.now)) c.args.p c.in_ok-next-in-Loop.field-0 c.in_ok-next-in-Loop.ensures (ap (default_at c.args.p) is) c.in_ok-add_cases-in-Loop.ensures.other
