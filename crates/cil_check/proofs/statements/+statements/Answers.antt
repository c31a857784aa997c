use Rattle.std.proofs.Common.{rules, ◌≡◌, true, false, ap}
use Rattle.type_graph.specs.Shapes.{Shape, shape}
use Rattle.cil_tree.specs.Tree.{If}
use Rattle.cil_tree.specs.View.{exp_of, stmt_of, stmts_of}
use Rattle.cil_tree.specs.Typing.{Scope}
use Rattle.cil_tree.specs.Bodies.{test_fits}
use Rattle.cil_tree.proofs.Views.{at_if}
use Rattle.cil_check.specs.Seen.{seen_scope}
use Rattle.cil_check.specs.Statements.{keeps_rules, keep_rules}
use Rattle.cil_check.proofs.StatementSteps.{if_fails, if_rest}
use Rattle.cil_check.proofs.statements.+statements.Goals as goal

pub keeps_rules-returns-then-not-branch : goal.keeps_rules-returns-then-not-branch
keeps_rules-returns-then-not-branch t c =
    let nodes = c.args.s.now.unit.now.graph.nodes in
    let scope : Scope = seen_scope c.args.s.now in
    let ret : Shape = shape nodes c.args.at.ret.0 in
    let fails = stmts_of nodes c.in-If.fails.items in
    let holds = stmts_of nodes c.deref.result.now in
    let is : stmt_of nodes c.args.x.now ≡ If (exp_of nodes c.in-If.test) holds fails = at_if nodes c.args.x.now c.in-If.test c.in-If.holds c.in-If.fails c.deref.result.now c.in-If.fails.items c.in-If.is c.deref.ensures.value (λ _. c.in-If.fails.items) in
    let no : keep_rules scope ret c.args.at.switch c.args.at.inside holds ≡ false = search rules in
    if_fails (test_fits scope (exp_of nodes c.in-If.test)) (keep_rules scope ret c.args.at.switch c.args.at.inside holds) (keep_rules scope ret c.args.at.switch c.args.at.inside fails) (keeps_rules scope ret c.args.at.switch c.args.at.inside (stmt_of nodes c.args.x.now)) no
    (ap (keeps_rules scope ret c.args.at.switch c.args.at.inside) is)

pub keeps_rules-returns-else-not-branch : goal.keeps_rules-returns-else-not-branch
keeps_rules-returns-else-not-branch t c =
    let nodes = c.args.s.now.unit.now.graph.nodes in
    let scope : Scope = seen_scope c.args.s.now in
    let ret : Shape = shape nodes c.args.at.ret.0 in
    let fails = stmts_of nodes c.deref-in-If.result.now in
    let holds = stmts_of nodes c.deref.result.now in
    let is : stmt_of nodes c.args.x.now ≡ If (exp_of nodes c.in-If.test) holds fails = at_if nodes c.args.x.now c.in-If.test c.in-If.holds c.in-If.fails c.deref.result.now c.deref-in-If.result.now c.in-If.is c.deref.ensures.value c.deref-in-If.ensures.value in
    let test : test_fits scope (exp_of nodes c.in-If.test) ≡ true = search rules in
    let yes : keep_rules scope ret c.args.at.switch c.args.at.inside holds ≡ true = search rules in
    if_rest c.keep_rules-in-If.result (test_fits scope (exp_of nodes c.in-If.test)) (keep_rules scope ret c.args.at.switch c.args.at.inside holds) (keep_rules scope ret c.args.at.switch c.args.at.inside fails) (keeps_rules scope ret c.args.at.switch c.args.at.inside (stmt_of nodes c.args.x.now)) test yes
    c.keep_rules-in-If.ensures
    (ap (keeps_rules scope ret c.args.at.switch c.args.at.inside) is)
