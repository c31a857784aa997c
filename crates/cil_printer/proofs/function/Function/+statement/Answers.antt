use Rattle.std.proofs.Common.{◌≡◌, ◌∙◌, ◌+◌, Bool, true, drop, rules, refl, sym, ap, arith}
use Rattle.cil_tree.specs.declared.statements.Stmt.{the_lemmas}
use Rattle.cil_tree.specs.Tree.{Stmt}
use Rattle.cil_tree.specs.View.{exp_of, stmts_of}
use Rattle.cil_tree.specs.Bodies.{each_stmt, each_within}
use Rattle.cil_tree.specs.Text.{lines_of}
use Rattle.cil_tree.proofs.Views.{at_if, at_switch, at_loop, at_block}
use Rattle.cil_printer.specs.Seen.{scope_in, nodes_in}
use Rattle.cil_printer.specs.Typed.{stmt_is_typed}
use Rattle.cil_printer.specs.Plain.{prints}
use Rattle.cil_printer.proofs.Calls.{both_left, both_right}
use Rattle.cil_printer.proofs.StatementLines.{if_printed, switch_printed, loop_printed, block_printed, statements_from, statements_end, first_at, within_at}
use Rattle.cil_printer.proofs.function.Function.+statement.Goals as goal

pub push_statement-push_holding-requires : goal.push_statement-push_holding-requires
push_statement-push_holding-requires t c =
    let n = nodes_in c.args.self.now in
    let of : Stmt → Bool = stmt_is_typed (scope_in c.args.self.now) in
    let is = at_if n c.args.s.now c.in-If.test c.in-If.holds c.in-If.fails c.deref.result.now c.in-If.fails.items c.in-If.is c.deref.ensures.value refl in
    let typed : each_stmt of (stmts_of n c.deref.result.now) ≡ true = both_left (each_stmt of (stmts_of n c.deref.result.now)) (each_stmt of (stmts_of n c.in-If.fails.items)) (ap (each_within of) (sym is) ∙ c.requires.within) in
    (search (rules, the_lemmas), (c.requires.plain, typed))

pub push_statement-push_body-requires : goal.push_statement-push_body-requires
push_statement-push_body-requires t c =
    let n = nodes_in c.args.self.now in
    let of : Stmt → Bool = stmt_is_typed (scope_in c.args.self.now) in
    let is = at_if n c.args.s.now c.in-If.test c.in-If.holds c.in-If.fails c.in-If.holds.items c.deref-in-If.result.now c.in-If.is refl c.deref-in-If.ensures.value in
    let typed : each_stmt of (stmts_of n c.deref-in-If.result.now) ≡ true = both_right (each_stmt of (stmts_of n c.in-If.holds.items)) (each_stmt of (stmts_of n c.deref-in-If.result.now)) (ap (each_within of) (sym is) ∙ c.requires.within) in
    (search (rules, the_lemmas), (c.requires.plain, typed))

pub push_statement-push_body-requires-in-Switch : goal.push_statement-push_body-requires-in-Switch
push_statement-push_body-requires-in-Switch t c =
    let n = nodes_in c.args.self.now in
    let of : Stmt → Bool = stmt_is_typed (scope_in c.args.self.now) in
    let is = at_switch n c.args.s.now c.in-Switch.value c.in-Switch.body c.deref-in-Switch.result.now c.in-Switch.is c.deref-in-Switch.ensures.value in
    let typed : each_stmt of (stmts_of n c.deref-in-Switch.result.now) ≡ true = ap (each_within of) (sym is) ∙ c.requires.within in
    (search (rules, the_lemmas), (c.requires.plain, typed))

pub push_statement-push_body-requires-in-Loop : goal.push_statement-push_body-requires-in-Loop
push_statement-push_body-requires-in-Loop t c =
    let n = nodes_in c.args.self.now in
    let of : Stmt → Bool = stmt_is_typed (scope_in c.args.self.now) in
    let is = at_loop n c.args.s.now c.in-Loop.body c.deref-in-Loop.result.now c.in-Loop.is c.deref-in-Loop.ensures.value in
    let typed : each_stmt of (stmts_of n c.deref-in-Loop.result.now) ≡ true = ap (each_within of) (sym is) ∙ c.requires.within in
    (search (rules, the_lemmas), (c.requires.plain, typed))

pub push_statement-push_body-requires-in-Block : goal.push_statement-push_body-requires-in-Block
push_statement-push_body-requires-in-Block t c =
    let n = nodes_in c.args.self.now in
    let of : Stmt → Bool = stmt_is_typed (scope_in c.args.self.now) in
    let is = at_block n c.args.s.now c.in-Block.body c.deref-in-Block.result.now c.in-Block.is c.deref-in-Block.ensures.value in
    let typed : each_stmt of (stmts_of n c.deref-in-Block.result.now) ≡ true = ap (each_within of) (sym is) ∙ c.requires.within in
    (search (rules, the_lemmas), (c.requires.plain, typed))

pub push_statement-returns-in-If : goal.push_statement-returns-in-If
push_statement-returns-in-If t c =
    let n = nodes_in c.args.self.now in
    let is = at_if n c.args.s.now c.in-If.test c.in-If.holds c.in-If.fails c.deref.result.now c.deref-in-If.result.now c.in-If.is c.deref.ensures.value c.deref-in-If.ensures.value in
    if_printed _ _ _ _ c.args.depth (scope_in c.args.self.now) _ (exp_of n c.in-If.test) (stmts_of n c.deref.result.now) (stmts_of n c.deref-in-If.result.now) c.requires.plain is c.push_if.ensures c.push_holding.ensures c.push_body.ensures

pub push_statement-returns-in-Switch : goal.push_statement-returns-in-Switch
push_statement-returns-in-Switch t c =
    let n = nodes_in c.args.self.now in
    let is = at_switch n c.args.s.now c.in-Switch.value c.in-Switch.body c.deref-in-Switch.result.now c.in-Switch.is c.deref-in-Switch.ensures.value in
    switch_printed _ _ _ c.args.depth (scope_in c.args.self.now) _ (exp_of n c.in-Switch.value) (stmts_of n c.deref-in-Switch.result.now) c.requires.plain is c.push_switch.ensures c.push_body-in-Switch.ensures

pub push_statement-returns-in-Loop : goal.push_statement-returns-in-Loop
push_statement-returns-in-Loop t c =
    let n = nodes_in c.args.self.now in
    let is = at_loop n c.args.s.now c.in-Loop.body c.deref-in-Loop.result.now c.in-Loop.is c.deref-in-Loop.ensures.value in
    loop_printed _ _ _ c.args.depth (scope_in c.args.self.now) _ (stmts_of n c.deref-in-Loop.result.now) is c.push_while.ensures c.push_body-in-Loop.ensures

pub push_statement-returns-in-Block : goal.push_statement-returns-in-Block
push_statement-returns-in-Block t c =
    let n = nodes_in c.args.self.now in
    let is = at_block n c.args.s.now c.in-Block.body c.deref-in-Block.result.now c.in-Block.is c.deref-in-Block.ensures.value in
    block_printed _ _ _ c.args.depth (scope_in c.args.self.now) _ (stmts_of n c.deref-in-Block.result.now) is c.push_open.ensures c.push_body-in-Block.ensures

pub push_statements-push_statement-requires : goal.push_statements-push_statement-requires
push_statements-push_statement-requires t c =
    let n = nodes_in c.args.self.now in
    let of : Stmt → Bool = stmt_is_typed (scope_in c.args.self.now) in
    (search (rules, the_lemmas), (c.requires.plain, (first_at of n c.args.body.now c.loop-i.i _ c.loop-i-test.true c.index-body-i.is c.requires.typed, within_at of n c.args.body.now c.loop-i.i _ c.loop-i-test.true c.index-body-i.is c.requires.typed)))

pub push_statements-loop-i-preserved : goal.push_statements-loop-i-preserved
push_statements-loop-i-preserved t c =
    let s = scope_in c.args.self.now in
    let n = nodes_in c.args.self.now in
    let e : prints c.push_statement.new.out c.args.depth (lines_of s (stmts_of n (drop (c.loop-i.i + 1) c.args.body.now))) ≡ prints c.loop-i.out c.args.depth (lines_of s (stmts_of n (drop c.loop-i.i c.args.body.now))) =
    statements_from _ _ c.args.depth s n c.args.body.now c.loop-i.i _ _ c.requires.plain (omega arith) c.loop-i-test.true c.index-body-i.is c.push_statement.ensures in
    e ∙ c.loop-i.invariant

pub push_statements-returns : goal.push_statements-returns
push_statements-returns t c = statements_end _ _ c.args.depth (scope_in c.args.self.now) (nodes_in c.args.self.now) c.args.body.now c.loop-i.i c.loop-i-test.false c.loop-i.invariant
