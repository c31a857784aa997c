use Rattle.std.proofs.Common.{subst, arith, Global}
use Rattle.std.specs.declared.vec.Vec.{Vec}
use Rattle.cil_tree.specs.declared.statements.Stmt as declared
use Rattle.cil_tree.specs.declared.statements.Stmt.{Stmt}
use Rattle.std.proofs.lemmas.Grind.{common_steps}
use Rattle.cil_bodies.specs.Maps.{MapsExp, MapsStmt, MapsStmts}
use Rattle.cil_bodies.proofs.StatementLaws.{stmts_map, if_maps, switch_maps, loop_maps, block_maps}
use Rattle.cil_bodies.proofs.Replaced.{on_ok, replaced_start, replaced_next, unvisited_next}
use Rattle.cil_bodies.proofs.statements.+statements.Goals as goal

pub map_stmt-returns-in_ok-map_stmts-in-If : goal.map_stmt-returns-in_ok-map_stmts-in-If
map_stmt-returns-in_ok-map_stmts-in-If t c =
    on_ok c.map_stmts-in-If.result (λ is. rw c.in-If.is
    (if_maps c.args.m.now c.in-If.test c.map_exp.new.e c.in-If.holds c.in-If.fails c.map_stmts.new.all c.map_stmts-in-If.new.all
    (subst (λ x. MapsExp c.args.m.now x c.map_exp.new.e) c.in-If.test-is c.in_ok-map_exp-in-If.ensures)
    (subst (λ (v : Vec Stmt Global). MapsStmts c.args.m.now v.items c.map_stmts.new.all.items) c.in-If.holds-is c.in_ok-map_stmts-in-If.ensures)
    (subst (λ (v : Vec Stmt Global). MapsStmts c.args.m.now v.items c.map_stmts-in-If.new.all.items) c.in-If.fails-is is)))
    c.map_stmts-in-If.ensures

pub map_stmt-returns-in_ok-map_exp-in-Switch : goal.map_stmt-returns-in_ok-map_exp-in-Switch
map_stmt-returns-in_ok-map_exp-in-Switch t c =
    on_ok c.map_stmts-in-Switch.result (λ is. rw c.in-Switch.is
    (switch_maps c.args.m.now c.in-Switch.value c.map_exp-in-Switch.new.e c.in-Switch.body c.map_stmts-in-Switch.new.all
    (subst (λ x. MapsExp c.args.m.now x c.map_exp-in-Switch.new.e) c.in-Switch.value-is c.in_ok-map_exp-in-Switch.ensures)
    (subst (λ (v : Vec Stmt Global). MapsStmts c.args.m.now v.items c.map_stmts-in-Switch.new.all.items) c.in-Switch.body-is is)))
    c.map_stmts-in-Switch.ensures

pub map_stmt-returns-in-Loop : goal.map_stmt-returns-in-Loop
unfolding declared.out-Stmt denote.Hole.Carrier.out
map_stmt-returns-in-Loop t c =
    on_ok c.map_stmts-in-Loop.result (λ is. rw c.in-Loop.is
    (loop_maps c.args.m.now c.in-Loop.body c.map_stmts-in-Loop.new.all (subst (λ (v : Vec Stmt Global). MapsStmts c.args.m.now v.items c.map_stmts-in-Loop.new.all.items) c.in-Loop.body-is is)))
    c.map_stmts-in-Loop.ensures

pub map_stmt-returns-in-Block : goal.map_stmt-returns-in-Block
unfolding declared.out-Stmt denote.Hole.Carrier.out
map_stmt-returns-in-Block t c =
    on_ok c.map_stmts-in-Block.result (λ is. rw c.in-Block.is
    (block_maps c.args.m.now c.in-Block.body c.map_stmts-in-Block.new.all (subst (λ (v : Vec Stmt Global). MapsStmts c.args.m.now v.items c.map_stmts-in-Block.new.all.items) c.in-Block.body-is is)))
    c.map_stmts-in-Block.ensures

pub map_stmts-loop-i-init : goal.map_stmts-loop-i-init
map_stmts-loop-i-init t c = record { unvisited = grind (arith, common_steps); replaced = replaced_start (MapsStmt c.args.m.now) c.args.all.now.items }

pub map_stmts-loop-i-preserved : goal.map_stmts-loop-i-preserved
map_stmts-loop-i-preserved t c = record {
  unvisited = unvisited_next c.loop-i.i c.args.all.now.items c.loop-i.all.items c.map_stmt.new.s c.loop-i.invariant.unvisited;
  replaced =
      replaced_next (MapsStmt c.args.m.now) c.loop-i.i c.args.all.now.items c.loop-i.all.items c.index_mut.result.now c.map_stmt.new.s (omega (arith, c.loop-i-test.true, c.len-i-end.ensures)) c.loop-i.invariant.replaced
      (subst (λ x. MapsStmt c.args.m.now x c.map_stmt.new.s) c.index_mut.ensures.value c.in_ok-map_stmt.ensures);
}

pub map_stmts-returns : goal.map_stmts-returns
map_stmts-returns t c = stmts_map c.args.m.now c.loop-i.i c.args.all.now.items c.loop-i.all.items (omega (arith, c.loop-i-test.false, c.len-i-end.ensures)) c.loop-i.invariant.replaced
