use Rattle.std.proofs.Common.{◌≡◌, ◌+◌, length, rules, slice_get}
use Rattle.cil_tree.specs.declared.statements.Stmt.{the_lemmas}
use Rattle.cil_check.specs.Seen.{seen_scope}
use Rattle.cil_control.specs.Flat as flat
use Rattle.cil_code.proofs.StepMeanings.{forward_is, back_is}
use Rattle.cil_code.proofs.Loads.{if_pushed, switch_pushed, loop_pushed}
use Rattle.cil_code.proofs.loading.+loading.Goals as goal

pub push_one-push_all-requires : goal.push_one-push_all-requires
push_one-push_all-requires t c = (search (rules, the_lemmas), c.requires)

pub push_one-push_all-requires-in-If : goal.push_one-push_all-requires-in-If
push_one-push_all-requires-in-If t c = (search (rules, the_lemmas), c.requires)

pub push_one-returns-in_ok-push-in-If : goal.push_one-returns-in_ok-push-in-If
push_one-returns-in_ok-push-in-If t c =
    if_pushed c.push_all-in-If.result (seen_scope c.args.s.now.scope) c.args.s.now.entities.now (slice_get c.args.labels.now) c.args.end c.args.s.now.scope.unit.now.graph.nodes c.args.x.now c.in-If.e c.in-If.holds c.in-If.fails
    c.deref.result.now c.deref-in-If-2.result.now c.deref-in-If.result.now c.deref-in-If-3.result.now c.in_ok-q-in-If.q
    c.args.code.now.items c.push_test.new.code.items c.push_all.new.code.items c.push-in-If.new.code.items c.push_all-in-If.new.code.items
    c.in-If.is c.deref.ensures.value c.deref-in-If-2.ensures.value c.deref-in-If.ensures.value c.deref-in-If-3.ensures.value
    c.in_ok-q-in-If.ensures.got c.in_ok-q-in-If.ensures.behind c.in_ok-push_all-in-If.ensures
    (c.in_ok-push-in-If.ensures (seen_scope c.args.s.now.scope) c.args.s.now.entities.now (flat.Forward c.in_ok-q-in-If.q) (forward_is (seen_scope c.args.s.now.scope) c.args.s.now.entities.now c.in_ok-q-in-If.q)) c.push_all-in-If.ensures

pub push_one-returns-in_ok-q-in-Switch : goal.push_one-returns-in_ok-q-in-Switch
push_one-returns-in_ok-q-in-Switch t c =
    switch_pushed c.push_all-in-Switch.result (seen_scope c.args.s.now.scope) c.args.s.now.entities.now (slice_get c.args.labels.now) c.args.end c.args.s.now.scope.unit.now.graph.nodes c.args.x.now c.in-Switch.e c.in-Switch.body
    c.deref-in-Switch.result.now c.deref-in-Switch-2.result.now c.in_ok-q-in-Switch.q c.args.code.now.items c.push_choice.new.code.items c.push_all-in-Switch.new.code.items
    c.in-Switch.is c.deref-in-Switch.ensures.value c.deref-in-Switch-2.ensures.value c.in_ok-q-in-Switch.ensures.got c.in_ok-q-in-Switch.ensures.behind c.push_all-in-Switch.ensures

pub push_one-returns-in_ok-push_all-in-Loop : goal.push_one-returns-in_ok-push_all-in-Loop
push_one-returns-in_ok-push_all-in-Loop t c =
    let first : c.in_ok-first-in-Loop.first ≡ length c.args.code.now.items + 1 = search rules in
    loop_pushed c.push-in-Loop.result (seen_scope c.args.s.now.scope) c.args.s.now.entities.now (slice_get c.args.labels.now) c.args.end c.args.s.now.scope.unit.now.graph.nodes c.args.x.now c.in-Loop.body
    c.deref-in-Loop.result.now c.deref-in-Loop-2.result.now c.in_ok-first-in-Loop.first c.in_ok-q-in-Loop.q c.args.code.now.items c.push_turn.new.code.items c.push_all-in-Loop.new.code.items c.push-in-Loop.new.code.items
    c.in-Loop.is c.deref-in-Loop.ensures.value c.deref-in-Loop-2.ensures.value c.in_ok-q-in-Loop.ensures.got first c.in_ok-q-in-Loop.ensures.behind c.in_ok-push_all-in-Loop.ensures
    (c.push-in-Loop.ensures (seen_scope c.args.s.now.scope) c.args.s.now.entities.now (flat.Back c.in_ok-first-in-Loop.first) (back_is (seen_scope c.args.s.now.scope) c.args.s.now.entities.now c.in_ok-first-in-Loop.first))
