use Rattle.std.proofs.Common.{[]}
use Rattle.cil_tree.specs.View.{stmts_of}
use Rattle.cil_text.specs.ReadStmts.{read_nested}
use Rattle.cil_reader.specs.Nesting.{waiting}
use Rattle.cil_reader.proofs.NestingLaws.{parts_give, made_if, made_switch, made_loop, nested_goes_on, nested_stops}
use Rattle.cil_reader.proofs.CarryLaws.{carries_first, carries_second, carries_more, carries_if, carries_switch, carries_loop}
use Rattle.cil_reader.proofs.nesting.+nesting.Goals as goal

pub read_nested-returns-in-None-clause-gives : goal.read_nested-returns-in-None-clause-gives
read_nested-returns-in-None-clause-gives t c =
    let nodes = c.args.r.now.graph.nodes in
    nested_stops (stmts_of nodes c.loop-step.stmts.items) c.args.left c.loop-step.step (waiting nodes c.loop-step.lines.items) (waiting nodes c.one_statement.new.lines.items) (read_nested c.args.left (waiting nodes c.args.lines.now.items)) c.loop-step-test.true
    (rw c.in-None.is at c.in_ok-one_statement.ensures.gives) c.loop-step.invariant.0

pub read_nested-returns-in-None-clause-known : goal.read_nested-returns-in-None-clause-known
read_nested-returns-in-None-clause-known t c =
    carries_first c.args.r.now.graph c.args.lines.now.items c.loop-step.lines.items c.one_statement.new.lines.items c.loop-step.stmts.items [] c.loop-step.invariant.1 (rw c.in-None.is at c.in_ok-one_statement.ensures.known)

pub read_nested-loop-step-preserved : goal.read_nested-loop-step-preserved
read_nested-loop-step-preserved t c =
    let nodes = c.args.r.now.graph.nodes in
    let stmts = nested_goes_on nodes c.loop-step.stmts.items c.in-Some.s.value c.args.left c.loop-step.step (waiting nodes c.loop-step.lines.items) (waiting nodes c.one_statement.new.lines.items) (read_nested c.args.left (waiting nodes c.args.lines.now.items))
    c.loop-step-test.true (rw c.in-Some.is at c.in_ok-one_statement.ensures.gives) c.loop-step.invariant.0 in
    let known = carries_more c.args.r.now.graph c.args.lines.now.items c.loop-step.lines.items c.one_statement.new.lines.items c.loop-step.stmts.items c.in-Some.s.value c.loop-step.invariant.1 (rw c.in-Some.is at c.in_ok-one_statement.ensures.known) in
    rw c.in_ok-push_statement-in-Some.ensures (stmts, known)

pub both_parts-returns-clause-gives : goal.both_parts-returns-clause-gives
both_parts-returns-clause-gives t c =
    let nodes = c.args.r.now.graph.nodes in
    parts_give (read_nested c.args.left) (waiting nodes c.args.lines.now.items) (waiting nodes c.first_part.new.lines.items) (waiting nodes c.block.new.lines.items) (stmts_of nodes c.in_ok-holds.holds.items) (stmts_of nodes c.in_ok-fails.fails.items)
    c.in_ok-holds.ensures.gives c.in_ok-fails.ensures.gives

pub both_parts-returns-clause-first : goal.both_parts-returns-clause-first
both_parts-returns-clause-first t c =
    carries_first c.args.r.now.graph c.args.lines.now.items c.first_part.new.lines.items c.block.new.lines.items c.in_ok-holds.holds.items c.in_ok-fails.fails.items c.in_ok-holds.ensures.known c.in_ok-fails.ensures.known

pub both_parts-returns-clause-second : goal.both_parts-returns-clause-second
both_parts-returns-clause-second t c =
    carries_second c.args.r.now.graph c.args.lines.now.items c.first_part.new.lines.items c.block.new.lines.items c.in_ok-holds.holds.items c.in_ok-fails.fails.items c.in_ok-holds.ensures.known c.in_ok-fails.ensures.known

pub read_if-returns-clause-gives : goal.read_if-returns-clause-gives
read_if-returns-clause-gives t c =
    let nodes = c.args.r.now.graph.nodes in
    made_if (read_nested c.args.left) nodes c.args.test.value c.in_ok-holds.holds.items c.in_ok-holds.fails.items c.if_else.result c.in_ok-statement.statement.value (waiting nodes c.args.lines.now.items) (waiting nodes c.both_parts.new.lines.items)
    c.in_ok-holds.ensures.gives c.if_else.ensures c.in_ok-statement.ensures

pub read_if-returns-clause-known : goal.read_if-returns-clause-known
read_if-returns-clause-known t c =
    carries_if c.args.r.now.graph c.args.lines.now.items c.both_parts.new.lines.items c.args.test c.in_ok-holds.holds.items c.in_ok-holds.fails.items c.if_else.result c.in_ok-statement.statement.value c.in_ok-holds.ensures.first c.in_ok-holds.ensures.second
    c.if_else.ensures c.in_ok-statement.ensures

pub read_switch-returns-clause-gives : goal.read_switch-returns-clause-gives
read_switch-returns-clause-gives t c =
    let nodes = c.args.r.now.graph.nodes in
    made_switch (read_nested c.args.left) nodes c.args.value.value c.in_ok-body.body.items c.switch.result c.in_ok-statement.statement.value (waiting nodes c.args.lines.now.items) (waiting nodes c.block.new.lines.items)
    c.in_ok-body.ensures.gives c.switch.ensures c.in_ok-statement.ensures

pub read_switch-returns-clause-known : goal.read_switch-returns-clause-known
read_switch-returns-clause-known t c =
    carries_switch c.args.r.now.graph c.args.lines.now.items c.block.new.lines.items c.args.value c.in_ok-body.body.items c.switch.result c.in_ok-statement.statement.value c.in_ok-body.ensures.known c.switch.ensures c.in_ok-statement.ensures

pub read_loop-returns-clause-gives : goal.read_loop-returns-clause-gives
read_loop-returns-clause-gives t c =
    let nodes = c.args.r.now.graph.nodes in
    made_loop (read_nested c.args.left) nodes c.in_ok-body.body.items c.looped.result c.in_ok-statement.statement.value (waiting nodes c.args.lines.now.items) (waiting nodes c.block.new.lines.items) c.in_ok-body.ensures.gives c.looped.ensures c.in_ok-statement.ensures

pub read_loop-returns-clause-known : goal.read_loop-returns-clause-known
read_loop-returns-clause-known t c =
    carries_loop c.args.r.now.graph c.args.lines.now.items c.block.new.lines.items c.in_ok-body.body.items c.looped.result c.in_ok-statement.statement.value c.in_ok-body.ensures.known c.looped.ensures c.in_ok-statement.ensures
