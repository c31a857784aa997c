use Rattle.std.proofs.Common.{None, Some, ap, ◌∙◌}
use Rattle.cil_turns.proofs.Begins.{no_function, entry_there, nothing_past, nothing_there}
use Rattle.cil_turns.proofs.calls.call_numbered.Goals as goal

pub returns-then-callee-table-clause-turned : goal.returns-then-callee-table-clause-turned
returns-then-callee-table-clause-turned g c x h =
    no_function c.args.table.now c.args.run.now x c.args.behind c.args.e.now h (nothing_past c.args.table.now c.args.e.now.callee c.args.callee c.requires.called c.if-callee-table.true) _ _

pub returns-in-None-clause-turned : goal.returns-in-None-clause-turned
returns-in-None-clause-turned g c x h =
    no_function c.args.table.now c.args.run.now x c.args.behind c.args.e.now h
    (nothing_there c.args.table.now c.args.e.now.callee c.args.callee None c.requires.called
    (entry_there c.args.table.now c.args.callee c.index-table-callee.result c.if-callee-table.false c.index-table-callee.is ∙ ap Some c.in-None.is) tt) _ _

pub returns-in-Some-clause-turned : goal.returns-in-Some-clause-turned
returns-in-Some-clause-turned g c x h =
    c.call_entity.ensures.turned c.args.table.now x h (entry_there c.args.table.now c.args.callee c.index-table-callee.result c.if-callee-table.false c.index-table-callee.is ∙ ap Some c.in-Some.is)

pub returns-in-Some-clause-falls : goal.returns-in-Some-clause-falls
returns-in-Some-clause-falls g c x h =
    c.call_entity.ensures.falls c.args.table.now x h (entry_there c.args.table.now c.args.callee c.index-table-callee.result c.if-callee-table.false c.index-table-callee.is ∙ ap Some c.in-Some.is)
