use Rattle.cil_turns.proofs.Begins.{no_function, nothing_named}
use Rattle.cil_turns.proofs.calls.call.Goals as goal

pub returns-in-None-clause-turned : goal.returns-in-None-clause-turned
returns-in-None-clause-turned g c x h = no_function c.args.table.now c.args.run.now x c.args.behind c.args.e.now h (nothing_named c.args.table.now c.args.e.now.callee c.in-None.ensures) _ _
