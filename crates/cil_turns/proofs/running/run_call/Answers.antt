use Rattle.cil_frames.proofs.Growing.{runs_only_grow}
use Rattle.cil_turns.proofs.Finishing.{runs_to}
use Rattle.cil_turns.proofs.running.run_call.Goals as goal

pub returns-clause-runs : goal.returns-clause-runs
returns-clause-runs g c = λ link enter at machine.
    runs_to c.args.table.now c.args.call.now c.run_function-end.result c.finish.result c.args.run.now c.run_function-end.new.run c.finish.new.run _ _ _ _ _ c.run_function-end.ensures.finishes c.requires.fresh.next c.finish.ensures.flushed c.finish.ensures.ended c.finish.ensures.left
    link enter at machine (runs_only_grow c.args.run.now.mem.abi link enter at c.args.table.now machine)
