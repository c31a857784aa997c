use Rattle.std.proofs.Common.{sym, subst}
use Rattle.cil_frames.specs.Frames.{AllLead}
use Rattle.cil_runner.proofs.Running.{runs_main, lacks_memory}
use Rattle.cil_runner.proofs.machine.Machine.run_main.Goals as goal

pub returns-in_default-clause-runs : goal.returns-in_default-clause-runs
returns-in_default-clause-runs g c = λ programs mode words loads. lacks_memory programs mode words c.args.steps c.args.self.now.used _ _ c.requires.fresh.used

pub run_call-end-requires-clause-leads : goal.run_call-end-requires-clause-leads
run_call-end-requires-clause-leads g c = subst AllLead (sym c.deref.ensures.value) c.requires.fresh.leads

pub returns-clause-runs : goal.returns-clause-runs
returns-clause-runs g c = λ programs mode words loads.
    runs_main c.args.self.now programs mode words c.deref.result.now c.args.main c.in-Ok.first c.run_call-end.result c.args.steps c.run_call-end.new.run.left _ _ _ _ loads c.deref.ensures.value c.requires.main
    c.in-Ok.ensures.callee c.in-Ok.ensures.result c.in-Ok.ensures.arguments c.run_call-end.ensures.runs
