use Rattle.cil_runner.proofs.Running.{lacks_main}
use Rattle.cil_runner.proofs.machine.Machine.run.Goals as goal

pub returns-in-None-clause-runs : goal.returns-in-None-clause-runs
returns-in-None-clause-runs g c = λ programs mode words loads. lacks_main c.args.self.now programs mode words c.args.steps c.args.self.now.used _ _ loads c.in-None.is c.requires.used
