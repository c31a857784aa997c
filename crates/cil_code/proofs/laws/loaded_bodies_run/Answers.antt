use Rattle.cil_code.proofs.Running.{loaded_bodies_run}
use Rattle.cil_code.proofs.laws.loaded_bodies_run.Goals as goal

pub returns : goal.returns
returns c = loaded_bodies_run
