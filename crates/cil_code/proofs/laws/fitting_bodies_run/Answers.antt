use Rattle.cil_code.proofs.Fitting.{fitting_bodies_run}
use Rattle.cil_code.proofs.laws.fitting_bodies_run.Goals as goal

pub returns : goal.returns
returns c = fitting_bodies_run
