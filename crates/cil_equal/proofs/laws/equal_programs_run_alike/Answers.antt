use Rattle.cil_equal.proofs.ProgramsAlike.{run_alike}
use Rattle.cil_equal.proofs.laws.equal_programs_run_alike.Goals as goal

pub returns : goal.returns
returns c = run_alike
