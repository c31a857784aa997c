use Rattle.execution.specs.Likeness.{Same}
use Rattle.simulation_laws.proofs.StartsAlike.{starts_alike}
use Rattle.simulation_laws.proofs.laws.units_start_alike.Goals as goal

pub returns : goal.returns
returns c = λ common us vs h. starts_alike Same common us vs h
