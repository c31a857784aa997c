use Rattle.simulation_laws.proofs.KindsStored.{types_stored}
use Rattle.simulation_laws.proofs.laws.types_are_stored.Goals as goal

pub returns : goal.returns
returns c = types_stored
