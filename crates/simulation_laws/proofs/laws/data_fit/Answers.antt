use Rattle.simulation_laws.proofs.DataFits.{data_fit}
use Rattle.simulation_laws.proofs.laws.data_fit.Goals as goal

pub returns : goal.returns
returns c = data_fit
