use Rattle.simulation_laws.proofs.Fits.{fits}
use Rattle.simulation_laws.proofs.laws.values_fit.Goals as goal

pub returns : goal.returns
returns c = fits
