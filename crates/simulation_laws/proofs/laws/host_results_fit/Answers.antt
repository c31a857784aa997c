use Rattle.simulation_laws.proofs.HostFits.{host_fits}
use Rattle.simulation_laws.proofs.laws.host_results_fit.Goals as goal

pub returns : goal.returns
returns c = host_fits
