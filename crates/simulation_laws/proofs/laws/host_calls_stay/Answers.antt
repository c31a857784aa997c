use Rattle.simulation_laws.proofs.HostStays.{host_stays}
use Rattle.simulation_laws.proofs.laws.host_calls_stay.Goals as goal

pub returns : goal.returns
returns c = host_stays
