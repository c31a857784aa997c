use Rattle.simulation_laws.proofs.Alone.{changes_alone}
use Rattle.simulation_laws.proofs.laws.one_side_changes_alone.Goals as goal

pub returns : goal.returns
returns c = λ f. changes_alone f
