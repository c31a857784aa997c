use Rattle.simulation_laws.proofs.Alone.{changes_move}
use Rattle.simulation_laws.proofs.laws.changes_move.Goals as goal

pub returns : goal.returns
returns c = changes_move
