use Rattle.cil_frames.proofs.Growing.{runs_only_grow}
use Rattle.cil_frames.proofs.laws.runs_only_grow.Goals as goal

pub returns : goal.returns
returns c = runs_only_grow
