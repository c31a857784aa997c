use Rattle.cil_control.proofs.BodySteps.{bodies_are_taken}
use Rattle.cil_control.proofs.laws.bodies_are_taken.Goals as goal

pub returns : goal.returns
returns c = bodies_are_taken
