use Rattle.cil_frames.proofs.Turns.{frames_are_meant}
use Rattle.cil_frames.proofs.laws.frames_are_meant.Goals as goal

pub returns : goal.returns
returns c = frames_are_meant
