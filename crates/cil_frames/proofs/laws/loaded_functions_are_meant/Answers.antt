use Rattle.cil_frames.proofs.Loaded.{loaded_functions_are_meant}
use Rattle.cil_frames.proofs.laws.loaded_functions_are_meant.Goals as goal

pub returns : goal.returns
returns c = loaded_functions_are_meant
