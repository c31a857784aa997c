use Rattle.cil_frames.specs.Entering.{ArgumentsRemain}
use Rattle.cil_frames.proofs.activations.begin_arguments.Given as goal

abbrev pub invariant-loop-i : goal.invariant-loop-i
invariant-loop-i l = ArgumentsRemain l.fn.mem l.mem l.act l.arguments l.i
