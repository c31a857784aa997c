use Rattle.cil_frames.specs.Entering.{NumbersRemain}
use Rattle.cil_frames.proofs.activations.end_arguments.Given as goal

abbrev pub invariant-loop-i : goal.invariant-loop-i
invariant-loop-i l = NumbersRemain l.fn.mem l.mem l.act l.arguments l.i
