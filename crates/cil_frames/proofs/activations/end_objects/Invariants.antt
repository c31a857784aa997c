use Rattle.cil_frames.specs.Entering.{EndsRemain}
use Rattle.cil_frames.proofs.activations.end_objects.Given as goal

abbrev pub invariant-loop-i : goal.invariant-loop-i
invariant-loop-i l = EndsRemain l.fn.mem l.mem l.act l.objects l.i
