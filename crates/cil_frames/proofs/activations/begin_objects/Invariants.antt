use Rattle.cil_frames.specs.Entering.{ObjectsRemain}
use Rattle.cil_frames.proofs.activations.begin_objects.Given as goal

abbrev pub invariant-loop-i : goal.invariant-loop-i
invariant-loop-i l = ObjectsRemain l.fn.mem l.mem l.act l.objects l.i
