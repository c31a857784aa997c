use Rattle.byte_mem.specs.Store.{memory}
use Rattle.cil_frames.specs.Course.{Stands, ahead}
use Rattle.cil_frames.specs.Keeping.{SameHeap}
use Rattle.cil_frames.proofs.courses.run_course.Given as goal

abbrev pub invariant-loop-q : goal.invariant-loop-q
invariant-loop-q l = Stands l.fn.mem l.mem l.act l.code l.fn.place l.fn.left l.p l.left × SameHeap (memory l.fn.mem) (memory l.mem)

abbrev pub decreases-loop-q : goal.decreases-loop-q
decreases-loop-q l = ahead l.code l.p l.left
