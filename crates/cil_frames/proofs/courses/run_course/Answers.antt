use Rattle.byte_mem.specs.Store.{memory}
use Rattle.cil_frames.proofs.Going.{goes_along, stops_along}
use Rattle.cil_frames.proofs.Keeping.{same_heap}
use Rattle.cil_frames.proofs.courses.run_course.Goals as goal

pub loop-q-preserved : goal.loop-q-preserved
loop-q-preserved c = (
  goes_along c.args.mem.now c.loop-q.mem c.step_on.new.mem c.args.act c.args.code.now c.args.place c.args.left.now c.loop-q.p c.loop-q.left c.in-On.q c.step_on.new.left c.in_ok-q.field-0 c.loop-q.invariant.0 c.in_ok-q.ensures.stepped c.in-On.is,
  same_heap (memory c.args.mem.now) (memory c.loop-q.mem) (memory c.step_on.new.mem) c.loop-q.invariant.1 c.in_ok-q.ensures.heap,
)

pub returns-in-Stopped : goal.returns-in-Stopped
returns-in-Stopped c = record {
  ran = stops_along c.args.mem.now c.loop-q.mem c.step_on.new.mem c.args.act c.args.code.now c.args.place c.args.left.now c.loop-q.p c.loop-q.left c.step_on.new.left c.in-Stopped.stop c.in_ok-q.field-0 c.loop-q.invariant.0 c.in_ok-q.ensures.stepped c.in-Stopped.is;
  heap = same_heap (memory c.args.mem.now) (memory c.loop-q.mem) (memory c.step_on.new.mem) c.loop-q.invariant.1 c.in_ok-q.ensures.heap;
}
