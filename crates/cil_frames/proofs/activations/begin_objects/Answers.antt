use Rattle.std.proofs.Common.{◌+◌, arith}
use Rattle.cil_frames.proofs.Activating.{objects_next, objects_end}
use Rattle.cil_frames.proofs.activations.begin_objects.Goals as goal

pub loop-i-preserved : goal.loop-i-preserved
loop-i-preserved c = objects_next c.args.mem.now c.loop-i.mem c.make.new.self c.args.act c.loop-i.i (c.loop-i.i + 1) c.args.objects.now c.loop-i-test.true (omega arith) c.loop-i.invariant c.in_ok-make.ensures

pub returns : goal.returns
returns c = objects_end c.args.mem.now c.loop-i.mem c.args.act c.loop-i.i c.args.objects.now c.loop-i-test.false c.loop-i.invariant
