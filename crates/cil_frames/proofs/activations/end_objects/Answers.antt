use Rattle.std.proofs.Common.{◌+◌, arith}
use Rattle.cil_frames.proofs.Activating.{without_next, without_end}
use Rattle.cil_frames.proofs.activations.end_objects.Goals as goal

pub loop-i-preserved : goal.loop-i-preserved
loop-i-preserved c = without_next c.args.mem.now c.loop-i.mem c.end.new.self c.args.act c.loop-i.i (c.loop-i.i + 1) c.args.objects.now c.loop-i-test.true (omega arith) c.loop-i.invariant c.end.ensures

pub returns : goal.returns
returns c = without_end c.args.mem.now c.loop-i.mem c.args.act c.loop-i.i c.args.objects.now c.loop-i-test.false c.loop-i.invariant
