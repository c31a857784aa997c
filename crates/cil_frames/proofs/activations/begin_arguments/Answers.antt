use Rattle.std.proofs.Common.{◌+◌, arith}
use Rattle.cil_frames.proofs.Activating.{arguments_next, arguments_end}
use Rattle.cil_frames.proofs.activations.begin_arguments.Goals as goal

pub loop-i-preserved : goal.loop-i-preserved
loop-i-preserved c =
    arguments_next c.args.mem.now c.loop-i.mem c.begin_argument.new.mem c.args.act c.loop-i.i (c.loop-i.i + 1) c.args.arguments.now c.index-arguments-i.result c.in_ok-parameter.field-0 c.loop-i-test.true c.index-arguments-i.is (omega arith) c.in_ok-parameter.ensures
    c.loop-i.invariant c.in_ok-begin_argument.ensures

pub returns : goal.returns
returns c = arguments_end c.args.mem.now c.loop-i.mem c.args.act c.loop-i.i c.args.arguments.now c.loop-i-test.false c.loop-i.invariant
