use Rattle.std.proofs.Common.{◌+◌, arith}
use Rattle.lower_parts.proofs.CodeLaws.{last_moves}
use Rattle.lower_parts.proofs.calls.before_effects.Goals as goal

pub loop-i-preserved : goal.loop-i-preserved
loop-i-preserved c =
    last_moves c.args.arguments.now c.loop-i.i (c.loop-i.i + 1) c.loop-i.last c.last_of-last.result c.index-arguments-i.result c.has_effect.result c.loop-i-test.true c.index-arguments-i.is (omega arith) c.has_effect.ensures c.last_of-last.ensures
    c.loop-i.invariant
