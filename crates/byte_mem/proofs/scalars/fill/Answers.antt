use Rattle.byte_mem.proofs.ScalarLemmas.{equal_step}
use Rattle.byte_mem.proofs.scalars.fill.Goals as goal

pub loop-k-preserved : goal.loop-k-preserved
loop-k-preserved c = equal_step c.loop-k.c c.put.new.self _ c.args.at c.loop-k.k _ c.args.size c.args.b c.requires c.loop-k-test.true c.loop-k.invariant.0 c.loop-k.invariant.1 c.put.ensures
