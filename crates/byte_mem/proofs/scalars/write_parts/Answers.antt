use Rattle.byte_mem.proofs.ScalarLemmas.{parts_step}
use Rattle.byte_mem.proofs.scalars.write_parts.Goals as goal

pub loop-k-preserved : goal.loop-k-preserved
loop-k-preserved c = parts_step c.loop-k.c c.put_part.new.self _ c.args.at c.loop-k.k _ c.args.size c.args.p c.requires.room c.loop-k-test.true c.loop-k.invariant.0 c.loop-k.invariant.1 c.put_part.ensures
