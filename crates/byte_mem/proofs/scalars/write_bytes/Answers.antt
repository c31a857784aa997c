use Rattle.std.proofs.lemmas.List.{get_or_default}
use Rattle.byte_mem.proofs.ScalarLemmas.{bytes_step}
use Rattle.byte_mem.proofs.scalars.write_bytes.Goals as goal

pub loop-k-preserved : goal.loop-k-preserved
loop-k-preserved c = bytes_step c.loop-k.c c.put.new.self c.args.bytes.now _ c.args.at c.loop-k.k _ _ c.requires c.loop-k-test.true (get_or_default _ _ _ _ c.loop-k-test.true) c.loop-k.invariant.0 c.loop-k.invariant.1 c.put.ensures
