use Rattle.byte_mem.specs.Store.{memory}
use Rattle.host_calls.proofs.CountLemmas.{counted_start}
use Rattle.memory_tests.proofs.host.begin.Goals as goal

pub returns : goal.returns
returns c = counted_start (memory c.new-mem.result) c.new-io.result c.new-mem.ensures.empty (c.new-io.ensures.2, c.new-io.ensures.3)
