use Rattle.std.proofs.Common.{ap, ◌+◌}
use Rattle.byte_mem.specs.Store.{memory}
use Rattle.byte_mem.specs.Memory.{Memory}
use Rattle.host_calls.specs.Counted.{state}
use Rattle.host_calls.proofs.CountLemmas.{malloc_is}
use Rattle.host_calls.proofs.calls.make_object.Goals as goal

pub returns-in-Err-clause-answers : goal.returns-in-Err-clause-answers
returns-in-Err-clause-answers c = ap (λ (m : Memory). state m c.args.io.now) c.in-Err.ensures.0

pub returns-in-Ok-clause-answers : goal.returns-in-Ok-clause-answers
returns-in-Ok-clause-answers c =
    malloc_is (state (memory c.args.mem.now) c.args.io.now) c.args.size _ _ c.requires c.in-Ok.ensures.0 (ap (λ n. c.args.io.now.live + n) c.from.ensures)
