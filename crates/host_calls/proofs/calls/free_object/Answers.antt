use Rattle.std.proofs.Common.{arith, ap, ◌-◌, ◌≤◌}
use Rattle.byte_mem.specs.Store.{memory}
use Rattle.host_calls.specs.Counted.{state}
use Rattle.host_calls.proofs.CountLemmas.{size_counted, freed_is}
use Rattle.host_calls.proofs.calls.free_object.Goals as goal

pub overflow_sub-io : goal.overflow_sub-io
overflow_sub-io c =
    let low : c.in-Some.size ≤ c.args.io.now.live = size_counted (state (memory c.args.mem.now) c.args.io.now) c.args.i c.in-Some.size c.requires c.in-Some.ensures in
    omega (arith, c.from.ensures)

pub returns-in-Some-clause-answers : goal.returns-in-Some-clause-answers
returns-in-Some-clause-answers c =
    freed_is (state (memory c.args.mem.now) c.args.io.now) c.args.i c.in-Some.size _ _ c.in-Some.ensures c.end.ensures.0 (ap (λ n. c.args.io.now.live - n) c.from.ensures)
