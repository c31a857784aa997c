use Rattle.std.proofs.Common.{◌≡◌, pos, sym, rules}
use Rattle.byte_mem.specs.Store.{memory}
use Rattle.host_calls.specs.Counted.{state}
use Rattle.host_calls.proofs.CountLemmas.{answers_along, free_is}
use Rattle.host_calls.proofs.calls.free.Goals as goal

pub returns-then-p-eq0-clause-answers : goal.returns-then-p-eq0-clause-answers
returns-then-p-eq0-clause-answers c =
    let start : c.in-Ptr.p.offset ≡ pos 0 = search rules in
    answers_along c.free_named.result _ _ _ _ (sym (free_is (state (memory c.args.mem.now) c.args.io.now) c.args.v c.in-Ptr.p c.in-Ptr.is start)) c.free_named.ensures.answers
