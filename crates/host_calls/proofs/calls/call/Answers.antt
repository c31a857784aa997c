use Rattle.std.proofs.Common.{ap, sym}
use Rattle.byte_mem.specs.Store.{memory}
use Rattle.host_calls.specs.declared.names.HostName.{HostName}
use Rattle.host_calls.specs.Host.{called, values_of}
use Rattle.host_calls.specs.Counted.{state}
use Rattle.host_calls.proofs.CountLemmas.{answers_along}
use Rattle.host_calls.proofs.calls.call.Goals as goal

pub returns-in-Malloc-clause-answers : goal.returns-in-Malloc-clause-answers
returns-in-Malloc-clause-answers c =
    answers_along c.call_malloc.result _ _ _ _ (ap (λ (n : HostName). called n (values_of c.args.args.now) (state (memory c.args.mem.now) c.args.io.now)) (sym c.in-Malloc.is)) c.call_malloc.ensures.answers

pub returns-in-Free-clause-answers : goal.returns-in-Free-clause-answers
returns-in-Free-clause-answers c =
    answers_along c.call_free.result _ _ _ _ (ap (λ (n : HostName). called n (values_of c.args.args.now) (state (memory c.args.mem.now) c.args.io.now)) (sym c.in-Free.is)) c.call_free.ensures.answers

pub returns-in-Memset-clause-answers : goal.returns-in-Memset-clause-answers
returns-in-Memset-clause-answers c =
    answers_along c.call_memset.result _ _ _ _ (ap (λ (n : HostName). called n (values_of c.args.args.now) (state (memory c.args.mem.now) c.args.io.now)) (sym c.in-Memset.is)) c.call_memset.ensures.answers
