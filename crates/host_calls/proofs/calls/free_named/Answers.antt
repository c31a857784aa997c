use Rattle.std.proofs.Common.{ap, sym}
use Rattle.byte_mem.specs.declared.pointers.ObjName.{ObjName}
use Rattle.byte_mem.specs.Store.{memory}
use Rattle.host_calls.specs.Host.{free_named}
use Rattle.host_calls.specs.Counted.{state}
use Rattle.host_calls.proofs.CountLemmas.{answers_along}
use Rattle.host_calls.proofs.calls.free_named.Goals as goal

pub returns-in-Heap-clause-answers : goal.returns-in-Heap-clause-answers
returns-in-Heap-clause-answers c =
    answers_along c.free_object.result _ _ _ _ (ap (λ (n : ObjName). free_named (state (memory c.args.mem.now) c.args.io.now) n) (sym c.in-Heap.is)) c.free_object.ensures.answers
