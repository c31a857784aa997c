use Rattle.std.proofs.Common.{FitsSigned, rules}
use Rattle.std.specs.Int.{w128}
use Rattle.std.proofs.lemmas.Int.{to_z-of_z}
use Rattle.byte_mem.specs.Store.{memory}
use Rattle.host_calls.specs.Host.{values_of}
use Rattle.host_calls.specs.Counted.{state}
use Rattle.host_calls.proofs.CountLemmas.{answers_along, memset_args}
use Rattle.host_calls.proofs.calls.call_memset.Goals as goal

pub returns-in-Some-Some-Some-clause-answers : goal.returns-in-Some-Some-Some-clause-answers
returns-in-Some-Some-Some-clause-answers c =
    let first : FitsSigned w128 c.in-Some-Some-Some.c = search rules in
    let second : FitsSigned w128 c.in-Some-Some-Some.n = search rules in
    answers_along c.memset.result _ _ _ _
    (memset_args (state (memory c.args.mem.now) c.args.io.now) (values_of c.args.args.now) c.in-Some-Some-Some.v c.in-Some-Some-Some.c c.in-Some-Some-Some.n c.byte_of.result
    c.in-Some-Some-Some.ensures c.in-Some-Some-Some.ensures' c.in-Some-Some-Some.ensures'' (simp (to_z-of_z, first) at c.byte_of.ensures))
    (simp (to_z-of_z, second) at c.memset.ensures.answers)
