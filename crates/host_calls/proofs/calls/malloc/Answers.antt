use Rattle.std.proofs.Common.{ap, ℕ}
use Rattle.std.proofs.lemmas.Int.{to_z-of_z}
use Rattle.byte_mem.specs.Store.{memory}
use Rattle.host_calls.specs.Host.{malloc}
use Rattle.host_calls.specs.Counted.{state}
use Rattle.host_calls.proofs.CountLemmas.{answers_along}
use Rattle.host_calls.proofs.calls.malloc.Goals as goal

pub returns-else-from-io-clause-answers : goal.returns-else-from-io-clause-answers
returns-else-from-io-clause-answers c =
    answers_along c.make_object.result _ _ _ _ (ap (λ (n : ℕ). malloc (state (memory c.args.mem.now) c.args.io.now) n) (simp (to_z-of_z, c.ranges.n) at c.in-Some.ensures)) c.make_object.ensures.answers
