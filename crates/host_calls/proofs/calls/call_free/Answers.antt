use Rattle.std.proofs.Common.{ap, Option}
use Rattle.byte_mem.specs.declared.values.Value.{Value}
use Rattle.byte_mem.specs.Store.{memory}
use Rattle.host_calls.specs.Host.{with_value, free}
use Rattle.host_calls.specs.Counted.{state}
use Rattle.host_calls.proofs.CountLemmas.{answers_along}
use Rattle.host_calls.proofs.calls.call_free.Goals as goal

pub returns-in-Some-clause-answers : goal.returns-in-Some-clause-answers
returns-in-Some-clause-answers c =
    answers_along c.free.result _ _ _ _ (ap (λ (o : Option Value). with_value (state (memory c.args.mem.now) c.args.io.now) o (λ v. free (state (memory c.args.mem.now) c.args.io.now) v)) c.in-Some.ensures) c.free.ensures.answers
