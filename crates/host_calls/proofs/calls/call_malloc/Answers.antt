use Rattle.std.proofs.Common.{ap, Option, ℤ, unsigned_abs, FitsSigned, rules}
use Rattle.std.specs.Int.{w128}
use Rattle.std.proofs.lemmas.Int.{to_z-of_z}
use Rattle.byte_mem.specs.Store.{memory}
use Rattle.host_calls.specs.Host.{with_number, malloc}
use Rattle.host_calls.specs.Counted.{state}
use Rattle.host_calls.proofs.CountLemmas.{answers_along}
use Rattle.host_calls.proofs.calls.call_malloc.Goals as goal

pub returns-in-Some-clause-answers : goal.returns-in-Some-clause-answers
returns-in-Some-clause-answers c =
    let fits : FitsSigned w128 c.in-Some.n = search rules in
    answers_along c.malloc.result _ _ _ _ (ap (λ (o : Option ℤ). with_number (state (memory c.args.mem.now) c.args.io.now) o (λ n. malloc (state (memory c.args.mem.now) c.args.io.now) (unsigned_abs n))) c.in-Some.ensures) (simp (to_z-of_z, fits) at c.malloc.ensures.answers)
