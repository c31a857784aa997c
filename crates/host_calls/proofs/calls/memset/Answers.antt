use Rattle.std.proofs.Common.{ap, sym, unsigned_abs}
use Rattle.std.proofs.lemmas.Int.{to_z-of_z}
use Rattle.byte_mem.specs.declared.values.Value.{Value}
use Rattle.byte_mem.specs.Store.{memory}
use Rattle.host_calls.specs.Host.{memset}
use Rattle.host_calls.specs.Counted.{state}
use Rattle.host_calls.proofs.CountLemmas.{answers_along}
use Rattle.host_calls.proofs.calls.memset.Goals as goal

pub returns-in-Ptr-clause-answers : goal.returns-in-Ptr-clause-answers
returns-in-Ptr-clause-answers c =
    answers_along c.fill_object.result _ _ _ _
    (ap (λ (v : Value). memset (state (memory c.args.mem.now) c.args.io.now) v c.args.b (unsigned_abs c.args.n)) (sym c.in-Ptr.is)) (simp (to_z-of_z, c.ranges.n) at c.fill_object.ensures.answers)
