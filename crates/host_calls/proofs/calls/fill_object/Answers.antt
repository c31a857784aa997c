use Rattle.std.proofs.Common.{ap, sym, ◌∙◌}
use Rattle.std.proofs.lemmas.Int.{to_z-of_z}
use Rattle.byte_mem.specs.Memory.{fill}
use Rattle.byte_mem.specs.Store.{memory}
use Rattle.host_calls.specs.Host.{filled}
use Rattle.host_calls.specs.Counted.{state}
use Rattle.host_calls.proofs.calls.fill_object.Goals as goal

pub returns-in-Some-fill-clause-answers : goal.returns-in-Some-fill-clause-answers
returns-in-Some-fill-clause-answers c =
    ap (filled (state (memory c.args.mem.now) c.args.io.now) c.args.p) (ap (λ k. fill (memory c.args.mem.now) c.args.p k c.args.b) (sym (simp (to_z-of_z, c.ranges.n) at c.in-Some.ensures)) ∙ c.in-Some-fill.ensures.0)
