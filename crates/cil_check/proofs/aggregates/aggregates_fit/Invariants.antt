use Rattle.std.proofs.Common.{◌≡◌, ℕ, ◌<◌, true}
use Rattle.cil_check.specs.Rules.{aggregate_fits_at}
use Rattle.cil_check.proofs.aggregates.aggregates_fit.Given as goal

abbrev pub invariant-loop-a : goal.invariant-loop-a
invariant-loop-a l = (t : ℕ) → t < l.a → aggregate_fits_at l.g t ≡ true
