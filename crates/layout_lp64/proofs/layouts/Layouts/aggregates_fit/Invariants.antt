use Rattle.std.proofs.Common.{◌≡◌, ℕ, ◌<◌, false}
use Rattle.layout_lp64.specs.Tables.{whole_found, is_large}
use Rattle.layout_lp64.proofs.layouts.Layouts.aggregates_fit.Given as goal

abbrev pub invariant-loop-a : goal.invariant-loop-a
invariant-loop-a l = (b : ℕ) → b < l.a → is_large (whole_found l.self.aggs b) ≡ false
