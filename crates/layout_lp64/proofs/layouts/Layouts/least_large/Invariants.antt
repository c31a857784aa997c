use Rattle.std.proofs.Common.{◌≡◌, ℕ, ◌<◌, false}
use Rattle.layout_lp64.specs.Tables.{found, is_large}
use Rattle.layout_lp64.proofs.layouts.Layouts.least_large.Given as goal

abbrev pub invariant-loop-t : goal.invariant-loop-t
invariant-loop-t l = (s : ℕ) → s < l.t → is_large (found l.self s) ≡ false
