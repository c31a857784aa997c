use Rattle.std.proofs.Common.{◌≡◌, ℕ, ◌<◌, ◌≤◌, false}
use Rattle.layout_lp64.specs.Tables.{found, is_large}
use Rattle.layout_lp64.proofs.layouts.Layouts.types_fit.Given as goal

abbrev pub invariant-loop-t : goal.invariant-loop-t
invariant-loop-t l = (t : ℕ) → l.first ≤ t → t < l.t → is_large (found l.self t) ≡ false
