use Rattle.std.proofs.Common.{◌≡◌, ℕ, ◌<◌, ◌≤◌, false, Some, slice_get, get_or}
use Rattle.std.specs.Option.{option_map}
use Rattle.cil_base.specs.declared.numbers.AggId.{AggId}
use Rattle.layout_lp64.specs.Capped.{copies}
use Rattle.layout_lp64.specs.Tables.{whole_found, is_large}
use Rattle.layout_lp64.proofs.layouts.Layouts.aggs_fit.Given as goal

abbrev pub invariant-loop-i : goal.invariant-loop-i
invariant-loop-i l = (i : ℕ) (a : AggId) → l.first ≤ i → i < l.i → slice_get l.g.completed i ≡ Some a → is_large (option_map (copies (get_or l.self.most.items a.0 0)) (whole_found l.self.aggs a.0)) ≡ false
