use Rattle.std.proofs.Common.{◌≡◌, drop}
use Rattle.cast_rules.specs.Calls.{is_any_unreadable}
use Rattle.cast_rules.proofs.calls.is_any_unreadable.Given as goal

abbrev pub invariant-loop-i : goal.invariant-loop-i
invariant-loop-i l = is_any_unreadable l.t (drop l.i l.arguments) ≡ is_any_unreadable l.t l.arguments
