use Rattle.std.proofs.Common.{◌≡◌, take}
use Rattle.lower_parts.specs.Code.{before_last}
use Rattle.lower_parts.proofs.calls.before_effects.Given as goal

abbrev pub invariant-loop-i : goal.invariant-loop-i
invariant-loop-i l = l.last ≡ before_last (take l.i l.arguments)
