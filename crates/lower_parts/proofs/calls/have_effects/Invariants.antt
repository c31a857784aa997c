use Rattle.std.proofs.Common.{◌≡◌, drop}
use Rattle.lower_parts.specs.Code.{any_effect}
use Rattle.lower_parts.proofs.calls.have_effects.Given as goal

abbrev pub invariant-loop-argument : goal.invariant-loop-argument
invariant-loop-argument l = any_effect (drop l.argument-index l.arguments) ≡ any_effect l.arguments
