use Rattle.std.proofs.Common.{◌≡◌, ◌≤◌, ◌++◌, length, take, drop}
use Rattle.static_rename.specs.Within.{named_params}
use Rattle.static_rename.proofs.bodies.put_params.Given as goal

abbrev pub invariant-loop-i : goal.invariant-loop-i
invariant-loop-i l = (length l.params.items ≤ length l.names) × (named_params l.fn.params.items l.names ≡ take l.i l.params.items ++ named_params (drop l.i l.params.items) (drop l.i l.names))
