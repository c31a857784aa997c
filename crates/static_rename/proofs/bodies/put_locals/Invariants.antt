use Rattle.std.proofs.Common.{◌≡◌, ◌++◌, length, take, drop}
use Rattle.static_rename.specs.Within.{named_locals}
use Rattle.static_rename.proofs.bodies.put_locals.Given as goal

abbrev pub invariant-loop-i : goal.invariant-loop-i
invariant-loop-i l = (length l.locals.items ≡ length l.names) × (named_locals l.fn.locals.items l.names ≡ take l.i l.locals.items ++ named_locals (drop l.i l.locals.items) (drop l.i l.names))
