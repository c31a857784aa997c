use Rattle.std.proofs.Common.{◌≡◌, take}
use Rattle.cil_bodies.specs.Bodies.{names_of}
use Rattle.cil_bodies.proofs.bodies.names_of.Given as goal

abbrev pub invariant-loop-i : goal.invariant-loop-i
invariant-loop-i l = l.names.items ≡ names_of (take l.i l.locals)
