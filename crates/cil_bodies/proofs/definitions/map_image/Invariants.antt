use Rattle.cil_bodies.specs.Maps.{MapsItem}
use Rattle.cil_bodies.proofs.Replaced.{Replaced}
use Rattle.cil_bodies.proofs.definitions.map_image.Given as goal

abbrev pub invariant-loop-i : goal.invariant-loop-i
invariant-loop-i l = Replaced (MapsItem l.m) l.i l.fn.items.items l.items.items
