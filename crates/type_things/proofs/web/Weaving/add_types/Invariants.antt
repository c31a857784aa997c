use Rattle.std.proofs.Common.{map, take}
use Rattle.type_things.specs.Units.{type_thing}
use Rattle.type_things.specs.Weaving.{Adds}
use Rattle.type_things.proofs.web.Weaving.add_types.Given as goal

abbrev pub invariant-loop-t : goal.invariant-loop-t
invariant-loop-t l = Adds l.fn.web l.web (map (type_thing l.self.first.aggregate l.self.first.ty) (take l.t l.g.nodes))
