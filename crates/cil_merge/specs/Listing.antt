-- Definition: the objects and functions of the program that units become, in its order: those of one unit behind those of another, and an external name, which is one object or function in all units (C11 6.2.2p2), where it stands first. The order is own.
use Rattle.std.specs.Prelude.{Bool, ◌&&◌, not, List, [], ◌∷◌, ◌++◌, nat_eq, map, filter}
use Rattle.cil_base.specs.declared.numbers.NameId.{NameId}
use Rattle.cil_tree.specs.declared.globals.GlobalDecl.{GlobalDecl}
use Rattle.link_names.specs.declared.units.Fronted.{Fronted}

-- the name of an object or function, and whether it is internal
abbrev pub Mark : Type 0
Mark = NameId × Bool

abbrev pub mark : GlobalDecl → Mark
mark g = (g.name, g.internal)

-- the object or function is external, under this name
abbrev pub is_external : NameId → Mark → Bool
is_external n m = not m.1 && nat_eq n.0 m.0.0

-- both are external, under one name
abbrev pub is_one : Mark → Mark → Bool
is_one first next = not next.1 && is_external next.0 first

-- each object and function once, at its first place
abbrev pub once_each : List Mark → List Mark
once_each [] = []
once_each (m ∷ ms) = m ∷ filter (λ k. not (is_one m k)) (once_each ms)

-- the objects and functions of units, those of one behind those of another
abbrev pub marks_of : List Fronted → List Mark
marks_of [] = []
marks_of (f ∷ fs) = map mark f.cil.globals.items ++ marks_of fs
