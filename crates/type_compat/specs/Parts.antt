-- Definition: the types that a type is made of, at any depth (C11 6.2.5p20), and arenas that gain these alone. An aggregate is named by its number: its members are no parts.
use Rattle.std.specs.Prelude.{ℕ, ◌<◌, ◌≤◌, Bool, Option, length}
use Rattle.type_graph.specs.declared.nodes.Quals.{Quals}
use Rattle.type_graph.specs.Shapes.{Shape, Shapes, PtrType, ArrayType, FuncType, MoreTypes, shape}
use Rattle.type_graph.specs.Arena.{Graph}

mutual
  -- the first type is the second, or a part of it
  pub data IsPart : Shape → Shape → Type 0 where
    Itself : (s : Shape) → IsPart s s
    Pointee : (s t : Shape) (q : Quals) → IsPart s t → IsPart s (PtrType q t)
    Element : (s t : Shape) (q : Quals) (bound : Option ℕ) → IsPart s t → IsPart s (ArrayType q t bound)
    Returned : (s t : Shape) (ps : Shapes) (proto variadic : Bool) → IsPart s t → IsPart s (FuncType t ps proto variadic)
    Parameter : (s t : Shape) (ps : Shapes) (proto variadic : Bool) → IsAmong s ps → IsPart s (FuncType t ps proto variadic)

  -- it is one of these types, or a part of one
  pub data IsAmong : Shape → Shapes → Type 0 where
    First : (s t : Shape) (ts : Shapes) → IsPart s t → IsAmong s (MoreTypes t ts)
    Later : (s t : Shape) (ts : Shapes) → IsAmong s ts → IsAmong s (MoreTypes t ts)

-- each type that the arena gained is this one or a part of it
pub record GainsParts (old new : Graph) (s : Shape) : Type 0 where
  pub each : (v : ℕ) → length old.nodes ≤ v → v < length new.nodes → IsPart (shape new.nodes v) s

-- each type that the arena gained is one of these or a part of one
pub record GainsAmong (old new : Graph) (ss : Shapes) : Type 0 where
  pub each : (v : ℕ) → length old.nodes ≤ v → v < length new.nodes → IsAmong (shape new.nodes v) ss
