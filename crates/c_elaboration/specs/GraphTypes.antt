-- Definition: the types of a typed unit that come from a graph have the data model, the sizes and the offsets that the graph gives them, and the same enumerated types (C11 6.2.5, 6.5.3.4, 6.7.2.1p15 to p18).
use Rattle.std.specs.Prelude.{◌≡◌, ℕ, false}
use Rattle.type_graph.specs.Arena.{Graph, IsArena}
use Rattle.type_graph.specs.Layouts.{offset}
use Rattle.cil_tree.specs.Typing.{names_enum}
use Rattle.cil_semantics.specs.Values.{sizes_of as graph_sizes}
use Rattle.c_rules.specs.Types.{offset_in}
use Rattle.c_semantics.specs.Values.{sizes_of}
use Rattle.typed_semantics.specs.Units.{types_of}

pub record AreOfGraph (g : Graph) : Type 0 where
  -- all that operators, conversions and tests ask of types
  pub sizes : sizes_of (types_of g) ≡ graph_sizes g
  -- of structures and unions
  pub offsets : (a i : ℕ) → names_enum g a ≡ false → offset_in (types_of g) a i ≡ offset g a i

abbrev pub TypesAreOfGraph : Type 0
TypesAreOfGraph = (g : Graph) → IsArena g → AreOfGraph g
