-- Device: one type is mapped, by a table of those before it.
use Rattle.std.specs.Prelude.{◌≡◌, ℕ, ◌<◌, Bool, List, [], ◌∷◌, length, slice_index_or}
use Rattle.cil_base.specs.declared.numbers.TypeId.{TypeId}
use Rattle.type_graph.specs.declared.nodes.Node.{Node}
use Rattle.type_graph.specs.declared.nodes.Node.TheVariants.{Void, Int, Ptr, Array, Func, Agg}
use Rattle.type_graph.specs.Shapes.{Shape, VoidType, IntType, PtrType, ArrayType, FuncType, AggType, shape, shapes_of}
use Rattle.type_graph.specs.Arena.{Graph, EachType}
use Rattle.type_graph.specs.Growth.{Grows, KeepsAggregates}
use Rattle.map_graph.specs.Mapped.{kept_quals, Maps, GainsMapped}

-- the number that a table gives to a type
abbrev pub type_in : List TypeId → ℕ → ℕ
type_in types t = (slice_index_or types t (record { 0 = 0 })).0

-- the types that stand in a table at the places of others
abbrev pub at_places : List TypeId → List TypeId → List TypeId
at_places types [] = []
at_places types (p ∷ ps) = slice_index_or types p.0 (record { 0 = 0 }) ∷ at_places types ps

-- the shape of a node whose parts are mapped
abbrev pub node_mapped : Graph → List TypeId → (ℕ → ℕ) → Bool → Node → Shape
node_mapped g types f keep Void = VoidType
node_mapped g types f keep (Int kind) = IntType kind
node_mapped g types f keep (Ptr q) = PtrType (kept_quals keep q.quals) (shape g.nodes (type_in types q.of.0))
node_mapped g types f keep (Array q bound) = ArrayType (kept_quals keep q.quals) (shape g.nodes (type_in types q.of.0)) bound
node_mapped g types f keep (Func proto variadic ret params) = FuncType (shape g.nodes (type_in types ret.0)) (shapes_of (shape g.nodes) (at_places types params)) proto variadic
node_mapped g types f keep (Agg a) = AggType (f a.0)

-- a type of that shape is there
pub record Gives (g : Graph) (s : Shape) (t : ℕ) : Type 0 where
  pub there : t < length g.nodes
  pub is : shape g.nodes t ≡ s

-- the first types are mapped, into an arena that grew for it
pub record IsMapping (first old second : Graph) (f : ℕ → ℕ) (keep : Bool) (types : List TypeId) (count : ℕ) : Type 0 where
  pub so_many : length types ≡ count
  pub maps : Maps first second f keep types
  pub gains : GainsMapped old second types
  pub there : EachType (length second.nodes) types
  pub grows : Grows old second
  pub aggregates : KeepsAggregates old second
