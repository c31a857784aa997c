-- Definition: types as shapes (C11 6.2.5). A type's number is followed down to aggregates, so that no later definition speaks of numbers of types.
use Rattle.std.specs.Prelude.{ℕ, Bool, List, [], ◌∷◌, ◌++◌, Option, slice_index_or}
use Rattle.cil_base.specs.declared.kinds.IntKind.{IntKind}
use Rattle.cil_base.specs.declared.numbers.TypeId.{TypeId}
use Rattle.type_graph.specs.declared.nodes.Quals.{Quals}
use Rattle.type_graph.specs.declared.nodes.Node.{Node}
use Rattle.type_graph.specs.declared.nodes.Node.TheVariants.{Void, Int, Ptr, Array, Func, Agg}

mutual
  -- a type; an aggregate is named by its number
  pub data Shape : Type 0 where
    VoidType : Shape
    IntType : IntKind → Shape
    PtrType : Quals → Shape → Shape
    ArrayType : Quals → Shape → Option ℕ → Shape
    FuncType : Shape → Shapes → Bool → Bool → Shape
    AggType : ℕ → Shape

  -- the types of parameters
  pub data Shapes : Type 0 where
    NoTypes : Shapes
    MoreTypes : Shape → Shapes → Shapes

abbrev pub shapes_of : (ℕ → Shape) → List TypeId → Shapes
shapes_of at [] = NoTypes
shapes_of at (p ∷ ps) = MoreTypes (at p.0) (shapes_of at ps)

-- the shape of a node, from the shapes of those that it names
abbrev pub shape_of : (ℕ → Shape) → Node → Shape
shape_of at Void = VoidType
shape_of at (Int kind) = IntType kind
shape_of at (Ptr q) = PtrType q.quals (at q.of.0)
shape_of at (Array q bound) = ArrayType q.quals (at q.of.0) bound
shape_of at (Func proto variadic ret params) = FuncType (at ret.0) (shapes_of at params) proto variadic
shape_of at (Agg a) = AggType a.0

-- the shapes of nodes, each of which names only earlier ones
abbrev pub shapes_from : List Shape → List Node → List Shape
shapes_from before [] = before
shapes_from before (n ∷ ns) = shapes_from (before ++ shape_of (λ k. slice_index_or before k VoidType) n ∷ []) ns

-- the shape of a type
unfoldable pub shape : List Node → ℕ → Shape
shape nodes t = slice_index_or (shapes_from [] nodes) t VoidType
