-- Definition: const objects and those that have const members, and modifiable lvalues (C11 6.3.2.1p1).
use Rattle.std.specs.Prelude.{◌≡◌, ℕ, Bool, true, false, List, Option, Some, slice_get}
use Rattle.type_graph.specs.declared.aggregates.Member.{Member}
use Rattle.type_graph.specs.declared.nodes.Quals.{Quals}
use Rattle.type_graph.specs.Shapes.{Shape, VoidType, IntType, PtrType, ArrayType, FuncType, AggType, shape}
use Rattle.type_graph.specs.Arena.{Graph, members_of, complete}
use Rattle.unit_types.specs.Normal.{plain}

-- an object of the type is const, or an array with const elements, or a struct or union with a const member, at any depth
pub data HasConstant (g : Graph) : Quals → Shape → Type 0 where
  Itself : (q : Quals) (s : Shape) → q.constant ≡ true → HasConstant g q s
  InElement : (q p : Quals) (s : Shape) (bound : Option ℕ) → HasConstant g p s → HasConstant g q (ArrayType p s bound)
  InMember : (q : Quals) (a i : ℕ) (ms : List Member) (m : Member) → members_of g.aggs a ≡ Some ms → slice_get ms i ≡ Some m → HasConstant g m.ty.quals (shape g.nodes m.ty.of.0) → HasConstant g q (AggType a)

-- a struct or union has a const member, itself or in a struct, a union or an array in it
abbrev pub HasConstantMember : Graph → ℕ → Type 0
HasConstantMember g a = HasConstant g plain (AggType a)

abbrev pub is_array : Shape → Bool
is_array VoidType = false
is_array (IntType kind) = false
is_array (PtrType quals s) = false
is_array (ArrayType quals s bound) = true
is_array (FuncType ret params proto variadic) = false
is_array (AggType a) = false

-- an lvalue of the type is modifiable
pub record IsModifiable (g : Graph) (q : Quals) (t : ℕ) : Type 0 where
  pub complete : complete g t ≡ true
  pub no_array : is_array (shape g.nodes t) ≡ false
  pub no_constant : ¬ (HasConstant g q (shape g.nodes t))
