-- Definition: types in another arena: aggregates have other numbers there, and qualifiers are kept or dropped.
use Rattle.std.specs.Prelude.{◌≡◌, ℕ, ◌<◌, ◌≤◌, Bool, true, false, if◌then◌else◌, List, [], ◌∷◌, Some, length, slice_get, slice_index_or}
use Rattle.cil_base.specs.declared.numbers.AggId.{AggId}
use Rattle.cil_base.specs.declared.numbers.TypeId.{TypeId}
use Rattle.type_graph.specs.declared.nodes.Quals.{Quals}
use Rattle.type_graph.specs.Shapes.{Shape, Shapes, VoidType, IntType, PtrType, ArrayType, FuncType, AggType, NoTypes, MoreTypes, shape}
use Rattle.type_graph.specs.Arena.{Graph}

-- qualifiers, kept or dropped
abbrev pub kept_quals : Bool → Quals → Quals
kept_quals keep q = if keep then q else record { constant = false; restricted = false }

abbrev mutual
  -- a type with the numbers that f gives to aggregates
  pub mapped_shape : (ℕ → ℕ) → Bool → Shape → Shape
  mapped_shape f keep VoidType = VoidType
  mapped_shape f keep (IntType kind) = IntType kind
  mapped_shape f keep (PtrType q s) = PtrType (kept_quals keep q) (mapped_shape f keep s)
  mapped_shape f keep (ArrayType q s bound) = ArrayType (kept_quals keep q) (mapped_shape f keep s) bound
  mapped_shape f keep (FuncType ret params proto variadic) = FuncType (mapped_shape f keep ret) (mapped_shapes f keep params) proto variadic
  mapped_shape f keep (AggType a) = AggType (f a)

  pub mapped_shapes : (ℕ → ℕ) → Bool → Shapes → Shapes
  mapped_shapes f keep NoTypes = NoTypes
  mapped_shapes f keep (MoreTypes s ss) = MoreTypes (mapped_shape f keep s) (mapped_shapes f keep ss)

-- the number that a table gives to an aggregate; beyond the table it says nothing
abbrev pub number_in : List AggId → ℕ → ℕ
number_in table a = (slice_index_or table a (record { 0 = 0 })).0

-- each type of the table has, in the second arena, the mapped shape of the type at its place in the first
pub record Maps (first second : Graph) (f : ℕ → ℕ) (keep : Bool) (types : List TypeId) : Type 0 where
  pub each : (t : ℕ) (u : TypeId) → slice_get types t ≡ Some u → (u.0 < length second.nodes) × (shape second.nodes u.0 ≡ mapped_shape f keep (shape first.nodes t))

-- the second arena gained no type but those that the table names
pub record GainsMapped (old new : Graph) (types : List TypeId) : Type 0 where
  pub each : (v : ℕ) → length old.nodes ≤ v → v < length new.nodes → (t : ℕ) × (slice_get types t ≡ Some (record { 0 = v }))
