-- Device: which structs and unions are known to have a const member.
use Rattle.std.specs.Prelude.{◌≡◌, ℕ, ◌<◌, Bool, List, Some, slice_get, ◌⊎◌, IsTrue, ◌↔◌}
use Rattle.std.specs.HashSet.{contains}
use Rattle.cil_base.specs.declared.numbers.AggId.{AggId}
use Rattle.cil_base.specs.contracts.numbers.AggIdPartialEq.TheImpl.{ghosts}
use Rattle.type_graph.specs.declared.aggregates.Member.{Member}
use Rattle.type_graph.specs.Shapes.{Shape, VoidType, IntType, PtrType, ArrayType, FuncType, AggType, shape}
use Rattle.type_graph.specs.Arena.{Graph, members_of}
use Rattle.unit_types.specs.declared.constants.ConstantMembers.{ConstantMembers}
use Rattle.unit_types.specs.Constants.{HasConstant, HasConstantMember}

abbrev pub is_found : ConstantMembers → AggId → Bool
is_found c a = contains ghosts.eq c.found a

-- one of the members is const, or has a const part
abbrev pub AnyConstant : Graph → List Member → Type 0
AnyConstant g ms = (i : ℕ) × (m : Member) × (slice_get ms i ≡ Some m) × HasConstant g m.ty.quals (shape g.nodes m.ty.of.0)

-- of each complete aggregate it is known; of others nothing is said
pub record Knows (c : ConstantMembers) (g : Graph) : Type 0 where
  pub at : (a : AggId) (ms : List Member) → members_of g.aggs a.0 ≡ Some ms → IsTrue (is_found c a) ↔ HasConstantMember g a.0

-- what is known of an arena is known of the next one
pub record KeepsKnown (old new : Graph) : Type 0 where
  pub keep : (c : ConstantMembers) → Knows c old → Knows c new

-- so it is where, of the aggregate that is completed, it is known whether one of these members is const
pub record KnowsCompleted (a : AggId) (ms : List Member) (old new : Graph) : Type 0 where
  pub keep : (c : ConstantMembers) → (IsTrue (is_found c a) ↔ AnyConstant old ms) → Knows c old → Knows c new

-- a part of an object of the type is const, whether the object is or not
abbrev pub InPart : Graph → Shape → Type 0
InPart g VoidType = ⊥
InPart g (IntType kind) = ⊥
InPart g (PtrType quals s) = ⊥
InPart g (ArrayType quals s bound) = (IsTrue quals.constant) ⊎ InPart g s
InPart g (FuncType ret params proto variadic) = ⊥
InPart g (AggType a) = HasConstantMember g a

-- none of the members before a place is const, or has a const part
pub record NoneBefore (g : Graph) (ms : List Member) (i : ℕ) : Type 0 where
  pub none : (k : ℕ) (m : Member) → k < i → slice_get ms k ≡ Some m → HasConstant g m.ty.quals (shape g.nodes m.ty.of.0) → ⊥
