-- Definition: compatible types within one translation unit (C11 6.2.7p1), where an enum is compatible with int (6.7.2.2p4, own).
use Rattle.std.specs.Prelude.{ℕ, Bool, true, false, ◌&&◌, not, nat_eq, nat_lt, List, Option, Some, None, slice_get}
use Rattle.std.specs.Bool.{beq}
use Rattle.cil_base.specs.declared.kinds.IntKind.{IntKind}
use Rattle.cil_base.specs.declared.kinds.IntKind.TheVariants.{Int as int}
use Rattle.cil_base.specs.Integer.{rank_of}
use Rattle.type_graph.specs.declared.aggregates.AggKind.TheVariants.{Struct, Union, Enum}
use Rattle.type_graph.specs.declared.aggregates.Aggregate.{Aggregate}
use Rattle.type_graph.specs.declared.nodes.Quals.{Quals}
use Rattle.type_graph.specs.Shapes.{Shape, Shapes, VoidType, IntType, PtrType, ArrayType, FuncType, AggType, NoTypes, MoreTypes}
use Rattle.cil_base.specs.Kinds.{same_kind}

-- qualified types are compatible only where they are qualified alike (6.7.3p10)
abbrev pub same_quals : Quals → Quals → Bool
same_quals p q = beq p.constant q.constant && beq p.restricted q.restricted

abbrev pub is_enum_kind : Option Aggregate → Bool
is_enum_kind None = false
is_enum_kind (Some x) = elim x.kind [ Struct ↦ false | Union ↦ false | Enum ↦ true ]

abbrev pub is_enum : List Aggregate → ℕ → Bool
is_enum aggs a = is_enum_kind (slice_get aggs a)

abbrev pub is_int : IntKind → Bool
is_int kind = same_kind kind int

-- the bounds of two arrays are equal where both are known (6.7.6.2p6)
abbrev pub same_bounds : Option ℕ → Option ℕ → Bool
same_bounds None n = true
same_bounds (Some m) None = true
same_bounds (Some m) (Some n) = nat_eq m n

-- a parameter's type is compatible with what the default argument promotions make of it (6.3.1.1p2, 6.5.2.2p6): all but the integer types that are narrower than int
abbrev pub survives : Shape → Bool
survives VoidType = true
survives (IntType kind) = not (nat_lt (rank_of kind) (rank_of int))
survives (PtrType quals s) = true
survives (ArrayType quals s bound) = true
survives (FuncType ret params proto variadic) = true
survives (AggType a) = true

abbrev pub all_survive : Shapes → Bool
all_survive NoTypes = true
all_survive (MoreTypes s ss) = survives s && all_survive ss

-- a prototype that may meet a function without one: it has no `...`, and its parameters survive the promotions (6.7.6.3p15)
abbrev pub plain_prototype : Shapes → Bool → Bool
plain_prototype params variadic = not variadic && all_survive params

abbrev mutual
  pub compatible_shape : List Aggregate → Shape → Shape → Bool
  compatible_shape aggs VoidType VoidType = true
  compatible_shape aggs (IntType k) (IntType j) = same_kind k j
  compatible_shape aggs (IntType k) (AggType b) = is_int k && is_enum aggs b
  compatible_shape aggs (PtrType p s) (PtrType q t) = same_quals p q && compatible_shape aggs s t
  compatible_shape aggs (ArrayType p s m) (ArrayType q t n) = same_quals p q && (same_bounds m n && compatible_shape aggs s t)
  compatible_shape aggs (FuncType r ps true v) (FuncType u qs true w) = compatible_shape aggs r u && (beq v w && compatible_shapes aggs ps qs)
  compatible_shape aggs (FuncType r ps true v) (FuncType u qs false w) = compatible_shape aggs r u && plain_prototype ps v
  compatible_shape aggs (FuncType r ps false v) (FuncType u qs true w) = compatible_shape aggs r u && plain_prototype qs w
  compatible_shape aggs (FuncType r ps false v) (FuncType u qs false w) = compatible_shape aggs r u
  compatible_shape aggs (AggType a) (AggType b) = nat_eq a b
  compatible_shape aggs (AggType a) (IntType k) = is_enum aggs a && is_int k
  compatible_shape aggs s t = false

  -- the types of parameters, as many on both sides (6.7.6.3p15)
  pub compatible_shapes : List Aggregate → Shapes → Shapes → Bool
  compatible_shapes aggs NoTypes NoTypes = true
  compatible_shapes aggs NoTypes (MoreTypes t ts) = false
  compatible_shapes aggs (MoreTypes s ss) NoTypes = false
  compatible_shapes aggs (MoreTypes s ss) (MoreTypes t ts) = compatible_shape aggs s t && compatible_shapes aggs ss ts
