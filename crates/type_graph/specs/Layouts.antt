-- Definition: sizes, alignments and offsets (C11 6.5.3.4, 6.7.2.1p15 to p18), by recursion over nesting by value. The numbers are own: each scalar is aligned to its size.
use Rattle.std.specs.Prelude.{ℕ, zero, suc, ◌+◌, ◌-◌, ◌*◌, ◌/◌, ◌^◌, max, List, [], ◌∷◌, ◌++◌, Option, Some, None, map, slice_get}
use Rattle.std.specs.Option.{option_map, option_and_then}
use Rattle.cil_base.specs.declared.kinds.Abi.{Abi}
use Rattle.cil_base.specs.declared.kinds.IntKind.TheVariants.{Int as int}
use Rattle.cil_base.specs.Integer.{size_of, pointer_size_of}
use Rattle.type_graph.specs.declared.aggregates.AggKind.{AggKind}
use Rattle.type_graph.specs.declared.aggregates.AggKind.TheVariants.{Struct, Union, Enum}
use Rattle.type_graph.specs.declared.aggregates.Member.{Member}
use Rattle.type_graph.specs.declared.aggregates.Aggregate.{Aggregate}
use Rattle.type_graph.specs.declared.layout.Layout.{Layout}
use Rattle.type_graph.specs.declared.nodes.Node.{Node}
use Rattle.type_graph.specs.Shapes.{Shape, VoidType, IntType, PtrType, ArrayType, FuncType, AggType, shape}
use Rattle.type_graph.specs.Arena.{Graph}

-- the layout of an aggregate: its own, and the offsets of its members in order
pub record AggLayout : Type 0 where
  pub whole : Layout
  pub offsets : List ℕ

-- the least multiple of the alignment that is not below n
abbrev pub round_up : ℕ → ℕ → ℕ
round_up n align = (n + (align - 1)) / align * align

abbrev pub scalar : ℕ → Layout
scalar n = record { size = n; align = n }

abbrev pub array_of : ℕ → Layout → Layout
array_of n l = record { size = n * l.size; align = l.align }

-- a flexible array takes no room, but its elements' alignment counts (6.7.2.1p18)
abbrev pub without_elements : Layout → Layout
without_elements l = record { size = 0; align = l.align }

-- the layout of a complete type, from those of the aggregates
abbrev pub layout_in : Abi → (ℕ → Option Layout) → Shape → Option Layout
layout_in abi aggs VoidType = None
layout_in abi aggs (IntType kind) = Some (scalar (size_of kind))
layout_in abi aggs (PtrType quals s) = Some (scalar (pointer_size_of abi))
layout_in abi aggs (ArrayType quals s None) = None
layout_in abi aggs (ArrayType quals s (Some n)) = option_map (array_of n) (layout_in abi aggs s)
layout_in abi aggs (FuncType ret params proto variadic) = None
layout_in abi aggs (AggType a) = aggs a

-- the layout of a member
abbrev pub member_in : Abi → (ℕ → Option Layout) → Shape → Option Layout
member_in abi aggs VoidType = None
member_in abi aggs (IntType kind) = Some (scalar (size_of kind))
member_in abi aggs (PtrType quals s) = Some (scalar (pointer_size_of abi))
member_in abi aggs (ArrayType quals s None) = option_map without_elements (layout_in abi aggs s)
member_in abi aggs (ArrayType quals s (Some n)) = option_map (array_of n) (layout_in abi aggs s)
member_in abi aggs (FuncType ret params proto variadic) = None
member_in abi aggs (AggType a) = aggs a

-- members that were placed: where they end, the greatest alignment, and the offsets
pub record Placed : Type 0 where
  pub end : ℕ
  pub align : ℕ
  pub offsets : List ℕ

abbrev pub nothing_placed : Placed
nothing_placed = record { end = 0; align = 1; offsets = [] }

-- a member of a struct stands at the least offset behind those before that fits its alignment (6.7.2.1p15)
abbrev pub placed_behind : Placed → Layout → Placed
placed_behind p l = record { end = round_up p.end l.align + l.size; align = max p.align l.align; offsets = p.offsets ++ round_up p.end l.align ∷ [] }

-- the members of a union all stand at its beginning (6.7.2.1p16)
abbrev pub placed_over : Placed → Layout → Placed
placed_over p l = record { end = max p.end l.size; align = max p.align l.align; offsets = p.offsets ++ 0 ∷ [] }

-- members placed in order
abbrev pub placed_all : (Placed → Layout → Placed) → (Member → Option Layout) → Placed → List Member → Option Placed
placed_all step of p [] = Some p
placed_all step of p (m ∷ ms) = option_and_then (λ (l : Layout). placed_all step of (step p l) ms) (of m)

-- a size is rounded up to the greatest alignment (6.7.2.1p17)
abbrev pub finished : Placed → AggLayout
finished p = record { whole = record { size = round_up p.end p.align; align = p.align }; offsets = p.offsets }

-- each enum is an int (own, 6.7.2.2p4)
abbrev pub enum_layout : List Member → AggLayout
enum_layout ms = record { whole = scalar (size_of int); offsets = map (λ (m : Member). 0) ms }

abbrev pub members_layout : AggKind → (Member → Option Layout) → List Member → Option AggLayout
members_layout Struct of ms = option_map finished (placed_all placed_behind of nothing_placed ms)
members_layout Union of ms = option_map finished (placed_all placed_over of nothing_placed ms)
members_layout Enum of ms = Some (enum_layout ms)

-- the layout of an aggregate, from those of the aggregates within it
abbrev pub aggregate_in : Abi → List Node → (ℕ → Option Layout) → Aggregate → Option AggLayout
aggregate_in abi nodes aggs x = option_and_then (members_layout x.kind (λ (m : Member). member_in abi aggs (shape nodes m.ty.of.0))) x.members

abbrev pub whole_of : Option AggLayout → Option Layout
whole_of o = option_map (λ (l : AggLayout). l.whole) o

-- the layout of an aggregate whose nesting by value is at most so deep
abbrev pub agg_at : ℕ → Graph → ℕ → Option AggLayout
agg_at zero g a = None
agg_at (suc depth) g a = option_and_then (aggregate_in g.abi g.nodes (λ b. whole_of (agg_at depth g b))) (slice_get g.aggs a)

-- there are fewer than 2 ^ 32 aggregates, and each stands behind those within it: no nesting is deeper
unfoldable pub agg_layout : Graph → ℕ → Option AggLayout
agg_layout g a = agg_at (2 ^ 32) g a

-- the size and alignment of a complete object type; none of another
abbrev pub layout : Graph → ℕ → Option Layout
layout g t = layout_in g.abi (λ b. whole_of (agg_layout g b)) (shape g.nodes t)

-- the offset of a member
abbrev pub offset : Graph → ℕ → ℕ → Option ℕ
offset g a i = option_and_then (λ (l : AggLayout). slice_get l.offsets i) (agg_layout g a)
