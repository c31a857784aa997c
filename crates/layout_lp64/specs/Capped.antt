-- Device: layouts whose numbers stop at 2 ^ 31, which no object reaches.
use Rattle.std.specs.Prelude.{ℕ, ◌+◌, ◌*◌, min, max, Bool, true, false, List, [], ◌∷◌, ◌++◌, Option, Some, None, map}
use Rattle.std.specs.Option.{option_map, option_and_then}
use Rattle.cil_base.specs.declared.kinds.Abi.{Abi}
use Rattle.cil_base.specs.Integer.{size_of, pointer_size_of}
use Rattle.type_graph.specs.declared.aggregates.AggKind.{AggKind}
use Rattle.type_graph.specs.declared.aggregates.AggKind.TheVariants.{Struct, Union, Enum}
use Rattle.type_graph.specs.declared.aggregates.Aggregate.{Aggregate}
use Rattle.type_graph.specs.declared.aggregates.Member.{Member}
use Rattle.type_graph.specs.declared.layout.Layout.{Layout}
use Rattle.type_graph.specs.declared.nodes.Node.{Node}
use Rattle.type_graph.specs.declared.nodes.Node.TheVariants.{Void, Int, Ptr, Array, Func, Agg}
use Rattle.type_graph.specs.Shapes.{Shape, VoidType, IntType, PtrType, ArrayType, FuncType, AggType, shape}
use Rattle.type_graph.specs.Layouts.{AggLayout, Placed, round_up, scalar, without_elements, nothing_placed, enum_layout}
use Rattle.layout_lp64.specs.declared.spans.Span.{Span}
use Rattle.layout_lp64.specs.declared.spans.Span.TheVariants.{Nothing, Fixed, Copies}

abbrev pub cap : ℕ → ℕ
cap n = min n 2147483648

abbrev pub capped : Layout → Layout
capped l = record { size = cap l.size; align = l.align }

abbrev pub capped_agg : AggLayout → AggLayout
capped_agg l = record { whole = capped l.whole; offsets = map cap l.offsets }

abbrev pub capped_placed : Placed → Placed
capped_placed p = record { end = cap p.end; align = p.align; offsets = map cap p.offsets }

-- so many copies
abbrev pub times : ℕ → Span → Span
times n Nothing = Nothing
times n (Fixed l) = Fixed (record { size = cap (n * l.size); align = l.align })
times n (Copies a k) = Copies a (cap (n * k))

-- the span of a node, from the spans of those that it names
abbrev pub span_of : Abi → (ℕ → Span) → Node → Span
span_of abi at Void = Nothing
span_of abi at (Int kind) = Fixed (scalar (size_of kind))
span_of abi at (Ptr q) = Fixed (scalar (pointer_size_of abi))
span_of abi at (Array q None) = Nothing
span_of abi at (Array q (Some n)) = times n (at q.of.0)
span_of abi at (Func proto variadic ret params) = Nothing
span_of abi at (Agg a) = Copies a 1

abbrev pub span_shape : Abi → Shape → Span
span_shape abi VoidType = Nothing
span_shape abi (IntType kind) = Fixed (scalar (size_of kind))
span_shape abi (PtrType quals s) = Fixed (scalar (pointer_size_of abi))
span_shape abi (ArrayType quals s None) = Nothing
span_shape abi (ArrayType quals s (Some n)) = times n (span_shape abi s)
span_shape abi (FuncType ret params proto variadic) = Nothing
span_shape abi (AggType a) = Copies (record { 0 = a }) 1

abbrev pub copies : ℕ → Layout → Layout
copies k l = record { size = cap (k * l.size); align = l.align }

-- the layout of a span, from those of the aggregates
abbrev pub resolve : (ℕ → Option Layout) → Span → Option Layout
resolve aggs Nothing = None
resolve aggs (Fixed l) = Some l
resolve aggs (Copies a k) = option_map (copies k) (aggs a.0)

abbrev pub member_span : Abi → (ℕ → Option Layout) → Shape → Option Layout
member_span abi aggs VoidType = None
member_span abi aggs (IntType kind) = Some (scalar (size_of kind))
member_span abi aggs (PtrType quals s) = Some (scalar (pointer_size_of abi))
member_span abi aggs (ArrayType quals s None) = option_map without_elements (resolve aggs (span_shape abi s))
member_span abi aggs (ArrayType quals s (Some n)) = resolve aggs (times n (span_shape abi s))
member_span abi aggs (FuncType ret params proto variadic) = None
member_span abi aggs (AggType a) = option_map (copies 1) (aggs a)

abbrev pub capped_behind : Placed → Layout → Placed
capped_behind p l = record { end = cap (cap (round_up p.end l.align) + l.size); align = max p.align l.align; offsets = p.offsets ++ cap (round_up p.end l.align) ∷ [] }

abbrev pub capped_over : Placed → Layout → Placed
capped_over p l = record { end = max p.end l.size; align = max p.align l.align; offsets = p.offsets ++ 0 ∷ [] }

abbrev pub capped_step : Bool → Placed → Layout → Placed
capped_step over p l = elim over [ true ↦ capped_over p l | false ↦ capped_behind p l ]

abbrev pub capped_all : Bool → (Member → Option Layout) → Placed → List Member → Option Placed
capped_all over of p [] = Some p
capped_all over of p (m ∷ ms) = option_and_then (λ (l : Layout). capped_all over of (capped_step over p l) ms) (of m)

abbrev pub capped_finished : Placed → AggLayout
capped_finished p = record { whole = record { size = cap (round_up p.end p.align); align = p.align }; offsets = p.offsets }

abbrev pub capped_members : AggKind → (Member → Option Layout) → List Member → Option AggLayout
capped_members Struct of ms = option_map capped_finished (capped_all false of nothing_placed ms)
capped_members Union of ms = option_map capped_finished (capped_all true of nothing_placed ms)
capped_members Enum of ms = Some (enum_layout ms)

abbrev pub capped_aggregate : Abi → List Node → (ℕ → Option Layout) → Aggregate → Option AggLayout
capped_aggregate abi nodes aggs x = option_and_then (capped_members x.kind (λ (m : Member). member_span abi aggs (shape nodes m.ty.of.0))) x.members
