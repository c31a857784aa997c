-- Device: the types of a typed unit have the layouts of the graph that they come from.
use Rattle.std.proofs.Common.{◌≡◌, ℕ, zero, suc, ◌<◌, Bool, false, List, [], ◌∷◌, map, length, Option, Some, None, is_some, slice_get, refl, sym, ap, ◌∙◌, subst, arith}
use Rattle.std.proofs.Math.Path.{fun_ext}
use Rattle.std.specs.Option.{option_map, option_and_then}
use Rattle.type_graph.specs.declared.aggregates.AggKind.{AggKind}
use Rattle.type_graph.specs.declared.aggregates.AggKind.TheVariants.{Struct, Union, Enum}
use Rattle.type_graph.specs.declared.aggregates.Aggregate.{Aggregate}
use Rattle.type_graph.specs.declared.aggregates.Member.{Member}
use Rattle.type_graph.specs.declared.layout.Layout.{Layout}
use Rattle.type_graph.specs.declared.nodes.Node.{Node}
use Rattle.type_graph.specs.Shapes.{Shape, AggType, shape}
use Rattle.type_graph.specs.Arena.{Graph, IsArena, members_of, rank}
use Rattle.type_graph.specs.Layouts.{AggLayout, Placed, nothing_placed, placed_behind, placed_over, finished, placed_all, layout_in, member_in, members_layout, aggregate_in, whole_of, agg_at, agg_layout, offset}
use Rattle.type_graph.proofs.ArenaLaws.{count_within}
use Rattle.type_graph.proofs.LayoutLaws.{step_same, agg_layout_is, agg_layout_there}
use Rattle.cil_tree.specs.Typing.{is_enum, names_enum}
use Rattle.cil_semantics.specs.Values.{size_in}
use Rattle.c_rules.specs.Types as typed
use Rattle.typed_semantics.specs.Units.{member_of, aggregate_of, types_of}
use Rattle.c_elaboration.specs.GraphTypes.{TypesAreOfGraph}

at_map : {A B : Type 0} (f : A → B) (xs : List A) (i : ℕ) → slice_get (map f xs) i ≡ option_map f (slice_get xs i)
at_map f [] i = refl
at_map f (x ∷ xs) zero = refl
at_map f (x ∷ xs) (suc i) = at_map f xs i

-- members are placed alike
placed_same : (nodes : List Node) (step : Placed → Layout → Placed) (of : Shape → Option Layout) (p : Placed) (ms : List Member)
    → typed.placed_all step of p (map (member_of nodes) ms) ≡ placed_all step (λ (m : Member). of (shape nodes m.ty.of.0)) p ms
placed_same nodes step of p [] = refl
placed_same nodes step of p (m ∷ ms) = ap (λ (k : Layout → Option Placed). option_and_then k (of (shape nodes m.ty.of.0))) (fun_ext (λ l. placed_same nodes step of (step p l) ms))

-- the layouts of structures and unions, and the sizes of all
record Alike (k : AggKind) (o u : Option AggLayout) : Type 0 where
  whole : whole_of o ≡ whole_of u
  all : is_enum k ≡ false → o ≡ u

members_same : (nodes : List Node) (k : AggKind) (of : Shape → Option Layout) (ms : List Member) → Alike k (typed.members_layout k of (map (member_of nodes) ms)) (members_layout k (λ (m : Member). of (shape nodes m.ty.of.0)) ms)
members_same nodes Struct of ms =
    let e = ap (option_map finished) (placed_same nodes placed_behind of nothing_placed ms) in
    record { whole = ap whole_of e; all = λ h. e }
members_same nodes Union of ms =
    let e = ap (option_map finished) (placed_same nodes placed_over of nothing_placed ms) in
    record { whole = ap whole_of e; all = λ h. e }
members_same nodes Enum of ms = record { whole = refl; all = λ h. cc }

-- within a depth

typed_at : ℕ → Graph → ℕ → Option AggLayout
typed_at depth g a = typed.layout_within depth (types_of g) a

AlikeAt : Option Aggregate → Option AggLayout → Option AggLayout → Type 0
AlikeAt None o u = o ≡ u
AlikeAt (Some x) o u = Alike x.kind o u

whole_at : (x : Option Aggregate) (o u : Option AggLayout) → AlikeAt x o u → whole_of o ≡ whole_of u
unfolding AlikeAt
whole_at None o u h = ap whole_of h
whole_at (Some x) o u h = h.whole

depth_same : (g : Graph) (depth a : ℕ) → AlikeAt (slice_get g.aggs a) (typed_at depth g a) (agg_at depth g a)
unfolding AlikeAt typed_at
depth_same g zero a = by (slice_get g.aggs a)
  where
    by : (o : Option Aggregate) → AlikeAt o None None
    by None = refl
    by (Some x) = record { whole = refl; all = λ h. refl }
depth_same g (suc depth) a =
    subst (λ (o : Option typed.Aggregate). AlikeAt (slice_get g.aggs a) (option_and_then (λ (x : typed.Aggregate). option_and_then (typed.members_layout x.kind (member_in g.abi (λ b. whole_of (typed.layout_within depth (types_of g) b)))) x.members) o) (agg_at (suc depth) g a))
    (sym (at_map (aggregate_of g.nodes) g.aggs a))
    (subst (λ (f : ℕ → Option Layout). AlikeAt (slice_get g.aggs a) (option_and_then (λ (x : typed.Aggregate). option_and_then (typed.members_layout x.kind (member_in g.abi f)) x.members) (option_map (aggregate_of g.nodes) (slice_get g.aggs a))) (agg_at (suc depth) g a))
    (sym (fun_ext (λ b. whole_at (slice_get g.aggs b) (typed_at depth g b) (agg_at depth g b) (depth_same g depth b))))
    (one (slice_get g.aggs a) (λ b. whole_of (agg_at depth g b))))
  where
    members : (x : Aggregate) (f : ℕ → Option Layout) (ms : Option (List Member))
        → Alike x.kind (option_and_then (typed.members_layout x.kind (member_in g.abi f)) (option_map (map (member_of g.nodes)) ms)) (option_and_then (members_layout x.kind (λ (m : Member). member_in g.abi f (shape g.nodes m.ty.of.0))) ms)
    members x f None = record { whole = refl; all = λ h. refl }
    members x f (Some ms) = members_same g.nodes x.kind (member_in g.abi f) ms

    one : (o : Option Aggregate) (f : ℕ → Option Layout)
        → AlikeAt o (option_and_then (λ (x : typed.Aggregate). option_and_then (typed.members_layout x.kind (member_in g.abi f)) x.members) (option_map (aggregate_of g.nodes) o)) (option_and_then (aggregate_in g.abi g.nodes f) o)
    one None f = refl
    one (Some x) f = members x f x.members

-- deep enough

deep : (g : Graph) → IsArena g → (k a : ℕ) → rank g.completed a < k → agg_at k g a ≡ agg_layout g a
deep g w zero a h = absurd (omega arith)
deep g w (suc k) a h =
    step_same g w (λ b. whole_of (agg_at k g b)) (λ b. whole_of (agg_layout g b)) a (λ b below. ap whole_of (deep g w k b (omega arith))) ∙ sym (agg_layout_is g w a)

map_long : {A B : Type 0} (f : A → B) (xs : List A) → length (map f xs) ≡ length xs
map_long f [] = refl
map_long f (x ∷ xs) = ap suc (map_long f xs)

none_at : (g : Graph) (depth a : ℕ) → members_of g.aggs a ≡ None → agg_at depth g a ≡ None
none_at g zero a e = refl
none_at g (suc depth) a e = by (slice_get g.aggs a) e
  where
    members : (x : Aggregate) (o : Option (List Member)) → o ≡ None → option_and_then (members_layout x.kind (λ (m : Member). member_in g.abi (λ b. whole_of (agg_at depth g b)) (shape g.nodes m.ty.of.0))) o ≡ None
    members x None e = refl
    members x (Some ms) e = cc

    by : (o : Option Aggregate) → option_and_then (λ (x : Aggregate). x.members) o ≡ None → option_and_then (aggregate_in g.abi g.nodes (λ b. whole_of (agg_at depth g b))) o ≡ None
    by None e = refl
    by (Some x) e = members x x.members e

none_layout : (g : Graph) → IsArena g → (a : ℕ) → members_of g.aggs a ≡ None → agg_layout g a ≡ None
none_layout g w a e = by (agg_layout g a) (agg_layout_there g w a ∙ ap is_some e)
  where
    by : (o : Option AggLayout) → is_some o ≡ false → o ≡ None
    by None i = refl
    by (Some l) i = cc

settled : (g : Graph) → IsArena g → (a : ℕ) → agg_at (length g.aggs) g a ≡ agg_layout g a
settled g w a = by (members_of g.aggs a) refl
  where
    by : (o : Option (List Member)) → members_of g.aggs a ≡ o → agg_at (length g.aggs) g a ≡ agg_layout g a
    by None e = none_at g (length g.aggs) a e ∙ sym (none_layout g w a e)
    by (Some ms) e = let n = (w.nested a ms e).0 in deep g w (length g.aggs) a (omega (arith, n, w.counted, count_within g.aggs))

typed_alike : (g : Graph) → IsArena g → (a : ℕ) → AlikeAt (slice_get g.aggs a) (typed.aggregate_layout (types_of g) a) (agg_layout g a)
unfolding typed_at
typed_alike g w a =
    subst (λ n. AlikeAt (slice_get g.aggs a) (typed.layout_within n (types_of g) a) (agg_layout g a)) (sym (map_long (aggregate_of g.nodes) g.aggs))
    (subst (AlikeAt (slice_get g.aggs a) (typed.layout_within (length g.aggs) (types_of g) a)) (settled g w a) (depth_same g (length g.aggs) a))

sizes_same : (g : Graph) → IsArena g → (s : Shape) → typed.size_in (types_of g) s ≡ size_in g s
sizes_same g w s =
    ap (λ (f : ℕ → Option Layout). option_map (λ (l : Layout). l.size) (layout_in g.abi f s))
    (fun_ext (λ a. whole_at (slice_get g.aggs a) (typed.aggregate_layout (types_of g) a) (agg_layout g a) (typed_alike g w a)))

enums_same : (g : Graph) (a : ℕ) → typed.is_integer (types_of g) (AggType a) ≡ names_enum g a
enums_same g a = ap (λ (o : Option typed.Aggregate). is_some (typed.enum_kind (option_map (λ (x : typed.Aggregate). x.kind) o))) (at_map (aggregate_of g.nodes) g.aggs a) ∙ by (slice_get g.aggs a)
  where
    kind : (k : AggKind) → is_some (typed.enum_kind (Some k)) ≡ is_enum k
    kind Struct = refl
    kind Union = refl
    kind Enum = refl

    by : (o : Option Aggregate) → is_some (typed.enum_kind (option_map (λ (x : typed.Aggregate). x.kind) (option_map (aggregate_of g.nodes) o))) ≡ elim o [ None ↦ false | Some x ↦ is_enum x.kind ]
    by None = refl
    by (Some x) = kind x.kind

offsets_same : (g : Graph) → IsArena g → (a i : ℕ) → names_enum g a ≡ false → typed.offset_in (types_of g) a i ≡ offset g a i
unfolding AlikeAt
offsets_same g w a i h = ap (λ (o : Option AggLayout). option_and_then (λ (l : AggLayout). slice_get l.offsets i) o) (by (slice_get g.aggs a) (typed.aggregate_layout (types_of g) a) (agg_layout g a) (typed_alike g w a) h)
  where
    by : (x : Option Aggregate) (o u : Option AggLayout) → AlikeAt x o u → ◌≡◌ {A = Bool} (elim x [ None ↦ false | Some y ↦ is_enum y.kind ]) false → o ≡ u
    by None o u e h = e
    by (Some y) o u e h = e.all h

pub types_of_graph : TypesAreOfGraph
types_of_graph g w = record { sizes = λ i. record { abi = g.abi; size = λ s. sizes_same g w s i; is_enum = λ a. enums_same g a i }; offsets = offsets_same g w }
