-- Device: where aggregates are mapped, a complete type keeps its size and alignment, and an aggregate the offsets of its members.
use Rattle.std.proofs.Common.{◌≡◌, ℕ, zero, suc, ◌^◌, Bool, List, [], ◌∷◌, slice_get, Option, Some, None, refl, sym, ap, ◌∙◌, subst}
use Rattle.std.specs.Option.{option_and_then, option_map}
use Rattle.cil_base.specs.declared.kinds.Abi.{Abi}
use Rattle.cil_base.specs.declared.kinds.IntKind.TheVariants.{Int as int}
use Rattle.cil_base.specs.Integer.{size_of}
use Rattle.type_graph.specs.declared.aggregates.AggKind.{AggKind}
use Rattle.type_graph.specs.declared.aggregates.AggKind.TheVariants.{Struct, Union, Enum}
use Rattle.type_graph.specs.declared.aggregates.Member.{Member}
use Rattle.type_graph.specs.declared.aggregates.Aggregate.{Aggregate}
use Rattle.type_graph.specs.declared.layout.Layout.{Layout}
use Rattle.type_graph.specs.Shapes.{Shape, VoidType, IntType, PtrType, ArrayType, FuncType, AggType, shape}
use Rattle.type_graph.specs.Arena.{Graph}
use Rattle.type_graph.specs.Layouts.{AggLayout, Placed, layout_in, member_in, placed_behind, placed_over, placed_all, nothing_placed, finished, scalar, enum_layout, members_layout, aggregate_in, whole_of, agg_at, agg_layout, layout, offset, array_of, without_elements}
use Rattle.type_graph.proofs.LayoutLaws.{at_members}
use Rattle.map_graph.specs.Mapped.{mapped_shape}
use Rattle.map_graph.specs.MappedAggregates.{MapsMembers, MapsAggregates, Stays}

stays_map : {S T : Type 0} (f : S → T) (o u : Option S) → Stays o u → Stays (option_map f o) (option_map f u)
stays_map f None u k x e = cc
stays_map f (Some s) u k x e = ap (option_map f) (k s refl) ∙ e

stays_then : {S T : Type 0} (f g : S → Option T) (o u : Option S) → Stays o u → ((s : S) → Stays (f s) (g s)) → Stays (option_and_then f o) (option_and_then g u)
stays_then f g None u k h x e = cc
stays_then f g (Some s) u k h x e = ap (option_and_then g) (k s refl) ∙ h s x e

layout_in-mapped : (abi : Abi) (u v : ℕ → Option Layout) (f : ℕ → ℕ) (keep : Bool) → ((b : ℕ) → Stays (u b) (v (f b))) → (s : Shape) → Stays (layout_in abi u s) (layout_in abi v (mapped_shape f keep s))
layout_in-mapped abi u v f keep k VoidType x e = cc
layout_in-mapped abi u v f keep k (IntType kind) x e = e
layout_in-mapped abi u v f keep k (PtrType quals s) x e = e
layout_in-mapped abi u v f keep k (ArrayType quals s None) x e = cc
layout_in-mapped abi u v f keep k (ArrayType quals s (Some n)) x e = stays_map (array_of n) (layout_in abi u s) (layout_in abi v (mapped_shape f keep s)) (layout_in-mapped abi u v f keep k s) x e
layout_in-mapped abi u v f keep k (FuncType ret params proto variadic) x e = cc
layout_in-mapped abi u v f keep k (AggType a) x e = k a x e

member_in-mapped : (abi : Abi) (u v : ℕ → Option Layout) (f : ℕ → ℕ) (keep : Bool) → ((b : ℕ) → Stays (u b) (v (f b))) → (s : Shape) → Stays (member_in abi u s) (member_in abi v (mapped_shape f keep s))
member_in-mapped abi u v f keep k VoidType x e = cc
member_in-mapped abi u v f keep k (IntType kind) x e = e
member_in-mapped abi u v f keep k (PtrType quals s) x e = e
member_in-mapped abi u v f keep k (ArrayType quals s None) x e = stays_map without_elements (layout_in abi u s) (layout_in abi v (mapped_shape f keep s)) (layout_in-mapped abi u v f keep k s) x e
member_in-mapped abi u v f keep k (ArrayType quals s (Some n)) x e = stays_map (array_of n) (layout_in abi u s) (layout_in abi v (mapped_shape f keep s)) (layout_in-mapped abi u v f keep k s) x e
member_in-mapped abi u v f keep k (FuncType ret params proto variadic) x e = cc
member_in-mapped abi u v f keep k (AggType a) x e = k a x e

abbrev EachStays : (Member → Option Layout) → (Member → Option Layout) → List Member → List Member → Type 0
EachStays of to [] [] = Unit {0}
EachStays of to [] (n ∷ ns) = ⊥
EachStays of to (m ∷ ms) [] = ⊥
EachStays of to (m ∷ ms) (n ∷ ns) = Stays (of m) (to n) × EachStays of to ms ns

placed_all-mapped : (step : Placed → Layout → Placed) (of to : Member → Option Layout) (p : Placed) (ms ns : List Member) → EachStays of to ms ns → Stays (placed_all step of p ms) (placed_all step to p ns)
placed_all-mapped step of to p [] [] k x e = e
placed_all-mapped step of to p [] (n ∷ ns) k x e = absurd k
placed_all-mapped step of to p (m ∷ ms) [] k x e = absurd k
placed_all-mapped step of to p (m ∷ ms) (n ∷ ns) k x e =
    stays_then (λ (l : Layout). placed_all step of (step p l) ms) (λ (l : Layout). placed_all step to (step p l) ns) (of m) (to n) k.0 (λ l. placed_all-mapped step of to (step p l) ms ns k.1) x e

zeros-mapped : (of to : Member → Option Layout) (ms ns : List Member) → EachStays of to ms ns → (enum_layout ns).offsets ≡ (enum_layout ms).offsets
zeros-mapped of to [] [] k = refl
zeros-mapped of to [] (n ∷ ns) k = absurd k
zeros-mapped of to (m ∷ ms) [] k = absurd k
zeros-mapped of to (m ∷ ms) (n ∷ ns) k = ap (λ zs. 0 ∷ zs) (zeros-mapped of to ms ns k.1)

-- the layout of an enum, from the offsets of its enumerators
abbrev enum_of : List ℕ → AggLayout
enum_of zs = record { whole = scalar (size_of int); offsets = zs }

enum-mapped : (ms ns : List Member) → (enum_layout ns).offsets ≡ (enum_layout ms).offsets → enum_layout ns ≡ enum_layout ms
enum-mapped ms ns e = ap enum_of e

members_layout-mapped : (kind : AggKind) (of to : Member → Option Layout) (ms ns : List Member) → EachStays of to ms ns → Stays (members_layout kind of ms) (members_layout kind to ns)
members_layout-mapped Struct of to ms ns k x e = stays_map finished (placed_all placed_behind of nothing_placed ms) (placed_all placed_behind to nothing_placed ns) (placed_all-mapped placed_behind of to nothing_placed ms ns k) x e
members_layout-mapped Union of to ms ns k x e = stays_map finished (placed_all placed_over of nothing_placed ms) (placed_all placed_over to nothing_placed ns) (placed_all-mapped placed_over of to nothing_placed ms ns k) x e
members_layout-mapped Enum of to ms ns k x e = ap Some (enum-mapped ms ns (zeros-mapped of to ms ns k)) ∙ e

each-mapped : (g h : Graph) (abi : Abi) (u v : ℕ → Option Layout) (f : ℕ → ℕ) (keep : Bool) → ((b : ℕ) → Stays (u b) (v (f b))) → (ms ns : List Member) → MapsMembers g h f keep ms ns
    → EachStays (λ (m : Member). member_in abi u (shape g.nodes m.ty.of.0)) (λ (m : Member). member_in abi v (shape h.nodes m.ty.of.0)) ms ns
each-mapped g h abi u v f keep k [] [] m = tt
each-mapped g h abi u v f keep k [] (n ∷ ns) m = absurd m
each-mapped g h abi u v f keep k (m ∷ ms) [] none = absurd none
each-mapped g h abi u v f keep k (m ∷ ms) (n ∷ ns) (one, rest) =
    ((λ x e. ap (member_in abi v) one ∙ member_in-mapped abi u v f keep k (shape g.nodes m.ty.of.0) x e), each-mapped g h abi u v f keep k ms ns rest)

-- a layout that is there has members
from_layout : (g : Graph) (f : ℕ → Option Layout) (a : ℕ) (l : AggLayout) → option_and_then (aggregate_in g.abi g.nodes f) (slice_get g.aggs a) ≡ Some l → (x : Aggregate) × (ms : List Member) × (slice_get g.aggs a ≡ Some x) × (x.members ≡ Some ms)
from_layout g f a l e = one (slice_get g.aggs a) refl e
  where
    two : (x : Aggregate) → slice_get g.aggs a ≡ Some x → (o : Option (List Member)) → x.members ≡ o → option_and_then (members_layout x.kind (λ (m : Member). member_in g.abi f (shape g.nodes m.ty.of.0))) o ≡ Some l → (y : Aggregate) × (ms : List Member) × (slice_get g.aggs a ≡ Some y) × (y.members ≡ Some ms)
    two x at None some q = cc
    two x at (Some ms) some q = (x, ms, at, some)

    one : (o : Option Aggregate) → slice_get g.aggs a ≡ o → option_and_then (aggregate_in g.abi g.nodes f) o ≡ Some l → (x : Aggregate) × (ms : List Member) × (slice_get g.aggs a ≡ Some x) × (x.members ≡ Some ms)
    one None at q = cc
    one (Some x) at q = two x at x.members refl q

step-mapped : (g h : Graph) (u v : ℕ → Option Layout) (f : ℕ → ℕ) (keep : Bool) → MapsAggregates g h f keep → ((b : ℕ) → Stays (u b) (v (f b))) → (a : ℕ)
    → Stays (option_and_then (aggregate_in g.abi g.nodes u) (slice_get g.aggs a)) (option_and_then (aggregate_in h.abi h.nodes v) (slice_get h.aggs (f a)))
step-mapped g h u v f keep maps k a l e =
    let there = from_layout g u a l e in
    let to = maps.each a there.0 there.1 there.2 there.3 in
    at_members h v (f a) to.0 to.1 to.2 to.4
    ∙ ap (λ abi. members_layout to.0.kind (λ (m : Member). member_in abi v (shape h.nodes m.ty.of.0)) to.1) maps.abi
    ∙ ap (λ kind. members_layout kind (λ (m : Member). member_in g.abi v (shape h.nodes m.ty.of.0)) to.1) to.3
    ∙ members_layout-mapped there.0.kind (λ (m : Member). member_in g.abi u (shape g.nodes m.ty.of.0)) (λ (m : Member). member_in g.abi v (shape h.nodes m.ty.of.0)) there.1 to.1
    (each-mapped g h g.abi u v f keep k there.1 to.1 to.5) l (sym (at_members g u a there.0 there.1 there.2 there.3) ∙ e)

agg_at-mapped : (g h : Graph) (f : ℕ → ℕ) (keep : Bool) → MapsAggregates g h f keep → (k a : ℕ) → Stays (agg_at k g a) (agg_at k h (f a))
agg_at-mapped g h f keep maps zero a l e = cc
agg_at-mapped g h f keep maps (suc k) a l e =
    step-mapped g h (λ b. whole_of (agg_at k g b)) (λ b. whole_of (agg_at k h b)) f keep maps
    (λ b. stays_map (λ (x : AggLayout). x.whole) (agg_at k g b) (agg_at k h (f b)) (agg_at-mapped g h f keep maps k b)) a l e

-- an aggregate keeps its layout, with the offsets of its members
pub agg_layout_mapped : (g h : Graph) (f : ℕ → ℕ) (keep : Bool) → MapsAggregates g h f keep → (a : ℕ) → Stays (agg_layout g a) (agg_layout h (f a))
unfolding agg_layout
agg_layout_mapped g h f keep maps a l e = agg_at-mapped g h f keep maps (2 ^ 32) a l e

-- a mapped type keeps its size and alignment
pub layout_mapped : (g h : Graph) (f : ℕ → ℕ) (keep : Bool) → MapsAggregates g h f keep → (t u : ℕ) → shape h.nodes u ≡ mapped_shape f keep (shape g.nodes t) → Stays (layout g t) (layout h u)
layout_mapped g h f keep maps t u is x e =
    ap (λ abi. layout_in abi (λ b. whole_of (agg_layout h b)) (shape h.nodes u)) maps.abi
    ∙ ap (layout_in g.abi (λ b. whole_of (agg_layout h b))) is
    ∙ layout_in-mapped g.abi (λ b. whole_of (agg_layout g b)) (λ b. whole_of (agg_layout h b)) f keep
    (λ b. stays_map (λ (l : AggLayout). l.whole) (agg_layout g b) (agg_layout h (f b)) (agg_layout_mapped g h f keep maps b)) (shape g.nodes t) x e

-- a member keeps its offset
pub offset_mapped : (g h : Graph) (f : ℕ → ℕ) (keep : Bool) → MapsAggregates g h f keep → (a i : ℕ) → Stays (offset g a i) (offset h (f a) i)
offset_mapped g h f keep maps a i =
    stays_then (λ (l : AggLayout). slice_get l.offsets i) (λ (l : AggLayout). slice_get l.offsets i) (agg_layout g a) (agg_layout h (f a)) (agg_layout_mapped g h f keep maps a) (λ l x e. e)
