-- Device: in a well-formed program a complete type has at least one byte, so an array's bound is no greater than its size.
use Rattle.std.proofs.Common.{◌≡◌, ℕ, suc, zero, ◌*◌, ◌^◌, ◌<◌, ◌≤◌, true, List, [], ◌∷◌, Option, Some, None, slice_get, refl, sym, ap, ◌∙◌, subst, arith, ◌+◌, ◌-◌}
use Rattle.std.specs.Option.{option_map, option_and_then}
use Rattle.std.proofs.Math.Nat.{le-mul_of_pos_right}
use Rattle.cil_base.specs.declared.kinds.Abi.{Abi}
use Rattle.cil_base.specs.declared.kinds.Abi.TheVariants.{Lp64, Ilp32}
use Rattle.cil_base.specs.declared.kinds.IntKind.{IntKind}
use Rattle.cil_base.specs.declared.kinds.IntKind.TheVariants as kind
use Rattle.cil_base.specs.Integer.{size_of, pointer_size_of}
use Rattle.type_graph.specs.declared.aggregates.AggKind.{AggKind}
use Rattle.type_graph.specs.declared.aggregates.AggKind.TheVariants.{Struct, Union, Enum}
use Rattle.type_graph.specs.declared.aggregates.Aggregate.{Aggregate}
use Rattle.type_graph.specs.declared.aggregates.Member.{Member}
use Rattle.type_graph.specs.declared.layout.Layout.{Layout}
use Rattle.type_graph.specs.Shapes.{Shape, VoidType, IntType, PtrType, ArrayType, FuncType, AggType, shape}
use Rattle.type_graph.specs.Arena.{Graph, complete_shape, complete}
use Rattle.type_graph.specs.Layouts.{AggLayout, Placed, layout_in, member_in, array_of, round_up, placed_behind, placed_over, placed_all, nothing_placed, finished, members_layout, aggregate_in, enum_layout, whole_of, agg_at, agg_layout, without_elements}
use Rattle.std.proofs.lemmas.Nat.{div-add-mod'}
use Rattle.std.proofs.Math.Nat.{mod-lt}

abbrev Aligned : ℕ → Type 0
Aligned a = 0 < a

-- what a map or a step gives comes from something
mapped_from : {S T : Type 0} (f : S → T) (o : Option S) (y : T) → option_map f o ≡ Some y → (x : S) × (o ≡ Some x) × (f x ≡ y)
mapped_from f None y e = absurd (cc e)
mapped_from f (Some x) y e = (x, refl, cc)

then_from : {S T : Type 0} (f : S → Option T) (o : Option S) (y : T) → option_and_then f o ≡ Some y → (x : S) × (o ≡ Some x) × (f x ≡ Some y)
then_from f None y e = absurd (cc e)
then_from f (Some x) y e = (x, refl, e)

-- the bounds of arrays within the type are at least 1
abbrev pub HasBounds : Shape → Type 0
HasBounds (ArrayType q s (Some n)) = (0 < n) × HasBounds s
HasBounds (ArrayType q s None) = HasBounds s
HasBounds _ = Unit {0}

size_positive : (k : IntKind) → 0 < size_of k
size_positive k = elim k as (λ v. 0 < size_of v) [ kind.Bool ↦ omega arith | kind.Char ↦ omega arith | kind.SChar ↦ omega arith | kind.UChar ↦ omega arith | kind.Short ↦ omega arith | kind.UShort ↦ omega arith | kind.Int ↦ omega arith | kind.UInt ↦ omega arith | kind.Long ↦ omega arith | kind.ULong ↦ omega arith | kind.LLong ↦ omega arith | kind.ULLong ↦ omega arith | kind.Long4 ↦ omega arith | kind.ULong4 ↦ omega arith ]

pointer_positive : (abi : Abi) → 0 < pointer_size_of abi
pointer_positive Lp64 = omega arith
pointer_positive Ilp32 = omega arith

pub product_positive : (m n : ℕ) → 0 < m → 0 < n → 0 < m * n
product_positive m n a b = omega (arith, le-mul_of_pos_right m b)

pub positive_in : (abi : Abi) (f : ℕ → Option Layout) (s : Shape) → ((b : ℕ) (l : Layout) → f b ≡ Some l → 0 < l.size) → HasBounds s → (l : Layout) → layout_in abi f s ≡ Some l → 0 < l.size
positive_in abi f VoidType h bounds l e = absurd (cc e)
positive_in abi f (IntType k) h bounds l e = let same : ◌≡◌ {A = Layout} (record { size = size_of k; align = size_of k }) l = cc in subst (λ (x : Layout). 0 < x.size) same (size_positive k)
positive_in abi f (PtrType q s) h bounds l e = let same : ◌≡◌ {A = Layout} (record { size = pointer_size_of abi; align = pointer_size_of abi }) l = cc in subst (λ (x : Layout). 0 < x.size) same (pointer_positive abi)
positive_in abi f (ArrayType q s None) h bounds l e = absurd (cc e)
positive_in abi f (ArrayType q s (Some n)) h bounds l e =
    let from = mapped_from (array_of n) (layout_in abi f s) l e in
    subst (λ (x : Layout). 0 < x.size) from.2 (product_positive n from.0.size bounds.0 (positive_in abi f s h bounds.1 from.0 from.1))
positive_in abi f (FuncType r ps p v) h bounds l e = absurd (cc e)
positive_in abi f (AggType a) h bounds l e = h a l e

aligned_in : (abi : Abi) (f : ℕ → Option Layout) (s : Shape) → ((b : ℕ) (l : Layout) → f b ≡ Some l → Aligned l.align) → (l : Layout) → layout_in abi f s ≡ Some l → Aligned l.align
aligned_in abi f VoidType h l e = absurd (cc e)
aligned_in abi f (IntType k) h l e = let same : ◌≡◌ {A = Layout} (record { size = size_of k; align = size_of k }) l = cc in subst (λ (x : Layout). Aligned x.align) same (size_positive k)
aligned_in abi f (PtrType q s) h l e = let same : ◌≡◌ {A = Layout} (record { size = pointer_size_of abi; align = pointer_size_of abi }) l = cc in subst (λ (x : Layout). Aligned x.align) same (pointer_positive abi)
aligned_in abi f (ArrayType q s None) h l e = absurd (cc e)
aligned_in abi f (ArrayType q s (Some n)) h l e =
    let from = mapped_from (array_of n) (layout_in abi f s) l e in
    subst (λ (x : Layout). Aligned x.align) from.2 (aligned_in abi f s h from.0 from.1)
aligned_in abi f (FuncType r ps p v) h l e = absurd (cc e)
aligned_in abi f (AggType a) h l e = h a l e

member_aligned : (abi : Abi) (f : ℕ → Option Layout) (s : Shape) → ((b : ℕ) (l : Layout) → f b ≡ Some l → Aligned l.align) → (l : Layout) → member_in abi f s ≡ Some l → Aligned l.align
member_aligned abi f VoidType h l e = absurd (cc e)
member_aligned abi f (IntType k) h l e = aligned_in abi f (IntType k) h l e
member_aligned abi f (PtrType q s) h l e = aligned_in abi f (PtrType q s) h l e
member_aligned abi f (ArrayType q s None) h l e =
    let from = mapped_from without_elements (layout_in abi f s) l e in
    subst (λ (x : Layout). Aligned x.align) from.2 (aligned_in abi f s h from.0 from.1)
member_aligned abi f (ArrayType q s (Some n)) h l e = aligned_in abi f (ArrayType q s (Some n)) h l e
member_aligned abi f (FuncType r ps p v) h l e = absurd (cc e)
member_aligned abi f (AggType a) h l e = h a l e

-- a complete member's layout is its type's
member_complete : (abi : Abi) (aggs : List Aggregate) (f : ℕ → Option Layout) (s : Shape) → complete_shape aggs s ≡ true → member_in abi f s ≡ layout_in abi f s
member_complete abi aggs f VoidType e = refl
member_complete abi aggs f (IntType k) e = refl
member_complete abi aggs f (PtrType q s) e = refl
member_complete abi aggs f (ArrayType q s None) e = absurd (cc e)
member_complete abi aggs f (ArrayType q s (Some n)) e = refl
member_complete abi aggs f (FuncType r ps p v) e = refl
member_complete abi aggs f (AggType a) e = refl

round_grows : (e a : ℕ) → Aligned a → e ≤ round_up e a
round_grows e a h = omega (arith, div-add-mod' (e + (a - 1)) a, mod-lt (e + (a - 1)) h)

abbrev Steps : (Placed → Layout → Placed) → Type 0
Steps step = (p : Placed) (l : Layout) → Aligned l.align → (p.end ≤ (step p l).end) × (l.size ≤ (step p l).end) × Aligned (step p l).align

behind_steps : Steps placed_behind
behind_steps p l a = (omega (arith, round_grows p.end l.align a), omega arith, omega arith)

over_steps : Steps placed_over
over_steps p l a = (omega arith, omega arith, omega arith)

placed_grows : (step : Placed → Layout → Placed) → Steps step → (f : Member → Option Layout) → ((m : Member) (l : Layout) → f m ≡ Some l → Aligned l.align) → (p : Placed) (ms : List Member) (q : Placed) → placed_all step f p ms ≡ Some q → p.end ≤ q.end
placed_grows step steps f h p [] q e = let same : p ≡ q = cc in subst (λ (r : Placed). p.end ≤ r.end) same (omega arith)
placed_grows step steps f h p (m ∷ ms) q e =
    let from = then_from (λ (l : Layout). placed_all step f (step p l) ms) (f m) q e in
    omega (arith, (steps p from.0 (h m from.0 from.1)).0, placed_grows step steps f h (step p from.0) ms q from.2)

all_aligned : (step : Placed → Layout → Placed) → Steps step → (f : Member → Option Layout) → ((m : Member) (l : Layout) → f m ≡ Some l → Aligned l.align) → (p : Placed) → Aligned p.align → (ms : List Member) (q : Placed) → placed_all step f p ms ≡ Some q → Aligned q.align
all_aligned step steps f h p a [] q e = let same : p ≡ q = cc in subst (λ (r : Placed). Aligned r.align) same a
all_aligned step steps f h p a (m ∷ ms) q e =
    let from = then_from (λ (l : Layout). placed_all step f (step p l) ms) (f m) q e in
    all_aligned step steps f h (step p from.0) (steps p from.0 (h m from.0 from.1)).2 ms q from.2

placed_positive : (step : Placed → Layout → Placed) → Steps step → (f : Member → Option Layout) → ((m : Member) (l : Layout) → f m ≡ Some l → Aligned l.align) → (m : Member) (ms : List Member) (q : Placed) → ((l : Layout) → f m ≡ Some l → 0 < l.size) →
    placed_all step f nothing_placed (m ∷ ms) ≡ Some q → 0 < q.end
placed_positive step steps f h m ms q first e =
    let from = then_from (λ (l : Layout). placed_all step f (step nothing_placed l) ms) (f m) q e in
    omega (arith, first from.0 from.1, (steps nothing_placed from.0 (h m from.0 from.1)).1, placed_grows step steps f h (step nothing_placed from.0) ms q from.2)

finished_positive : (o : Option Placed) (l : AggLayout) → ((p : Placed) → o ≡ Some p → (0 < p.end) × Aligned p.align) → option_map finished o ≡ Some l → 0 < l.whole.size
finished_positive o l h e =
    let from = mapped_from finished o l e in
    let k = h from.0 from.1 in
    subst (λ (x : AggLayout). 0 < x.whole.size) from.2 (omega (arith, k.0, round_grows from.0.end from.0.align k.1))

members_positive : (kind : AggKind) (f : Member → Option Layout) → ((m : Member) (l : Layout) → f m ≡ Some l → Aligned l.align) → (m : Member) (ms : List Member) (l : AggLayout) → ((x : Layout) → f m ≡ Some x → 0 < x.size) → members_layout kind f (m ∷ ms) ≡ Some l → 0 < l.whole.size
members_positive Struct f h m ms l first e = finished_positive (placed_all placed_behind f nothing_placed (m ∷ ms)) l (λ p q. (placed_positive placed_behind behind_steps f h m ms p first q, all_aligned placed_behind behind_steps f h nothing_placed (omega arith) (m ∷ ms) p q)) e
members_positive Union f h m ms l first e = finished_positive (placed_all placed_over f nothing_placed (m ∷ ms)) l (λ p q. (placed_positive placed_over over_steps f h m ms p first q, all_aligned placed_over over_steps f h nothing_placed (omega arith) (m ∷ ms) p q)) e
members_positive Enum f h m ms l first e = let same : enum_layout (m ∷ ms) ≡ l = cc in subst (λ (x : AggLayout). 0 < x.whole.size) same (omega arith)

-- alignments at each depth of nesting
whole_aligned : (o : Option AggLayout) → ((v : AggLayout) → o ≡ Some v → Aligned v.whole.align) → (z : Layout) → whole_of o ≡ Some z → Aligned z.align
whole_aligned o h z r =
    let from = mapped_from (λ (x : AggLayout). x.whole) o z r in
    subst (λ (x : Layout). Aligned x.align) from.2 (h from.0 from.1)

finished_aligned : (o : Option Placed) (l : AggLayout) → ((p : Placed) → o ≡ Some p → Aligned p.align) → option_map finished o ≡ Some l → Aligned l.whole.align
finished_aligned o l h e =
    let from = mapped_from finished o l e in
    subst (λ (x : AggLayout). Aligned x.whole.align) from.2 (h from.0 from.1)

members_aligned : (kind : AggKind) (f : Member → Option Layout) → ((m : Member) (l : Layout) → f m ≡ Some l → Aligned l.align) → (ms : List Member) (l : AggLayout) → members_layout kind f ms ≡ Some l → Aligned l.whole.align
members_aligned Struct f h ms l e = finished_aligned (placed_all placed_behind f nothing_placed ms) l (λ p q. all_aligned placed_behind behind_steps f h nothing_placed (omega arith) ms p q) e
members_aligned Union f h ms l e = finished_aligned (placed_all placed_over f nothing_placed ms) l (λ p q. all_aligned placed_over over_steps f h nothing_placed (omega arith) ms p q) e
members_aligned Enum f h ms l e = let same : enum_layout ms ≡ l = cc in subst (λ (x : AggLayout). Aligned x.whole.align) same (omega arith)

at_aligned : (g : Graph) (k a : ℕ) (l : AggLayout) → agg_at k g a ≡ Some l → Aligned l.whole.align
at_aligned g zero a l e = cc
at_aligned g (suc k) a l e =
    let x = then_from (aggregate_in g.abi g.nodes (λ b. whole_of (agg_at k g b))) (slice_get g.aggs a) l e in
    let ms = then_from (members_layout x.0.kind (λ (m : Member). member_in g.abi (λ b. whole_of (agg_at k g b)) (shape g.nodes m.ty.of.0))) x.0.members l x.2 in
    members_aligned x.0.kind (λ (m : Member). member_in g.abi (λ b. whole_of (agg_at k g b)) (shape g.nodes m.ty.of.0))
    (λ m y q. member_aligned g.abi (λ b. whole_of (agg_at k g b)) (shape g.nodes m.ty.of.0) (λ b z r. whole_aligned (agg_at k g b) (λ v s. at_aligned g k b v s) z r) y q) ms.0 l ms.2

-- each complete aggregate has a member, and the first is complete and bounded
abbrev pub HasFirst : Graph → Type 0
HasFirst g = (a : ℕ) (x : Aggregate) (ms : List Member) → slice_get g.aggs a ≡ Some x → x.members ≡ Some ms →
    (m : Member) × (rest : List Member) × (ms ≡ m ∷ rest) × (complete g m.ty.of.0 ≡ true) × HasBounds (shape g.nodes m.ty.of.0)

at_positive : (g : Graph) → HasFirst g → (k a : ℕ) (l : AggLayout) → agg_at k g a ≡ Some l → 0 < l.whole.size
at_positive g has zero a l e = absurd (cc e)
at_positive g has (suc k) a l e =
    let below = λ (b : ℕ). whole_of (agg_at k g b) in
    let x = then_from (aggregate_in g.abi g.nodes below) (slice_get g.aggs a) l e in
    let of = λ (m : Member). member_in g.abi below (shape g.nodes m.ty.of.0) in
    let ms = then_from (members_layout x.0.kind of) x.0.members l x.2 in
    let first = has a x.0 ms.0 x.1 ms.1 in
    members_positive x.0.kind of
    (λ m y q. member_aligned g.abi below (shape g.nodes m.ty.of.0) (λ b z r. whole_aligned (agg_at k g b) (λ v s. at_aligned g k b v s) z r) y q)
    first.0 first.1 l
    (λ y q. positive_in g.abi below (shape g.nodes first.0.ty.of.0) (λ b z r. whole_positive (agg_at k g b) (λ v s. at_positive g has k b v s) z r) first.4 y (sym (member_complete g.abi g.aggs below (shape g.nodes first.0.ty.of.0) first.3) ∙ q))
    (ap (members_layout x.0.kind of) (sym first.2) ∙ ms.2)
  where
    whole_positive : (o : Option AggLayout) → ((v : AggLayout) → o ≡ Some v → 0 < v.whole.size) → (z : Layout) → whole_of o ≡ Some z → 0 < z.size
    whole_positive o h z r =
        let from = mapped_from (λ (y : AggLayout). y.whole) o z r in
        subst (λ (y : Layout). 0 < y.size) from.2 (h from.0 from.1)

pub whole_is_positive : (g : Graph) → HasFirst g → (b : ℕ) (l : Layout) → whole_of (agg_layout g b) ≡ Some l → 0 < l.size
unfolding agg_layout
whole_is_positive g has b l e =
    let from = mapped_from (λ (y : AggLayout). y.whole) (agg_layout g b) l e in
    subst (λ (y : Layout). 0 < y.size) from.2 (at_positive g has (2 ^ 32) b from.0 from.1)
