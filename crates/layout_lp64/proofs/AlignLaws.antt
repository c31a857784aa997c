-- Device: every alignment is 1, 2, 4 or 8.
use Rattle.std.proofs.Common.{◌≡◌, ℕ, zero, suc, ◌^◌, true, false, List, slice_get, Option, Some, None, inl, inr, refl, subst}
use Rattle.std.specs.Option.{option_map, option_and_then}
use Rattle.cil_base.specs.declared.kinds.Abi.{Abi}
use Rattle.cil_base.specs.declared.kinds.Abi.TheVariants.{Lp64, Ilp32}
use Rattle.cil_base.specs.declared.kinds.IntKind.{IntKind}
use Rattle.cil_base.specs.declared.kinds.IntKind.TheVariants as kind
use Rattle.cil_base.specs.Integer.{size_of, pointer_size_of}
use Rattle.type_graph.specs.declared.aggregates.AggKind.{AggKind}
use Rattle.type_graph.specs.declared.aggregates.AggKind.TheVariants.{Struct, Union, Enum}
use Rattle.type_graph.specs.declared.aggregates.Member.{Member}
use Rattle.type_graph.specs.declared.layout.Layout.{Layout}
use Rattle.type_graph.specs.Shapes.{Shape, VoidType, IntType, PtrType, ArrayType, FuncType, AggType, shape}
use Rattle.type_graph.specs.Arena.{Graph}
use Rattle.type_graph.specs.Layouts.{AggLayout, Placed, layout_in, member_in, array_of, without_elements, placed_behind, placed_over, placed_all, nothing_placed, finished, members_layout, aggregate_in, enum_layout, whole_of, agg_at, agg_layout}
use Rattle.layout_lp64.proofs.CapLaws.{Aligned, all_aligned}

pub size_aligned : (k : IntKind) → Aligned (size_of k)
size_aligned k = elim k as (λ v. Aligned (size_of v)) [ kind.Bool ↦ inl refl | kind.Char ↦ inl refl | kind.SChar ↦ inl refl | kind.UChar ↦ inl refl | kind.Short ↦ inr (inl refl) | kind.UShort ↦ inr (inl refl) | kind.Int ↦ inr (inr (inl refl)) | kind.UInt ↦ inr (inr (inl refl)) | kind.Long ↦ inr (inr (inr refl)) | kind.ULong ↦ inr (inr (inr refl)) | kind.LLong ↦ inr (inr (inr refl)) | kind.ULLong ↦ inr (inr (inr refl)) | kind.Long4 ↦ inr (inr (inl refl)) | kind.ULong4 ↦ inr (inr (inl refl)) ]

pub pointer_aligned : (abi : Abi) → Aligned (pointer_size_of abi)
pointer_aligned Lp64 = inr (inr (inr refl))
pointer_aligned Ilp32 = inr (inr (inl refl))

-- what a map gives comes from something
pub mapped_from : {S T : Type 0} (f : S → T) (o : Option S) (y : T) → option_map f o ≡ Some y → (x : S) × (o ≡ Some x) × (f x ≡ y)
mapped_from f None y e = cc
mapped_from f (Some x) y e = (x, refl, cc)

pub then_from : {S T : Type 0} (f : S → Option T) (o : Option S) (y : T) → option_and_then f o ≡ Some y → (x : S) × (o ≡ Some x) × (f x ≡ Some y)
then_from f None y e = cc
then_from f (Some x) y e = (x, refl, e)

same_align : (x y : Layout) → x ≡ y → Aligned x.align → Aligned y.align
same_align x y e h = subst (λ (l : Layout). Aligned l.align) e h

layout_in_aligned : (abi : Abi) (f : ℕ → Option Layout) (s : Shape) → ((b : ℕ) (l : Layout) → f b ≡ Some l → Aligned l.align) → (l : Layout) → layout_in abi f s ≡ Some l → Aligned l.align
layout_in_aligned abi f VoidType h l e = cc
layout_in_aligned abi f (IntType k) h l e = let same : ◌≡◌ {A = Layout} (record { size = size_of k; align = size_of k }) l = cc in same_align (record { size = size_of k; align = size_of k }) l same (size_aligned k)
layout_in_aligned abi f (PtrType quals s) h l e = let same : ◌≡◌ {A = Layout} (record { size = pointer_size_of abi; align = pointer_size_of abi }) l = cc in same_align (record { size = pointer_size_of abi; align = pointer_size_of abi }) l same (pointer_aligned abi)
layout_in_aligned abi f (ArrayType quals s None) h l e = cc
layout_in_aligned abi f (ArrayType quals s (Some n)) h l e =
    let from = mapped_from (array_of n) (layout_in abi f s) l e in
    same_align (array_of n from.0) l from.2 (layout_in_aligned abi f s h from.0 from.1)
layout_in_aligned abi f (FuncType ret params proto variadic) h l e = cc
layout_in_aligned abi f (AggType a) h l e = h a l e

pub member_in_aligned : (abi : Abi) (f : ℕ → Option Layout) (s : Shape) → ((b : ℕ) (l : Layout) → f b ≡ Some l → Aligned l.align) → (l : Layout) → member_in abi f s ≡ Some l → Aligned l.align
member_in_aligned abi f VoidType h l e = cc
member_in_aligned abi f (IntType k) h l e = let same : ◌≡◌ {A = Layout} (record { size = size_of k; align = size_of k }) l = cc in same_align (record { size = size_of k; align = size_of k }) l same (size_aligned k)
member_in_aligned abi f (PtrType quals s) h l e = let same : ◌≡◌ {A = Layout} (record { size = pointer_size_of abi; align = pointer_size_of abi }) l = cc in same_align (record { size = pointer_size_of abi; align = pointer_size_of abi }) l same (pointer_aligned abi)
member_in_aligned abi f (ArrayType quals s None) h l e =
    let from = mapped_from without_elements (layout_in abi f s) l e in
    same_align (without_elements from.0) l from.2 (layout_in_aligned abi f s h from.0 from.1)
member_in_aligned abi f (ArrayType quals s (Some n)) h l e = layout_in_aligned abi f (ArrayType quals s (Some n)) h l e
member_in_aligned abi f (FuncType ret params proto variadic) h l e = cc
member_in_aligned abi f (AggType a) h l e = h a l e

finished_aligned : (o : Option Placed) (l : AggLayout) → ((p : Placed) → o ≡ Some p → Aligned p.align) → option_map finished o ≡ Some l → Aligned l.whole.align
finished_aligned o l h e =
    let from = mapped_from finished o l e in
    subst (λ (x : AggLayout). Aligned x.whole.align) from.2 (h from.0 from.1)

members_aligned : (kind : AggKind) (f : Member → Option Layout) → ((m : Member) (l : Layout) → f m ≡ Some l → Aligned l.align) → (ms : List Member) (l : AggLayout) → members_layout kind f ms ≡ Some l → Aligned l.whole.align
members_aligned Struct f h ms l e = finished_aligned (placed_all placed_behind f nothing_placed ms) l (λ p q. all_aligned false f h nothing_placed (inl refl) ms p q) e
members_aligned Union f h ms l e = finished_aligned (placed_all placed_over f nothing_placed ms) l (λ p q. all_aligned true f h nothing_placed (inl refl) ms p q) e
members_aligned Enum f h ms l e = let same : enum_layout ms ≡ l = cc in subst (λ (x : AggLayout). Aligned x.whole.align) same (inr (inr (inl refl)))

pub whole_aligned : (o : Option AggLayout) → ((v : AggLayout) → o ≡ Some v → Aligned v.whole.align) → (z : Layout) → whole_of o ≡ Some z → Aligned z.align
whole_aligned o h z r =
    let from = mapped_from (λ (x : AggLayout). x.whole) o z r in
    same_align from.0.whole z from.2 (h from.0 from.1)

at_aligned : (g : Graph) (k a : ℕ) (l : AggLayout) → agg_at k g a ≡ Some l → Aligned l.whole.align
at_aligned g zero a l e = cc
at_aligned g (suc k) a l e =
    let x = then_from (aggregate_in g.abi g.nodes (λ b. whole_of (agg_at k g b))) (slice_get g.aggs a) l e in
    let ms = then_from (members_layout x.0.kind (λ (m : Member). member_in g.abi (λ b. whole_of (agg_at k g b)) (shape g.nodes m.ty.of.0))) x.0.members l x.2 in
    members_aligned x.0.kind (λ (m : Member). member_in g.abi (λ b. whole_of (agg_at k g b)) (shape g.nodes m.ty.of.0))
    (λ m y q. member_in_aligned g.abi (λ b. whole_of (agg_at k g b)) (shape g.nodes m.ty.of.0) (λ b z r. whole_aligned (agg_at k g b) (λ v s. at_aligned g k b v s) z r) y q) ms.0 l ms.2

pub agg_aligned : (g : Graph) (a : ℕ) (l : AggLayout) → agg_layout g a ≡ Some l → Aligned l.whole.align
unfolding agg_layout
agg_aligned g a l e = at_aligned g (2 ^ 32) a l e
