-- Device: offsets of members and sizes are multiples of alignments.
use Rattle.std.proofs.Common.{◌≡◌, ◌≢◌, ℕ, zero, suc, ◌+◌, ◌-◌, ◌*◌, ◌/◌, ◌<◌, ◌≤◌, max, Bool, true, false, List, [], ◌∷◌, ◌++◌, length, slice_get, Option, Some, None, inl, inr, refl, sym, ap, ◌∙◌, subst, arith, length-append}
use Rattle.std.specs.Option.{option_map, option_and_then}
use Rattle.std.proofs.Math.Nat.{mul_assoc}
use Rattle.cil_base.specs.Integer.{size_of, pointer_size_of}
use Rattle.type_graph.specs.declared.aggregates.AggKind.{AggKind}
use Rattle.type_graph.specs.declared.aggregates.AggKind.TheVariants.{Struct, Union, Enum}
use Rattle.type_graph.specs.declared.aggregates.Aggregate.{Aggregate}
use Rattle.type_graph.specs.declared.aggregates.Member.{Member}
use Rattle.type_graph.specs.declared.layout.Layout.{Layout}
use Rattle.type_graph.specs.Shapes.{Shape, VoidType, IntType, PtrType, ArrayType, FuncType, AggType, shape}
use Rattle.type_graph.specs.Arena.{Graph, IsArena}
use Rattle.type_graph.specs.Layouts.{AggLayout, Placed, round_up, array_of, scalar, placed_all, nothing_placed, finished, members_layout, enum_layout, aggregate_in, whole_of, agg_layout, offset}
use Rattle.type_graph.proofs.LayoutLaws.{agg_layout_is, at_members}
use Rattle.layout_lp64.proofs.CapLaws.{Aligned, placed_step, all_aligned}
use Rattle.layout_lp64.proofs.AlignLaws.{mapped_from, then_from, member_in_aligned, whole_aligned, agg_aligned}
use Rattle.layout_lp64.proofs.TableLaws.{get_pushed, get_last}
use Rattle.layout_lp64.proofs.MemberRanges.{member_layout}
use Rattle.cil_tree.specs.Text.{shape_layout}

abbrev pub Divides : ℕ → ℕ → Type 0
Divides a n = (k : ℕ) × (n ≡ k * a)

-- alignments are powers of 2, so the less divides the greater
aligned_divides : (a b : ℕ) → Aligned a → Aligned b → a ≤ b → Divides a b
aligned_divides a b (inl p) q h = (b, let e : b ≡ b * 1 = omega arith in subst (λ (c : ℕ). b ≡ b * c) (sym p) e)
aligned_divides a b (inr (inl p)) (inl q) h = absurd (omega arith)
aligned_divides a b (inr (inl p)) (inr (inl q)) h = (1, omega arith)
aligned_divides a b (inr (inl p)) (inr (inr (inl q))) h = (2, omega arith)
aligned_divides a b (inr (inl p)) (inr (inr (inr q))) h = (4, omega arith)
aligned_divides a b (inr (inr (inl p))) (inl q) h = absurd (omega arith)
aligned_divides a b (inr (inr (inl p))) (inr (inl q)) h = absurd (omega arith)
aligned_divides a b (inr (inr (inl p))) (inr (inr (inl q))) h = (1, omega arith)
aligned_divides a b (inr (inr (inl p))) (inr (inr (inr q))) h = (2, omega arith)
aligned_divides a b (inr (inr (inr p))) (inl q) h = absurd (omega arith)
aligned_divides a b (inr (inr (inr p))) (inr (inl q)) h = absurd (omega arith)
aligned_divides a b (inr (inr (inr p))) (inr (inr (inl q))) h = absurd (omega arith)
aligned_divides a b (inr (inr (inr p))) (inr (inr (inr q))) h = (1, omega arith)

-- what placing one member does
record Step (over : Bool) (p q : Placed) (l : Layout) : Type 0 where
  at : ℕ
  offsets : q.offsets ≡ p.offsets ++ at ∷ []
  multiple : Divides l.align at
  aligns : l.align ≤ q.align
  grows : p.align ≤ q.align

step_is : (over : Bool) (p : Placed) (l : Layout) → Step over p (placed_step over p l) l
step_is true p l = record { at = 0; offsets = refl; multiple = (0, let e : 0 ≡ 0 * l.align = omega arith in e); aligns = second p.align l.align; grows = first p.align l.align }
  where
    first : (m n : ℕ) → m ≤ max m n
    first m n = omega arith

    second : (m n : ℕ) → n ≤ max m n
    second m n = omega arith
step_is false p l = record { at = round_up p.end l.align; offsets = refl; multiple = ((p.end + (l.align - 1)) / l.align, refl); aligns = second p.align l.align; grows = first p.align l.align }
  where
    first : (m n : ℕ) → m ≤ max m n
    first m n = omega arith

    second : (m n : ℕ) → n ≤ max m n
    second m n = omega arith

module _ (over : Bool) (f : Member → Option Layout) where
  -- the first of members to be placed, and the rest
  record First (p : Placed) (m : Member) (ms : List Member) (q : Placed) : Type 0 where
    layout : Layout
    is : f m ≡ Some layout
    next : Placed
    step : Step over p next layout
    rest : placed_all (placed_step over) f next ms ≡ Some q

  first : (p : Placed) (m : Member) (ms : List Member) (q : Placed) → placed_all (placed_step over) f p (m ∷ ms) ≡ Some q → First p m ms q
  first p m ms q e =
      let l = then_from (λ (l : Layout). placed_all (placed_step over) f (placed_step over p l) ms) (f m) q e in
      record { layout = l.0; is = l.1; next = placed_step over p l.0; step = step_is over p l.0; rest = l.2 }

  aligns_later : (p : Placed) (ms : List Member) (q : Placed) → placed_all (placed_step over) f p ms ≡ Some q → p.align ≤ q.align
  aligns_later p [] q e = let same : p ≡ q = cc in subst (λ (r : Placed). p.align ≤ r.align) same (omega arith)
  aligns_later p (m ∷ ms) q e =
      let x = first p m ms q e in
      let rest : x.next.align ≤ q.align = aligns_later x.next ms q x.rest in
      omega (arith, x.step.grows, rest)

  one_more : (p : Placed) (m : Member) (ms : List Member) (q : Placed) (x : First p m ms q) → length x.next.offsets ≡ suc (length p.offsets)
  one_more p m ms q x = omega (arith, ap length x.step.offsets, length-append p.offsets (x.step.at ∷ []))

  -- offsets that are there stay
  offsets_stay : (p : Placed) (ms : List Member) (q : Placed) → placed_all (placed_step over) f p ms ≡ Some q → (i : ℕ) → i < length p.offsets → slice_get q.offsets i ≡ slice_get p.offsets i
  offsets_stay p [] q e i b = let same : p ≡ q = cc in ap (λ (r : Placed). slice_get r.offsets i) (sym same)
  offsets_stay p (m ∷ ms) q e i b =
      let x = first p m ms q e in
      offsets_stay x.next ms q x.rest i (omega (arith, one_more p m ms q x))
      ∙ ap (λ (os : List ℕ). slice_get os i) x.step.offsets ∙ get_pushed p.offsets x.step.at i b

  -- where the first of them stands
  first_at : (p : Placed) (m : Member) (ms : List Member) (q : Placed) (x : First p m ms q) → slice_get q.offsets (length p.offsets) ≡ Some x.step.at
  first_at p m ms q x =
      offsets_stay x.next ms q x.rest (length p.offsets) (omega (arith, one_more p m ms q x))
      ∙ ap (λ (os : List ℕ). slice_get os (length p.offsets)) x.step.offsets ∙ get_last p.offsets x.step.at

  -- how a member stands
  record Stands (q : Placed) (l : Layout) (o : ℕ) : Type 0 where
    multiple : Divides l.align o
    aligns : l.align ≤ q.align

  first_stands : (p : Placed) (m : Member) (ms : List Member) (q : Placed) (x : First p m ms q) (l : Layout) (o : ℕ) → f m ≡ Some l → slice_get q.offsets (length p.offsets) ≡ Some o → Stands q l o
  first_stands p m ms q x l o is at =
      let size : x.layout ≡ l = let both : Some x.layout ≡ Some l = sym x.is ∙ is in cc in
      let place : x.step.at ≡ o = let both : Some x.step.at ≡ Some o = sym (first_at p m ms q x) ∙ at in cc in
      let later : x.next.align ≤ q.align = aligns_later x.next ms q x.rest in
      record {
        multiple = subst (λ (a : ℕ). Divides l.align a) place (subst (λ (y : Layout). Divides y.align x.step.at) size x.step.multiple);
        aligns = omega (arith, ap (λ (y : Layout). y.align) size, x.step.aligns, later);
      }

  stands : (p : Placed) (ms : List Member) (q : Placed) → placed_all (placed_step over) f p ms ≡ Some q → (i : ℕ) (m : Member) (l : Layout) (o : ℕ) → slice_get ms i ≡ Some m → f m ≡ Some l → slice_get q.offsets (length p.offsets + i) ≡ Some o → Stands q l o
  stands p [] q e i m l o there is at = cc
  stands p (n ∷ ms) q e zero m l o there is at =
      let same : n ≡ m = cc in
      let here : length p.offsets + 0 ≡ length p.offsets = omega arith in
      first_stands p n ms q (first p n ms q e) l o (ap f same ∙ is) (subst (λ k. slice_get q.offsets k ≡ Some o) here at)
  stands p (n ∷ ms) q e (suc i) m l o there is at =
      let x = first p n ms q e in
      let next : length p.offsets + suc i ≡ length x.next.offsets + i = omega (arith, one_more p n ms q x) in
      stands x.next ms q x.rest i m l o there is (subst (λ k. slice_get q.offsets k ≡ Some o) next at)

  -- a whole is rounded up
  whole_sized : (h : (m : Member) (l : Layout) → f m ≡ Some l → Aligned l.align) (ms : List Member) (l : AggLayout) → option_map finished (placed_all (placed_step over) f nothing_placed ms) ≡ Some l → Divides l.whole.align l.whole.size
  whole_sized h ms l e =
      let from = mapped_from finished (placed_all (placed_step over) f nothing_placed ms) l e in
      subst (λ (x : AggLayout). Divides x.whole.align x.whole.size) from.2 ((from.0.end + (from.0.align - 1)) / from.0.align, refl)

  -- a member's offset is a multiple of its alignment, and so is the alignment of the whole
  member_stands : (h : (m : Member) (l : Layout) → f m ≡ Some l → Aligned l.align) (ms : List Member) (l : AggLayout) → option_map finished (placed_all (placed_step over) f nothing_placed ms) ≡ Some l
      → (i : ℕ) (m : Member) (y : Layout) (o : ℕ) → slice_get ms i ≡ Some m → f m ≡ Some y → slice_get l.offsets i ≡ Some o → Divides y.align o × Divides y.align l.whole.align
  member_stands h ms l e i m y o mi fm at =
      let from = mapped_from finished (placed_all (placed_step over) f nothing_placed ms) l e in
      let offsets : from.0.offsets ≡ l.offsets = ap (λ (x : AggLayout). x.offsets) from.2 in
      let align : from.0.align ≡ l.whole.align = ap (λ (x : AggLayout). x.whole.align) from.2 in
      let here : i ≡ 0 + i = omega arith in
      let s = stands nothing_placed ms from.0 from.1 i m y o mi fm (subst (λ k. slice_get from.0.offsets k ≡ Some o) here (ap (λ (os : List ℕ). slice_get os i) offsets ∙ at)) in
      let whole : Aligned from.0.align = all_aligned over f h nothing_placed (inl refl) ms from.0 from.1 in
      (s.multiple, subst (λ (a : ℕ). Divides y.align a) align (aligned_divides y.align from.0.align (h m y fm) whole s.aligns))

module _ (g : Graph) (arena : IsArena g) where
  aligned : (m : Member) (y : Layout) → member_layout g m ≡ Some y → Aligned y.align
  aligned m y q = member_in_aligned g.abi (λ b. whole_of (agg_layout g b)) (shape g.nodes m.ty.of.0) (λ b z r. whole_aligned (agg_layout g b) (λ v s. agg_aligned g b v s) z r) y q

  pub member_aligned : (a : ℕ) (x : Aggregate) (ms : List Member) (l : AggLayout) → slice_get g.aggs a ≡ Some x → x.members ≡ Some ms → agg_layout g a ≡ Some l → x.kind ≢ Enum
      → (i : ℕ) (m : Member) (y : Layout) (o : ℕ) → slice_get ms i ≡ Some m → member_layout g m ≡ Some y → offset g a i ≡ Some o → Divides y.align o × Divides y.align l.whole.align
  member_aligned a x ms l there some is apart i m y o mi fm at =
      by x.kind (sym (at_members g (λ b. whole_of (agg_layout g b)) a x ms there some) ∙ sym (agg_layout_is g arena a) ∙ is) apart
    where
      placed : slice_get l.offsets i ≡ Some o
      placed = sym (ap (option_and_then (λ (y : AggLayout). slice_get y.offsets i)) is) ∙ at

      by : (kind : AggKind) → members_layout kind (member_layout g) ms ≡ Some l → kind ≢ Enum → Divides y.align o × Divides y.align l.whole.align
      by Struct e k = member_stands false (member_layout g) aligned ms l e i m y o mi fm placed
      by Union e k = member_stands true (member_layout g) aligned ms l e i m y o mi fm placed
      by Enum e k = absurd (k refl)

  agg_sized : (a : ℕ) (l : AggLayout) → agg_layout g a ≡ Some l → Divides l.whole.align l.whole.size
  agg_sized a l is =
      let x = then_from (aggregate_in g.abi g.nodes (λ b. whole_of (agg_layout g b))) (slice_get g.aggs a) l (sym (agg_layout_is g arena a) ∙ is) in
      let ms = then_from (members_layout x.0.kind (member_layout g)) x.0.members l x.2 in
      by x.0.kind ms.0 ms.2
    where
      by : (kind : AggKind) (ms : List Member) → members_layout kind (member_layout g) ms ≡ Some l → Divides l.whole.align l.whole.size
      by Struct ms e = whole_sized false (member_layout g) aligned ms l e
      by Union ms e = whole_sized true (member_layout g) aligned ms l e
      by Enum ms e = let same : enum_layout ms ≡ l = cc in subst (λ (y : AggLayout). Divides y.whole.align y.whole.size) same (1, refl)

  -- a size is a multiple of the alignment
  pub sized : (s : Shape) (l : Layout) → shape_layout g s ≡ Some l → Divides l.align l.size
  sized VoidType l e = cc
  sized (IntType kind) l e = let same : scalar (size_of kind) ≡ l = cc in subst (λ (y : Layout). Divides y.align y.size) same (1, let e : size_of kind ≡ 1 * size_of kind = omega arith in e)
  sized (PtrType q s) l e = let same : scalar (pointer_size_of g.abi) ≡ l = cc in subst (λ (y : Layout). Divides y.align y.size) same (1, let e : pointer_size_of g.abi ≡ 1 * pointer_size_of g.abi = omega arith in e)
  sized (ArrayType q s None) l e = cc
  sized (ArrayType q s (Some n)) l e =
      let from = mapped_from (array_of n) (shape_layout g s) l e in
      let d = sized s from.0 from.1 in
      subst (λ (y : Layout). Divides y.align y.size) from.2 (n * d.0, ap (λ (m : ℕ). n * m) d.1 ∙ sym (mul_assoc n d.0 from.0.align))
  sized (FuncType ret params proto variadic) l e = cc
  sized (AggType a) l e =
      let from = mapped_from (λ (x : AggLayout). x.whole) (agg_layout g a) l e in
      subst (λ (y : Layout). Divides y.align y.size) from.2 (agg_sized a from.0 from.1)
