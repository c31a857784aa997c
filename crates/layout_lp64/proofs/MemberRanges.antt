-- Device: no member of a struct or union reaches behind its end, and the members of a struct stand behind one another.
use Rattle.std.proofs.Common.{◌≡◌, ◌≢◌, ℕ, zero, suc, ◌+◌, ◌<◌, ◌≤◌, max, Bool, true, false, List, [], ◌∷◌, ◌++◌, length, slice_get, Option, Some, inl, refl, sym, ap, ◌∙◌, subst, arith, length-append}
use Rattle.std.specs.Option.{option_map, option_and_then}
use Rattle.type_graph.specs.declared.aggregates.AggKind.{AggKind}
use Rattle.type_graph.specs.declared.aggregates.AggKind.TheVariants.{Struct, Union, Enum}
use Rattle.type_graph.specs.declared.aggregates.Aggregate.{Aggregate}
use Rattle.type_graph.specs.declared.aggregates.Member.{Member}
use Rattle.type_graph.specs.declared.layout.Layout.{Layout}
use Rattle.type_graph.specs.Shapes.{shape}
use Rattle.type_graph.specs.Arena.{Graph, IsArena}
use Rattle.type_graph.specs.Layouts.{AggLayout, Placed, round_up, member_in, placed_all, nothing_placed, finished, members_layout, whole_of, agg_layout, offset}
use Rattle.type_graph.proofs.LayoutLaws.{agg_layout_is, at_members}
use Rattle.layout_lp64.proofs.CapLaws.{Aligned, placed_step, all_aligned}
use Rattle.layout_lp64.proofs.AlignLaws.{mapped_from, then_from, member_in_aligned, whole_aligned, agg_aligned}
use Rattle.layout_lp64.proofs.OffsetLaws.{rounded}
use Rattle.layout_lp64.proofs.TableLaws.{get_pushed, get_last}

-- what placing one member does
record Step (over : Bool) (p q : Placed) (l : Layout) : Type 0 where
  at : ℕ
  offsets : q.offsets ≡ p.offsets ++ at ∷ []
  within : at + l.size ≤ q.end
  grows : p.end ≤ q.end
  behind : over ≡ false → p.end ≤ at

step_is : (over : Bool) (p : Placed) (l : Layout) → Aligned l.align → Step over p (placed_step over p l) l
step_is true p l h = record { at = 0; offsets = refl; within = largest p.end l.size; grows = larger p.end l.size; behind = λ e. cc }
  where
    largest : (m n : ℕ) → 0 + n ≤ max m n
    largest m n = omega arith

    larger : (m n : ℕ) → m ≤ max m n
    larger m n = omega arith
step_is false p l h =
    let r : p.end ≤ round_up p.end l.align = rounded p.end l.align h in
    record { at = round_up p.end l.align; offsets = refl; within = here (round_up p.end l.align) l.size; grows = further p.end (round_up p.end l.align) l.size r; behind = λ e. r }
  where
    here : (a b : ℕ) → a + b ≤ a + b
    here a b = omega arith

    further : (a b c : ℕ) → a ≤ b → a ≤ b + c
    further a b c q = omega arith

module _ (over : Bool) (f : Member → Option Layout) (h : (m : Member) (l : Layout) → f m ≡ Some l → Aligned l.align) where
  -- the first of members to be placed, and the rest
  record First (p : Placed) (m : Member) (ms : List Member) (q : Placed) : Type 0 where
    layout : Layout
    is : f m ≡ Some layout
    next : Placed
    step : Step over p next layout
    rest : placed_all (placed_step over) f next ms ≡ Some q

  first : (p : Placed) (m : Member) (ms : List Member) (q : Placed) → placed_all (placed_step over) f p (m ∷ ms) ≡ Some q → First p m ms q
  first p m ms q e =
      let l = then_from (λ (l : Layout). placed_all (placed_step over) f (placed_step over p l) ms) (f m) q e in
      record { layout = l.0; is = l.1; next = placed_step over p l.0; step = step_is over p l.0 (h m l.0 l.1); rest = l.2 }

  ends_later : (p : Placed) (ms : List Member) (q : Placed) → placed_all (placed_step over) f p ms ≡ Some q → p.end ≤ q.end
  ends_later p [] q e = let same : p ≡ q = cc in subst (λ (r : Placed). p.end ≤ r.end) same (omega arith)
  ends_later p (m ∷ ms) q e =
      let x = first p m ms q e in
      let rest : x.next.end ≤ q.end = ends_later x.next ms q x.rest in
      omega (arith, x.step.grows, rest)

  one_more : (p : Placed) (m : Member) (ms : List Member) (q : Placed) (x : First p m ms q) → length x.next.offsets ≡ suc (length p.offsets)
  one_more p m ms q x = omega (arith, ap length x.step.offsets, length-append p.offsets (x.step.at ∷ []))

  -- offsets that are there stay
  offsets_stay : (p : Placed) (ms : List Member) (q : Placed) → placed_all (placed_step over) f p ms ≡ Some q → (i : ℕ) → i < length p.offsets → slice_get q.offsets i ≡ slice_get p.offsets i
  offsets_stay p [] q e i b = let same : p ≡ q = cc in ap (λ (r : Placed). slice_get r.offsets i) (sym same)
  offsets_stay p (m ∷ ms) q e i b =
      let x = first p m ms q e in
      offsets_stay x.next ms q x.rest i (omega (arith, one_more p m ms q x))
      ∙ ap (λ (os : List ℕ). slice_get os i) x.step.offsets ∙ get_pushed p.offsets x.step.at i b

  -- where the first of them stands
  first_at : (p : Placed) (m : Member) (ms : List Member) (q : Placed) (x : First p m ms q) → slice_get q.offsets (length p.offsets) ≡ Some x.step.at
  first_at p m ms q x =
      offsets_stay x.next ms q x.rest (length p.offsets) (omega (arith, one_more p m ms q x))
      ∙ ap (λ (os : List ℕ). slice_get os (length p.offsets)) x.step.offsets ∙ get_last p.offsets x.step.at

  -- where a member stands
  record Range (p q : Placed) (l : Layout) (o : ℕ) : Type 0 where
    within : o + l.size ≤ q.end
    behind : over ≡ false → p.end ≤ o

  first_range : (p : Placed) (m : Member) (ms : List Member) (q : Placed) (x : First p m ms q) (l : Layout) (o : ℕ) → f m ≡ Some l → slice_get q.offsets (length p.offsets) ≡ Some o → Range p q l o
  first_range p m ms q x l o is at =
      let size : x.layout ≡ l = let both : Some x.layout ≡ Some l = sym x.is ∙ is in cc in
      let place : x.step.at ≡ o = let both : Some x.step.at ≡ Some o = sym (first_at p m ms q x) ∙ at in cc in
      let later : x.next.end ≤ q.end = ends_later x.next ms q x.rest in
      record { within = omega (arith, ap (λ (y : Layout). y.size) size, place, x.step.within, later); behind = λ e. let b : p.end ≤ x.step.at = x.step.behind e in omega arith }

  range : (p : Placed) (ms : List Member) (q : Placed) → placed_all (placed_step over) f p ms ≡ Some q → (i : ℕ) (m : Member) (l : Layout) (o : ℕ) → slice_get ms i ≡ Some m → f m ≡ Some l → slice_get q.offsets (length p.offsets + i) ≡ Some o → Range p q l o
  range p [] q e i m l o there is at = cc
  range p (n ∷ ms) q e zero m l o there is at =
      let same : n ≡ m = cc in
      let here : length p.offsets + 0 ≡ length p.offsets = omega arith in
      first_range p n ms q (first p n ms q e) l o (ap f same ∙ is) (subst (λ k. slice_get q.offsets k ≡ Some o) here at)
  range p (n ∷ ms) q e (suc i) m l o there is at =
      let x = first p n ms q e in
      let next : length p.offsets + suc i ≡ length x.next.offsets + i = omega (arith, one_more p n ms q x) in
      let r = range x.next ms q x.rest i m l o there is (subst (λ k. slice_get q.offsets k ≡ Some o) next at) in
      record { within = r.within; behind = λ c. let b : x.next.end ≤ o = r.behind c in omega (arith, x.step.grows, b) }

  -- of two members of a struct the second stands behind the end of the first
  apart : over ≡ false → (p : Placed) (ms : List Member) (q : Placed) → placed_all (placed_step over) f p ms ≡ Some q → (i j : ℕ) (m n : Member) (l k : Layout) (o r : ℕ) → i < j → slice_get ms i ≡ Some m → f m ≡ Some l → slice_get q.offsets (length p.offsets + i) ≡ Some o → slice_get ms j ≡ Some n → f n ≡ Some k → slice_get q.offsets (length p.offsets + j) ≡ Some r → o + l.size ≤ r
  apart c p [] q e i j m n l k o r b mi fm qi nj fn qj = cc
  apart c p (x ∷ ms) q e i zero m n l k o r b mi fm qi nj fn qj = absurd (omega arith)
  apart c p (x ∷ ms) q e zero (suc j) m n l k o r b mi fm qi nj fn qj =
      let y = first p x ms q e in
      let same : x ≡ m = cc in
      let here : length p.offsets + 0 ≡ length p.offsets = omega arith in
      let next : length p.offsets + suc j ≡ length y.next.offsets + j = omega (arith, one_more p x ms q y) in
      let size : y.layout ≡ l = let both : Some y.layout ≡ Some l = sym y.is ∙ ap f same ∙ fm in cc in
      let place : y.step.at ≡ o = let both : Some y.step.at ≡ Some o = sym (first_at p x ms q y) ∙ sym (ap (slice_get q.offsets) here) ∙ qi in cc in
      let z = range y.next ms q y.rest j n k r nj fn (subst (λ a. slice_get q.offsets a ≡ Some r) next qj) in
      let behind : y.next.end ≤ r = z.behind c in
      omega (arith, y.step.within, ap (λ (v : Layout). v.size) size, place, behind)
  apart c p (x ∷ ms) q e (suc i) (suc j) m n l k o r b mi fm qi nj fn qj =
      let y = first p x ms q e in
      let one : length p.offsets + suc i ≡ length y.next.offsets + i = omega (arith, one_more p x ms q y) in
      let two : length p.offsets + suc j ≡ length y.next.offsets + j = omega (arith, one_more p x ms q y) in
      apart c y.next ms q y.rest i j m n l k o r (omega arith) mi fm (subst (λ a. slice_get q.offsets a ≡ Some o) one qi) nj fn (subst (λ a. slice_get q.offsets a ≡ Some r) two qj)

  -- the members that were placed, rounded up to a whole
  record Whole (ms : List Member) (l : AggLayout) : Type 0 where
    placed : Placed
    are : placed_all (placed_step over) f nothing_placed ms ≡ Some placed
    offsets : placed.offsets ≡ l.offsets
    end : placed.end ≤ l.whole.size

  whole : (ms : List Member) (l : AggLayout) → option_map finished (placed_all (placed_step over) f nothing_placed ms) ≡ Some l → Whole ms l
  whole ms l e =
      let from = mapped_from finished (placed_all (placed_step over) f nothing_placed ms) l e in
      let a = all_aligned over f h nothing_placed (inl refl) ms from.0 from.1 in
      record {
        placed = from.0;
        are = from.1;
        offsets = ap (λ (x : AggLayout). x.offsets) from.2;
        end = subst (λ (x : AggLayout). from.0.end ≤ x.whole.size) from.2 (rounded from.0.end from.0.align a);
      }

-- the layout of a member
abbrev pub member_layout : Graph → Member → Option Layout
member_layout g m = member_in g.abi (λ b. whole_of (agg_layout g b)) (shape g.nodes m.ty.of.0)

module _ (g : Graph) (arena : IsArena g) (a : ℕ) (x : Aggregate) (ms : List Member) (l : AggLayout) (there : slice_get g.aggs a ≡ Some x) (some : x.members ≡ Some ms) (is : agg_layout g a ≡ Some l) where
  aligned : (m : Member) (y : Layout) → member_layout g m ≡ Some y → Aligned y.align
  aligned m y q = member_in_aligned g.abi (λ b. whole_of (agg_layout g b)) (shape g.nodes m.ty.of.0) (λ b z r. whole_aligned (agg_layout g b) (λ v s. agg_aligned g b v s) z r) y q

  made : members_layout x.kind (member_layout g) ms ≡ Some l
  made = sym (at_members g (λ b. whole_of (agg_layout g b)) a x ms there some) ∙ sym (agg_layout_is g arena a) ∙ is

  offset_in : (over : Bool) (w : Whole over (member_layout g) aligned ms l) (i o : ℕ) → offset g a i ≡ Some o → slice_get w.placed.offsets (0 + i) ≡ Some o
  offset_in over w i o at =
      let here : i ≡ 0 + i = omega arith in
      subst (λ k. slice_get w.placed.offsets k ≡ Some o) here
      (ap (λ (os : List ℕ). slice_get os i) w.offsets ∙ sym (ap (option_and_then (λ (y : AggLayout). slice_get y.offsets i)) is) ∙ at)

  within : (over : Bool) → option_map finished (placed_all (placed_step over) (member_layout g) nothing_placed ms) ≡ Some l → (i : ℕ) (m : Member) (y : Layout) (o : ℕ) → slice_get ms i ≡ Some m → member_layout g m ≡ Some y → offset g a i ≡ Some o → o + y.size ≤ l.whole.size
  within over e i m y o mi fm at =
      let w = whole over (member_layout g) aligned ms l e in
      let r = range over (member_layout g) aligned nothing_placed ms w.placed w.are i m y o mi fm (offset_in over w i o at) in
      omega (arith, r.within, w.end)

  -- no member of a struct or union reaches behind its end
  pub member_within : x.kind ≢ Enum → (i : ℕ) (m : Member) (y : Layout) (o : ℕ) → slice_get ms i ≡ Some m → member_layout g m ≡ Some y → offset g a i ≡ Some o → o + y.size ≤ l.whole.size
  member_within = by x.kind made
    where
      by : (kind : AggKind) → members_layout kind (member_layout g) ms ≡ Some l → kind ≢ Enum → (i : ℕ) (m : Member) (y : Layout) (o : ℕ) → slice_get ms i ≡ Some m → member_layout g m ≡ Some y → offset g a i ≡ Some o → o + y.size ≤ l.whole.size
      by Struct e k = within false e
      by Union e k = within true e
      by Enum e k = absurd (k refl)

  -- a member of a struct stands behind the end of those before it
  pub members_apart : x.kind ≡ Struct → (i j : ℕ) (m n : Member) (y z : Layout) (o r : ℕ) → i < j → slice_get ms i ≡ Some m → member_layout g m ≡ Some y → offset g a i ≡ Some o → slice_get ms j ≡ Some n → member_layout g n ≡ Some z → offset g a j ≡ Some r → o + y.size ≤ r
  members_apart k i j m n y z o r b mi fm oi nj fn oj =
      let w = whole false (member_layout g) aligned ms l (ap (λ (c : AggKind). members_layout c (member_layout g) ms) (sym k) ∙ made) in
      apart false (member_layout g) aligned refl nothing_placed ms w.placed w.are i j m n y z o r b mi fm (offset_in false w i o oi) nj fn (offset_in false w j r oj)
