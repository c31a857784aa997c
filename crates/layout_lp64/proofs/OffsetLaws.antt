-- Device: no offset is behind the end of its aggregate.
use Rattle.std.proofs.Common.{◌≡◌, ℕ, zero, suc, ◌+◌, ◌≤◌, min, max, ◌/◌, ◌*◌, Bool, true, false, List, [], ◌∷◌, ◌++◌, map, length, slice_get, Option, Some, None, ◌⊎◌, inl, inr, refl, sym, ap, ◌∙◌, subst, arith}
use Rattle.std.proofs.lemmas.Option.{slice_get-map}
use Rattle.std.specs.Option.{option_map, option_and_then}
use Rattle.cil_base.specs.declared.numbers.AggId.{AggId}
use Rattle.type_graph.specs.declared.aggregates.AggKind.{AggKind}
use Rattle.type_graph.specs.declared.aggregates.AggKind.TheVariants.{Struct, Union, Enum}
use Rattle.type_graph.specs.declared.aggregates.Member.{Member}
use Rattle.type_graph.specs.declared.layout.Layout.{Layout}
use Rattle.type_graph.specs.declared.nodes.Node.TheVariants.{Agg}
use Rattle.type_graph.specs.Shapes.{shape}
use Rattle.type_graph.specs.Arena.{Graph, IsArena}
use Rattle.type_graph.specs.Layouts.{AggLayout, Placed, round_up, member_in, placed_all, nothing_placed, finished, members_layout, aggregate_in, enum_layout, whole_of, agg_layout, layout, layout_in, offset}
use Rattle.type_graph.proofs.ShapeLaws.{shape_is}
use Rattle.type_graph.proofs.LayoutLaws.{agg_layout_is}
use Rattle.layout_lp64.specs.Capped.{cap, capped_agg}
use Rattle.layout_lp64.proofs.CapLaws.{Aligned, placed_step, all_aligned}
use Rattle.layout_lp64.proofs.AlignLaws.{mapped_from, then_from, member_in_aligned, whole_aligned, agg_aligned}
use Rattle.layout_lp64.proofs.TableLaws.{push_get}

-- a size rounded up is not smaller
pub rounded : (e a : ℕ) → Aligned a → e ≤ round_up e a
rounded e a (inl h) = subst (λ k. e ≤ round_up e k) (sym h) (one e)
  where
    one : (e : ℕ) → e ≤ (e + 0) / 1 * 1
    one e = omega arith
rounded e a (inr (inl h)) = subst (λ k. e ≤ round_up e k) (sym h) (one e)
  where
    one : (e : ℕ) → e ≤ (e + 1) / 2 * 2
    one e = omega arith
rounded e a (inr (inr (inl h))) = subst (λ k. e ≤ round_up e k) (sym h) (one e)
  where
    one : (e : ℕ) → e ≤ (e + 3) / 4 * 4
    one e = omega arith
rounded e a (inr (inr (inr h))) = subst (λ k. e ≤ round_up e k) (sym h) (one e)
  where
    one : (e : ℕ) → e ≤ (e + 7) / 8 * 8
    one e = omega arith

record Within (os : List ℕ) (n : ℕ) : Type 0 where
  each : (i o : ℕ) → slice_get os i ≡ Some o → o ≤ n

within_push : (os : List ℕ) (n m o : ℕ) → Within os n → n ≤ m → o ≤ m → Within (os ++ o ∷ []) m
within_push os n m o w l h = record { each = λ i x e. one i x (push_get os o i x e) }
  where
    one : (i x : ℕ) → (slice_get os i ≡ Some x) ⊎ ((i ≡ length os) × (o ≡ x)) → x ≤ m
    one i x (inl q) = let b : x ≤ n = w.each i x q in omega arith
    one i x (inr q) = let b : o ≡ x = q.1 in omega arith

placed_within : (over : Bool) (p : Placed) (l : Layout) → Aligned l.align → Within p.offsets p.end → Within (placed_step over p l).offsets (placed_step over p l).end
placed_within true p l h w = within_push p.offsets p.end (max p.end l.size) 0 w (omega arith) (omega arith)
placed_within false p l h w = within_push p.offsets p.end (round_up p.end l.align + l.size) (round_up p.end l.align) w (further p.end (round_up p.end l.align) l.size (rounded p.end l.align h)) (more (round_up p.end l.align) l.size)
  where
    further : (a b c : ℕ) → a ≤ b → a ≤ b + c
    further a b c q = omega arith

    more : (b c : ℕ) → b ≤ b + c
    more b c = omega arith

all_within : (over : Bool) (f : Member → Option Layout) → ((m : Member) (l : Layout) → f m ≡ Some l → Aligned l.align) → (p : Placed) → Within p.offsets p.end → (ms : List Member) (q : Placed) → placed_all (placed_step over) f p ms ≡ Some q → Within q.offsets q.end
all_within over f h p w [] q e = let same : p ≡ q = cc in subst (λ (r : Placed). Within r.offsets r.end) same w
all_within over f h p w (m ∷ ms) q e = by (f m) refl e (λ l k. all_within over f h (placed_step over p l) k ms q)
  where
    by : (o : Option Layout) → f m ≡ o → option_and_then (λ (l : Layout). placed_all (placed_step over) f (placed_step over p l) ms) o ≡ Some q → ((l : Layout) → Within (placed_step over p l).offsets (placed_step over p l).end → placed_all (placed_step over) f (placed_step over p l) ms ≡ Some q → Within q.offsets q.end) → Within q.offsets q.end
    by None s d rest = cc
    by (Some l) s d rest = rest l (placed_within over p l (h m l s) w) d

none_within : Within [] 0
none_within = record { each = λ i o e. cc }

finished_within : (over : Bool) (f : Member → Option Layout) → ((m : Member) (l : Layout) → f m ≡ Some l → Aligned l.align) → (ms : List Member) (l : AggLayout) → option_map finished (placed_all (placed_step over) f nothing_placed ms) ≡ Some l → Within l.offsets l.whole.size
finished_within over f h ms l e =
    let from = mapped_from finished (placed_all (placed_step over) f nothing_placed ms) l e in
    let w = all_within over f h nothing_placed none_within ms from.0 from.1 in
    let a = all_aligned over f h nothing_placed (inl refl) ms from.0 from.1 in
    subst (λ (x : AggLayout). Within x.offsets x.whole.size) from.2 (wider from.0.offsets from.0.end (round_up from.0.end from.0.align) w (rounded from.0.end from.0.align a))
  where
    wider : (os : List ℕ) (n m : ℕ) → Within os n → n ≤ m → Within os m
    wider os n m w q = record { each = λ i o e. let b : o ≤ n = w.each i o e in omega arith }

zeros_within : (ms : List Member) → Within (map (λ (m : Member). 0) ms) 4
zeros_within ms = record { each = one ms }
  where
    one : (ns : List Member) (i o : ℕ) → slice_get (map (λ (m : Member). 0) ns) i ≡ Some o → o ≤ 4
    one [] i o e = cc
    one (n ∷ ns) zero o e = let z : 0 ≡ o = cc in omega arith
    one (n ∷ ns) (suc i) o e = one ns i o e

members_within : (kind : AggKind) (f : Member → Option Layout) → ((m : Member) (l : Layout) → f m ≡ Some l → Aligned l.align) → (ms : List Member) (l : AggLayout) → members_layout kind f ms ≡ Some l → Within l.offsets l.whole.size
members_within Struct f h ms l e = finished_within false f h ms l e
members_within Union f h ms l e = finished_within true f h ms l e
members_within Enum f h ms l e = let same : enum_layout ms ≡ l = cc in subst (λ (x : AggLayout). Within x.offsets x.whole.size) same (zeros_within ms)

agg_within : (g : Graph) → IsArena g → (a : ℕ) (l : AggLayout) → agg_layout g a ≡ Some l → Within l.offsets l.whole.size
agg_within g w a l e =
    let x = then_from (aggregate_in g.abi g.nodes (λ b. whole_of (agg_layout g b))) (slice_get g.aggs a) l (sym (agg_layout_is g w a) ∙ e) in
    let ms = then_from (members_layout x.0.kind (λ (m : Member). member_in g.abi (λ b. whole_of (agg_layout g b)) (shape g.nodes m.ty.of.0))) x.0.members l x.2 in
    members_within x.0.kind (λ (m : Member). member_in g.abi (λ b. whole_of (agg_layout g b)) (shape g.nodes m.ty.of.0))
    (λ m y q. member_in_aligned g.abi (λ b. whole_of (agg_layout g b)) (shape g.nodes m.ty.of.0) (λ b z r. whole_aligned (agg_layout g b) (λ v s. agg_aligned g b v s) z r) y q) ms.0 l ms.2

-- the offsets of an aggregate that fits are below the limit
pub offset_is : (g : Graph) → IsArena g → ((t : ℕ) (x : Layout) → layout g t ≡ Some x → x.size ≤ 2147483647) → (t : ℕ) (a : AggId) → slice_get g.nodes t ≡ Some (Agg a) → (i : ℕ) → option_and_then (λ (x : AggLayout). slice_get x.offsets i) (option_map capped_agg (agg_layout g a.0)) ≡ offset g a.0 i
offset_is g w fit t a at i = by (agg_layout g a.0) refl
  where
    named : layout g t ≡ whole_of (agg_layout g a.0)
    named = ap (layout_in g.abi (λ b. whole_of (agg_layout g b))) (shape_is g.nodes t (length g.aggs) (Agg a) at (w.grounded t (Agg a) at))

    small : (os : List ℕ) (n : ℕ) → Within os n → n ≤ 2147483647 → (o : Option ℕ) → slice_get os i ≡ o → option_map cap o ≡ o
    small os n v l None e = refl
    small os n v l (Some x) e =
        let b : x ≤ n = v.each i x e in
        let c : min x 2147483648 ≡ x = omega arith in
        ap Some c

    by : (o : Option AggLayout) → agg_layout g a.0 ≡ o → option_and_then (λ (x : AggLayout). slice_get x.offsets i) (option_map capped_agg o) ≡ option_and_then (λ (x : AggLayout). slice_get x.offsets i) o
    by None e = refl
    by (Some l) e = slice_get-map cap l.offsets i ∙ small l.offsets l.whole.size (agg_within g w a.0 l e) (fit t l.whole (named ∙ ap whole_of e)) (slice_get l.offsets i) refl
