-- Device: aggregates by their units and their numbers there.
use Rattle.std.proofs.Common.{◌≡◌, inl, inr, ℕ, zero, suc, ◌+◌, ◌<◌, ◌≤◌, List, [], ◌∷◌, Some, None, map, length, slice_get, if◌then◌else◌, refl, sym, ap, ◌∙◌, arith}
use borrow.Author.Tests.{lt-ltb}
use Rattle.std.specs.Option.{option_map}
use Rattle.cil_base.specs.declared.numbers.UnitNo.{UnitNo}
use Rattle.cil_base.specs.declared.numbers.AggId.{AggId}
use Rattle.type_graph.specs.Arena.{Graph}
use Rattle.type_things.specs.declared.web.First.{First}
use Rattle.type_things.proofs.NumberLaws.{less_or}
use Rattle.type_things.specs.Units.{aggregate_count, firsts_from}
use Rattle.type_things.specs.Webs.{first_pair}
use Rattle.type_iso.specs.Places.{IsPlace}
use Rattle.type_iso.specs.Classes.{aggregate_number}

-- a difference
difference : (a b : ℕ) → a ≤ b → (d : ℕ) × (b ≡ a + d)
difference zero b h = (b, (let e : b ≡ 0 + b = omega arith in e))
difference (suc a) zero h = absurd (omega (arith, h))
difference (suc a) (suc b) h = (let r = difference a b (omega (arith, h)) in let q = r.1 in (r.0, (let e : suc b ≡ suc a + r.0 = omega (arith, q) in e)))

-- a unit's first numbers are not below those of the first unit
firsts_above : (k t : ℕ) (gs : List Graph) (u : ℕ) (f : ℕ × ℕ) → slice_get (firsts_from k t gs) u ≡ Some f → k ≤ f.0
firsts_above k t [] u f e = (let bad : ⊥ = cc in absurd bad)
firsts_above k t (g ∷ gs) zero f e = (let same : (k, t) ≡ f = cc in let q : k ≡ f.0 = ap (λ (p : ℕ × ℕ). p.0) same in omega (arith, q))
firsts_above k t (g ∷ gs) (suc u) f e = (let r = firsts_above (k + length g.aggs) (t + length g.nodes) gs u f e in omega (arith, r))

-- the place of an aggregate has its number
numbered : (k t : ℕ) (gs : List Graph) (u n x : ℕ) (f : ℕ × ℕ) → slice_get (firsts_from k t gs) u ≡ Some f → f.0 + n ≡ k + x → ((g : ℕ × ℕ) → slice_get (firsts_from k t gs) (suc u) ≡ Some g → k + x < g.0) → x < aggregate_count gs → aggregate_number gs u n ≡ Some x
numbered k t [] u n x f e sum ends h = absurd (omega (arith, h))
numbered k t (g ∷ gs) zero n x f e sum ends h =
    let same : (k, t) ≡ f = cc in
    let first : k ≡ f.0 = ap (λ (p : ℕ × ℕ). p.0) same in
    let own : n ≡ x = omega (arith, first, sum) in
    ap (λ b. if b then Some n else None) (lt-ltb n (length g.aggs) (by gs ends h own)) ∙ ap Some own
  where
    by : (hs : List Graph) → ((p : ℕ × ℕ) → slice_get (firsts_from (k + length g.aggs) (t + length g.nodes) hs) 0 ≡ Some p → k + x < p.0) → x < length g.aggs + aggregate_count hs → n ≡ x → n < length g.aggs
    by [] last less own = omega (arith, less, own)
    by (i ∷ hs) last less own = (let q = last (k + length g.aggs, t + length g.nodes) refl in omega (arith, q, own))
numbered k t (g ∷ gs) (suc u) n x f e sum ends h =
    let above = firsts_above (k + length g.aggs) (t + length g.nodes) gs u f e in
    let d = difference (length g.aggs) x (by u n f e sum above ends) in
    let is = d.1 in
    let rest = numbered (k + length g.aggs) (t + length g.nodes) gs u n d.0 f e (omega (arith, sum, is)) (λ p q. (let l = ends p q in omega (arith, l, is))) (omega (arith, h, is)) in
    ap (option_map (λ m. length g.aggs + m)) rest ∙ ap Some (sym is)
  where
    by : (u n : ℕ) (f : ℕ × ℕ) → slice_get (firsts_from (k + length g.aggs) (t + length g.nodes) gs) u ≡ Some f → f.0 + n ≡ k + x → k + length g.aggs ≤ f.0 → ((p : ℕ × ℕ) → slice_get (firsts_from (k + length g.aggs) (t + length g.nodes) gs) (suc u) ≡ Some p → k + x < p.0) → length g.aggs ≤ x
    by u n f e sum above ends = omega (arith, sum, above)

-- an aggregate of all units is one of a unit
pub aggregate_at : (gs : List Graph) (x : ℕ) → x < aggregate_count gs → (u : ℕ) × (b : ℕ) × (aggregate_number gs u b ≡ Some x)
aggregate_at [] x h = absurd (omega (arith, h))
aggregate_at (g ∷ gs) x h = elim (less_or x (length g.aggs)) [
  | inl l ↦ (0, x, ap (λ b. if b then Some x else None) (lt-ltb x (length g.aggs) l))
  | inr l ↦ (
      let d = difference (length g.aggs) x l in
      let is = d.1 in
      let r = aggregate_at gs d.0 (omega (arith, h, is)) in
      (suc r.0, r.1, ap (option_map (λ m. length g.aggs + m)) r.2 ∙ ap Some (sym is)))
]

pub get_mapped : {X Y : Type 0} (f : X → Y) (xs : List X) (i : ℕ) (x : X) → slice_get xs i ≡ Some x → slice_get (map f xs) i ≡ Some (f x)
get_mapped f [] i x e = (let bad : ⊥ = cc in absurd bad)
get_mapped f (y ∷ xs) zero x e = (let s : y ≡ x = cc in ap (λ z. Some (f z)) s)
get_mapped f (y ∷ xs) (suc i) x e = get_mapped f xs i x e

mapped_get : {X Y : Type 0} (f : X → Y) (xs : List X) (i : ℕ) (y : Y) → slice_get (map f xs) i ≡ Some y → (x : X) × (slice_get xs i ≡ Some x) × (f x ≡ y)
mapped_get f [] i y e = (let bad : ⊥ = cc in absurd bad)
mapped_get f (x ∷ xs) zero y e = (x, refl, (let s : f x ≡ y = cc in s))
mapped_get f (x ∷ xs) (suc i) y e = mapped_get f xs i y e

pub place_number : (gs : List Graph) (fs : List First) (x : ℕ) (p : UnitNo × AggId) → map first_pair fs ≡ firsts_from 0 (aggregate_count gs) gs → x < aggregate_count gs → IsPlace fs x p → aggregate_number gs p.0.0 p.1.0 ≡ Some x
place_number gs fs x p firsts h is =
    let number = is.number in
    let sum : (first_pair is.first).0 + p.1.0 ≡ 0 + x = omega (arith, number) in
    numbered 0 (aggregate_count gs) gs p.0.0 p.1.0 x (first_pair is.first) (ap (λ l. slice_get l p.0.0) (sym firsts) ∙ get_mapped first_pair fs p.0.0 is.first is.unit) sum
    (λ g q. (
    let r = mapped_get first_pair fs (suc p.0.0) g (ap (λ l. slice_get l (suc p.0.0)) firsts ∙ q) in
    let less = is.ends r.0 r.1 in
    let same : r.0.aggregate ≡ g.0 = ap (λ (w : ℕ × ℕ). w.0) r.2 in
    (let e : 0 + x < g.0 = omega (arith, less, same) in e)))
    h
