-- Device: the classes that come are those of the units' types.
use Rattle.std.proofs.Common.{◌≡◌, inl, inr, ℕ, zero, suc, ◌+◌, ◌<◌, ◌≤◌, Bool, true, false, List, [], ◌∷◌, Option, Some, None, map, length, get_or, slice_get, nat_eq, nat_lt, if◌then◌else◌, subst, refl, sym, ap, ◌∙◌, arith}
use borrow.Author.Tests.{ltb-true, lt-ltb}
use Rattle.std.specs.Option.{option_map, option_and_then}
use Rattle.cil_base.specs.declared.numbers.UnitNo.{UnitNo}
use Rattle.cil_base.specs.declared.numbers.AggId.{AggId}
use Rattle.type_graph.specs.Arena.{Graph}
use Rattle.type_graph.proofs.Lists.{get_there}
use Rattle.type_iso.specs.declared.class_table.Classes.{Classes}
use Rattle.type_links.specs.declared.parties.Group.{Group}
use Rattle.type_things.specs.declared.web.First.{First}
use Rattle.type_things.specs.declared.web.Head.{Head}
use Rattle.type_things.specs.declared.web.Label.{Label}
use Rattle.type_things.specs.declared.web.Web.{Web}
use Rattle.type_things.specs.Things.{Thing}
use Rattle.cil_base.specs.declared.numbers.TypeId.{TypeId}
use Rattle.type_things.specs.Units.{things, aggregate_thing, type_thing, aggregates_from, types_from, aggregate_count, firsts_from}
use Rattle.type_things.specs.Webs.{thing_in, things_of, first_pair, first_pairs, AreWhole, IsWeb}
use Rattle.type_things.specs.Weaving.{IsWoven, type_count}
use Rattle.std.proofs.lemmas.List.{length-append}
use Rattle.type_links.specs.Links.{sides_in, links_of, FailsFirst}
use Rattle.type_joins.specs.declared.forest.Forest.{Forest}
use Rattle.type_links.specs.declared.linking.Failure.{Failure}
use Rattle.type_iso.specs.declared.merging.ClassStop.{ClassStop}
use Rattle.type_joins.specs.Forests.{root}
use Rattle.type_joins.specs.Joined.{IsJoining}
use Rattle.type_partition.specs.Partition.{AreNumbers}
use Rattle.type_partition.specs.Keys.{num_at}
use Rattle.type_partition.specs.Gathered.{AreGathered}
use Rattle.type_iso.specs.Standing.{at_own, AreLeast, AreStanding, AreOrdered, AreClassed}
use Rattle.type_iso.specs.Classes.{aggregate_number, class_in, representative_in, sides, type_number, IsTypeOf, IsRepresentative, StandsBefore, AreClasses, IsRefused, is_one}
use Rattle.type_order.specs.Order.{IsIn}
use Rattle.type_iso.specs.Places.{ArePlaced, IsTypePlace, IsOver, IsClashAt}
use Rattle.type_iso.specs.Order.{StandsNext}
use Rattle.type_iso.specs.Ordering.{AreIdempotent, IsOrder, AreInOrder}
use Rattle.type_iso.proofs.PlaceLaws.{place_number, aggregate_at, get_mapped}
use Rattle.type_iso.proofs.OrderSteps.{next_same, in_order, standing_idempotent}
use Rattle.type_things.proofs.WovenLaws.{get_map, things_web, things_whole, things_aggregates, map_length}

module _ {H L : Type 0} (ts : List (Thing H L)) (done : List (ℕ × ℕ)) where
  pub least_classes : (cs : List ℕ) → AreGathered ts done cs → AreLeast cs
  least_classes cs g x h =
      let at = g.listed x h in
      let below = g.below x in
      let up : at_own cs (g.by_class x) ≡ g.by_class (g.by_class x) = g.listed (g.by_class x) (omega (arith, below, h)) in
      (omega (arith, at, below), ap (at_own cs) at ∙ up ∙ g.least x ∙ sym at)

  some_same : (a b : ℕ) → ◌≡◌ {A = Option ℕ} (Some a) (Some b) → a ≡ b
  some_same a b e = cc

  pub are_classed : (m : ℕ) (cs standing order all : List ℕ) → AreGathered ts done cs → AreStanding ts cs m standing → AreOrdered order standing all → AreClassed ts done m all order
  are_classed m cs standing order all g s o = record {
    count = o.count ∙ s.count;
    joint = record { by_class = g.by_class; links = g.partition.links; fits = g.partition.fits };
    same = λ x y hx hy. (
      (λ e. g.partition.same x y (class_at x hx ∙ to x y hx hy e ∙ sym (class_at y hy))),
      (λ e. o.same x y (long x hx) (long y hy) (s.same x y hx hy (sym (class_at x hx) ∙ g.partition.found x y e ∙ class_at y hy))),
    );
    own = λ k y q. (let r = o.own k y q in let l = s.count in let h = r.0 in (omega (arith, h, l), r.1));
    placed = λ x hx. (
      at_own standing x,
      o.each x (long x hx),
      record {
        within = below x hx;
        same = g.partition.same (at_own standing x) x (sym (g.listed (at_own standing x) (inside x hx)) ∙ (s.each x hx).member ∙ sym (class_at x hx));
        complete = λ y hy q p. (s.each x hx).full y hy (sym (class_at y hy) ∙ g.partition.found y x q ∙ class_at x hx) p;
        incomplete = λ e y hy q. (
            let low = (s.each x hx).empty e in
            let least = g.below y in
            let one = g.partition.found y x q in
            let at = class_at x hx in
            omega (arith, low, least, one, at));
      },
    );
  }
    where
      long : (x : ℕ) → x < m → x < length standing
      long x h = (let l = s.count in omega (arith, h, l))

      class_at : (x : ℕ) → x < m → g.by_class x ≡ at_own cs x
      class_at x h = sym (g.listed x (s.within x h))

      to : (x y : ℕ) → x < m → y < m → at_own all x ≡ at_own all y → at_own cs x ≡ at_own cs y
      to x y hx hy e =
          let same : at_own standing x ≡ at_own standing y = some_same (at_own standing x) (at_own standing y) (sym (o.each x (long x hx)) ∙ ap (slice_get order) e ∙ o.each y (long y hy)) in
          sym (s.each x hx).member ∙ ap (at_own cs) same ∙ (s.each y hy).member

      below : (x : ℕ) → x < m → at_own standing x < m
      below x h = elim (s.each x h).early [
        | inl e ↦ (let b = g.below x in let a = class_at x h in omega (arith, e, h, b, a))
        | inr l ↦ l
      ]

      inside : (x : ℕ) → x < m → at_own standing x < length cs
      inside x h = elim (s.each x h).early [
        | inl e ↦ (let l = s.within x h in let b = g.below x in let a = class_at x h in omega (arith, e, l, b, a))
        | inr l ↦ s.within (at_own standing x) l
      ]

-- what the phases give
pub order_classed : (ts : List (Thing Head Label)) (done : List (ℕ × ℕ)) (m : ℕ) (f h : Forest) (st ns nd cs cd ss so sd os od all : List ℕ) → h ≡ f → nd ≡ ns → cd ≡ cs → so ≡ ss → sd ≡ ss → od ≡ os
    → AreNumbers ts (num_at ns) → ((us : List (Thing Head Label)) (es : List (ℕ × ℕ)) (vs : List ℕ) → IsJoining us es (root h.parents.items) vs [] → AreNumbers us (num_at nd) → AreGathered us es cs)
    → (AreLeast cd → AreStanding ts cd m ss) → (AreIdempotent m so → IsOrder ts m so os) → AreOrdered od sd all → IsJoining ts done (root f.parents.items) st [] → AreClassed ts done m all os × AreInOrder ts m all os
order_classed ts done m f h st ns nd cs cd ss so sd os od all ef en ec eo es el num gather stand order numbers j =
    let g : AreGathered ts done cs = gather ts done st (subst (λ (k : Forest). IsJoining ts done (root k.parents.items) st []) (sym ef) j) (subst (λ l. AreNumbers ts (num_at l)) (sym en) num) in
    let s : AreStanding ts cs m ss = subst (λ l. AreLeast l → AreStanding ts l m ss) ec stand (least_classes ts done cs g) in
    let o : AreOrdered os ss all = subst (λ l. AreOrdered l ss all) el (subst (λ l. AreOrdered od l all) es numbers) in
    let i : AreIdempotent m ss = standing_idempotent ts cs ss m (least_classes ts done cs g) s in
    (are_classed ts done m cs ss os all g s o, in_order ts m ss all os i o (subst (λ l. AreIdempotent m l → IsOrder ts m l os) eo order i))

-- an aggregate of a unit among those of all units
number_at : (k t : ℕ) (gs : List Graph) (u a x : ℕ) → aggregate_number gs u a ≡ Some x → (f : ℕ × ℕ) × (slice_get (firsts_from k t gs) u ≡ Some f) × (f.0 + a ≡ k + x) × (x < aggregate_count gs)
number_at k t [] u a x e = (let bad : ⊥ = cc in absurd bad)
number_at k t (g ∷ gs) zero a x e = by (nat_lt a (length g.aggs)) refl e
  where
    by : (b : Bool) → nat_lt a (length g.aggs) ≡ b → (if b then Some a else None) ≡ Some x → (f : ℕ × ℕ) × (slice_get (firsts_from k t (g ∷ gs)) zero ≡ Some f) × (f.0 + a ≡ k + x) × (x < aggregate_count (g ∷ gs))
    by true l q = (let same : a ≡ x = cc in let less = ltb-true a (length g.aggs) l in ((k, t), refl, ap (λ n. k + n) same, omega (arith, same, less)))
    by false l q = (let bad : ⊥ = cc in absurd bad)
number_at k t (g ∷ gs) (suc u) a x e = by (aggregate_number gs u a) refl (number_at (k + length g.aggs) (t + length g.nodes) gs u a) e
  where
    by : (o : Option ℕ) → aggregate_number gs u a ≡ o → ((n : ℕ) → aggregate_number gs u a ≡ Some n → (f : ℕ × ℕ) × (slice_get (firsts_from (k + length g.aggs) (t + length g.nodes) gs) u ≡ Some f) × (f.0 + a ≡ k + length g.aggs + n) × (n < aggregate_count gs))
        → option_map (λ n. length g.aggs + n) o ≡ Some x → (f : ℕ × ℕ) × (slice_get (firsts_from k t (g ∷ gs)) (suc u) ≡ Some f) × (f.0 + a ≡ k + x) × (x < aggregate_count (g ∷ gs))
    by None q again r = (let bad : ⊥ = cc in absurd bad)
    by (Some n) q again r = (
        let same : length g.aggs + n ≡ x = cc in
        let rest = again n q in
        let sum = rest.2 in let less = rest.3 in
        (rest.0, rest.1, omega (arith, sum, same), omega (arith, less, same)))

get_own : (xs : List ℕ) (x : ℕ) → x < length xs → slice_get xs x ≡ Some (at_own xs x)
get_own xs x h = by xs x x h
  where
    by : (l : List ℕ) (i d : ℕ) → i < length l → slice_get l i ≡ Some (get_or l i d)
    by [] i d q = absurd (omega (arith, q))
    by (y ∷ l) zero d q = refl
    by (y ∷ l) (suc i) d q = by l i d (omega (arith, q))

class_number : (gs : List Graph) (c : Classes) (u a x : ℕ) → map first_pair c.firsts.items ≡ firsts_from 0 (aggregate_count gs) gs → length c.of.items ≡ aggregate_count gs → aggregate_number gs u a ≡ Some x → (class_in c u a ≡ Some (at_own c.of.items x)) × (x < aggregate_count gs)
class_number gs c u a x firsts count e =
    let n = number_at 0 (aggregate_count gs) gs u a x e in
    let f = get_map first_pair c.firsts.items u n.0 (ap (λ l. slice_get l u) firsts ∙ n.1) in
    let sum = n.2 in let less = n.3 in
    let first : f.0.aggregate ≡ n.0.0 = ap (λ (p : ℕ × ℕ). p.0) f.2 in
    let same : f.0.aggregate + a ≡ x = omega (arith, first, sum) in
    (ap (option_and_then (λ (z : First). slice_get c.of.items (z.aggregate + a))) f.1 ∙ ap (slice_get c.of.items) same ∙ get_own c.of.items x (omega (arith, less, count)), less)

-- the classes are in order, by the units' aggregates
classes_ordered : (names : List (List ℕ)) (gs : List Graph) (c : Classes) (order : List ℕ) → map first_pair c.firsts.items ≡ firsts_from 0 (aggregate_count gs) gs → length c.of.items ≡ aggregate_count gs
    → length c.representatives.items ≡ length order → ArePlaced c.firsts.items order c.representatives.items → ((n s : ℕ) → slice_get order n ≡ Some s → s < aggregate_count gs) → AreInOrder (things names gs) (aggregate_count gs) c.of.items order
    → (n s : ℕ) (p : UnitNo × AggId) → representative_in c n ≡ Some p → aggregate_number gs p.0.0 p.1.0 ≡ Some s → StandsNext (things names gs) (aggregate_count gs) (IsRepresentative gs c) (StandsBefore gs c n) s
classes_ordered names gs c order pairs count long here below listed n s p q e =
    next_same (things names gs) (aggregate_count gs) (IsIn order) (IsRepresentative gs c) (λ a. at_own c.of.items a < n) (StandsBefore gs c n)
    (λ a l i. (let w = here.each i.0 a i.1 in (i.0, w.0, w.1, place_number gs c.firsts.items a w.0 pairs l w.2)))
    (λ a l i. (i.0, found i.0 a i.1 i.2 i.3))
    (λ a l h u b z f g. (
    let same : at_own c.of.items a ≡ z = some_number (at_own c.of.items a) z (sym (class_number gs c u b a pairs count f).0 ∙ g) in
    omega (arith, h, same)))
    (λ a l h. (let w = aggregate_at gs a l in h w.0 w.1 (at_own c.of.items a) w.2 (class_number gs c w.0 w.1 a pairs count w.2).0))
    s (listed n s (found n s p q e))
  where
    some_number : (m n : ℕ) → ◌≡◌ {A = Option ℕ} (Some m) (Some n) → m ≡ n
    some_number m n e = cc

    some_place : (p q : UnitNo × AggId) → ◌≡◌ {A = Option (UnitNo × AggId)} (Some p) (Some q) → p ≡ q
    some_place p q e = cc

    inside : (ps : List (UnitNo × AggId)) (i : ℕ) (p : UnitNo × AggId) → slice_get ps i ≡ Some p → i < length ps
    inside [] i p e = (let bad : ⊥ = cc in absurd bad)
    inside (q ∷ ps) zero p e = omega arith
    inside (q ∷ ps) (suc i) p e = (let w = inside ps i p e in omega (arith, w))

    found : (i x : ℕ) (r : UnitNo × AggId) → representative_in c i ≡ Some r → aggregate_number gs r.0.0 r.1.0 ≡ Some x → slice_get order i ≡ Some x
    found i x r f g =
        let at = get_there order i (subst (λ z. i < z) long (inside c.representatives.items i r f)) in
        let place = here.each i at.0 at.1 in
        let one : place.0 ≡ r = some_place place.0 r (sym place.1 ∙ f) in
        let number = subst (λ (z : UnitNo × AggId). aggregate_number gs z.0.0 z.1.0 ≡ Some at.0) one (place_number gs c.firsts.items at.0 place.0 pairs (below i at.0 at.1) place.2) in
        at.1 ∙ ap Some (some_number at.0 x (sym number ∙ g))

pub are_classes : (names : List (List ℕ)) (gs : List Graph) (groups : List Group) (c : Classes) (w : Web) (order : List ℕ) → IsWoven names gs w → c.firsts ≡ w.firsts
    → AreClassed (things_of w) (links_of (things_of w) (map (sides_in (first_pairs w)) groups)) w.aggregates c.of.items order → ArePlaced w.firsts.items order c.representatives.items → AreInOrder (things_of w) w.aggregates c.of.items order → AreClasses names gs groups c
are_classes names gs groups c w order woven firsts a places ordered =
    let first : AreClassed (things names gs) (links_of (things names gs) (map (sides_in (first_pairs w)) groups)) w.aggregates c.of.items order =
    subst (λ ts. AreClassed ts (links_of ts (map (sides_in (first_pairs w)) groups)) w.aggregates c.of.items order) woven.things a in
    let second : AreClassed (things names gs) (links_of (things names gs) (sides gs groups)) w.aggregates c.of.items order =
    subst (λ f. AreClassed (things names gs) (links_of (things names gs) (map (sides_in f) groups)) w.aggregates c.of.items order) woven.firsts first in
    let k : AreClassed (things names gs) (links_of (things names gs) (sides gs groups)) (aggregate_count gs) c.of.items order =
    subst (λ m. AreClassed (things names gs) (links_of (things names gs) (sides gs groups)) m c.of.items order) woven.aggregates second in
    let listed : AreInOrder (things names gs) (aggregate_count gs) c.of.items order =
    subst (λ m. AreInOrder (things names gs) m c.of.items order) woven.aggregates (subst (λ ts. AreInOrder ts w.aggregates c.of.items order) woven.things ordered) in
    let pairs : map first_pair c.firsts.items ≡ firsts_from 0 (aggregate_count gs) gs = ap (λ v. map first_pair v.items) firsts ∙ woven.firsts in
    let here : ArePlaced c.firsts.items order c.representatives.items = subst (λ v. ArePlaced v.items order c.representatives.items) (sym firsts) places in
    record {
      joint = k.joint;
      some = λ u b x e. (at_own c.of.items x, (class_number gs c u b x pairs k.count e).0);
      same = λ u b v d x y e f. (
          let p = class_number gs c u b x pairs k.count e in
          let q = class_number gs c v d y pairs k.count f in
          let both = k.same x y p.1 q.1 in
          ((λ h. both.0 (some_number (at_own c.of.items x) (at_own c.of.items y) (sym p.0 ∙ h ∙ q.0))), (λ h. p.0 ∙ ap Some (both.1 h) ∙ sym q.0)));
      own = λ n p q. (
          let at = get_there order n (subst (λ z. n < z) places.count (inside c.representatives.items n p q)) in
          let r = k.own n at.0 at.1 in
          let place = here.each n at.0 at.1 in
          let one : place.0 ≡ p = some_place place.0 p (sym place.1 ∙ q) in
          let number = subst (λ (z : UnitNo × AggId). aggregate_number gs z.0.0 z.1.0 ≡ Some at.0) one (place_number gs c.firsts.items at.0 place.0 pairs r.0 place.2) in
          (class_number gs c p.0.0 p.1.0 at.0 pairs k.count number).0 ∙ ap Some r.1);
      stands = λ u b x n e q. (
          let p = class_number gs c u b x pairs k.count e in
          let same : at_own c.of.items x ≡ n = some_number (at_own c.of.items x) n (sym p.0 ∙ q) in
          let r = k.placed x p.1 in
          let place = here.each (at_own c.of.items x) r.0 r.1 in
          (place.0, r.0, ap (slice_get c.representatives.items) (sym same) ∙ place.1, place_number gs c.firsts.items r.0 place.0 pairs r.2.within place.2, r.2));
      ordered = classes_ordered names gs c order pairs k.count places.count here (λ n s q. (k.own n s q).0) listed;
    }
  where
    some_number : (m n : ℕ) → ◌≡◌ {A = Option ℕ} (Some m) (Some n) → m ≡ n
    some_number m n e = cc

    some_place : (p q : UnitNo × AggId) → ◌≡◌ {A = Option (UnitNo × AggId)} (Some p) (Some q) → p ≡ q
    some_place p q e = cc

    inside : (ps : List (UnitNo × AggId)) (i : ℕ) (p : UnitNo × AggId) → slice_get ps i ≡ Some p → i < length ps
    inside [] i p e = (let bad : ⊥ = cc in absurd bad)
    inside (q ∷ ps) zero p e = omega arith
    inside (q ∷ ps) (suc i) p e = (let w = inside ps i p e in omega (arith, w))

pub fails_first : (names : List (List ℕ)) (gs : List Graph) (groups : List Group) (w : Web) (group earlier later : ℕ) (pair : ℕ × ℕ) → IsWoven names gs w
    → FailsFirst (things_of w) (map (sides_in (first_pairs w)) groups) group earlier later pair → FailsFirst (things names gs) (sides gs groups) group earlier later pair
fails_first names gs groups w group earlier later pair woven f =
    subst (λ l. FailsFirst (things names gs) (map (sides_in l) groups) group earlier later pair) woven.firsts
    (subst (λ ts. FailsFirst ts (map (sides_in (first_pairs w)) groups) group earlier later pair) woven.things f)

things_count : (names : List (List ℕ)) (gs : List Graph) → length (things names gs) ≡ aggregate_count gs + type_count gs
things_count names gs = (
    let a = length-append (aggregates_from names (aggregate_count gs) gs) (types_from 0 (aggregate_count gs) gs) in
    let b = aggregates (aggregate_count gs) gs in
    let c = types 0 (aggregate_count gs) gs in
    omega (arith, a, b, c))
  where
    aggregates : (t : ℕ) (hs : List Graph) → length (aggregates_from names t hs) ≡ aggregate_count hs
    aggregates t [] = refl
    aggregates t (h ∷ hs) = (
        let a = length-append (map (aggregate_thing names t) h.aggs) (aggregates_from names (t + length h.nodes) hs) in
        let b = map_length (aggregate_thing names t) h.aggs in
        let c = aggregates (t + length h.nodes) hs in
        omega (arith, a, b, c))

    types : (k t : ℕ) (hs : List Graph) → length (types_from k t hs) ≡ type_count hs
    types k t [] = refl
    types k t (h ∷ hs) = (
        let a = length-append (map (type_thing k t) h.nodes) (types_from (k + length h.aggs) (t + length h.nodes) hs) in
        let b = map_length (type_thing k t) h.nodes in
        let c = types (k + length h.aggs) (t + length h.nodes) hs in
        omega (arith, a, b, c))

-- a type of a unit by its number
type_numbered : (k t : ℕ) (gs : List Graph) (u n y : ℕ) (f : ℕ × ℕ) → slice_get (firsts_from k t gs) u ≡ Some f → f.1 + n ≡ y → ((g : ℕ × ℕ) → slice_get (firsts_from k t gs) (suc u) ≡ Some g → y < g.1) → y < t + type_count gs → type_number t gs u n ≡ Some y
type_numbered k t [] u n y f e sum ends h = (let bad : ⊥ = cc in absurd bad)
type_numbered k t (g ∷ gs) zero n y f e sum ends h =
    let same : (k, t) ≡ f = cc in
    let first : t ≡ f.1 = ap (λ (p : ℕ × ℕ). p.1) same in
    let own : t + n ≡ y = omega (arith, first, sum) in
    ap (λ b. if b then Some (t + n) else None) (lt-ltb n (length g.nodes) (by gs ends h own)) ∙ ap Some own
  where
    by : (hs : List Graph) → ((p : ℕ × ℕ) → slice_get (firsts_from (k + length g.aggs) (t + length g.nodes) hs) 0 ≡ Some p → y < p.1) → y < t + (length g.nodes + type_count hs) → t + n ≡ y → n < length g.nodes
    by [] last less own = omega (arith, less, own)
    by (i ∷ hs) last less own = (let q = last (k + length g.aggs, t + length g.nodes) refl in omega (arith, q, own))
type_numbered k t (g ∷ gs) (suc u) n y f e sum ends h = type_numbered (k + length g.aggs) (t + length g.nodes) gs u n y f e sum ends (omega (arith, h))

type_placed : (names : List (List ℕ)) (gs : List Graph) (w : Web) (x y : ℕ) (p : UnitNo × TypeId) → IsWoven names gs w → IsOver (things_of w) x y → IsTypePlace w.firsts.items (length w.things.items) y p → IsTypeOf (things names gs) gs p x
type_placed names gs w x y p woven over is = (
  y,
  type_numbered 0 (aggregate_count gs) gs p.0.0 p.1.0 y (first_pair is.first) (ap (λ l. slice_get l p.0.0) (sym woven.firsts) ∙ get_mapped first_pair w.firsts.items p.0.0 is.first is.unit) is.number
      (λ g q. (
      let r = get_map first_pair w.firsts.items (suc p.0.0) g (ap (λ l. slice_get l (suc p.0.0)) woven.firsts ∙ q) in
      let less = is.ends r.0 r.1 in
      let same : r.0.ty ≡ g.1 = ap (λ (v : ℕ × ℕ). v.1) r.2 in
      omega (arith, less, same)))
      (
      let a = ap length woven.things in
      let b = map_length (thing_in w.parts.items) w.things.items in
      let c = things_count names gs in
      let d = is.within in
      omega (arith, a, b, c, d)),
  subst (λ ts. IsOver ts x y) woven.things over,
)

pub refused : (names : List (List ℕ)) (gs : List Graph) (groups : List Group) (w : Web) (f : Failure) (s : ClassStop) → IsWoven names gs w → IsClashAt w f s
    → FailsFirst (things_of w) (map (sides_in (first_pairs w)) groups) f.group f.earlier f.later f.pair → IsRefused names gs groups s
refused names gs groups w f s woven clash fails = subst (IsRefused names gs groups) (sym clash.is)
    (f.pair, fails_first names gs groups w f.group f.earlier f.later f.pair woven fails, type_placed names gs w f.pair.0 clash.first clash.left woven clash.first_over clash.first_at, type_placed names gs w f.pair.1 clash.second clash.right woven clash.second_over clash.second_at)

pub woven_whole : (names : List (List ℕ)) (gs : List Graph) (w : Web) → IsWoven names gs w → AreWhole (things_of w)
woven_whole names gs w woven = subst AreWhole (sym woven.things) (things_whole names gs)

pub woven_web : (names : List (List ℕ)) (gs : List Graph) (w : Web) → IsWoven names gs w → IsWeb (things_of w) w.aggregates
woven_web names gs w woven = subst (IsWeb (things_of w)) (sym woven.aggregates) (subst (λ ts. IsWeb ts (aggregate_count gs)) (sym woven.things) (things_web names gs woven.arenas))

pub woven_within : (names : List (List ℕ)) (gs : List Graph) (w : Web) → IsWoven names gs w → w.aggregates ≤ length w.things.items
woven_within names gs w woven = (
    let a = things_aggregates names gs in
    let b = ap length woven.things in
    let c = map_length (thing_in w.parts.items) w.things.items in
    let d = woven.aggregates in
    omega (arith, a, b, c, d))

pub no_first : (k l : Option ℕ) → None ≡ k → false ≡ is_one k l
no_first k l e = ap (λ o. is_one o l) e

pub no_second : (a : ℕ) (k l : Option ℕ) → Some a ≡ k → None ≡ l → false ≡ is_one k l
no_second a k l e f = ap (is_one (Some a)) f ∙ ap (λ o. is_one o l) e

pub both_classes : (a b : ℕ) (k l : Option ℕ) → Some a ≡ k → Some b ≡ l → nat_eq a b ≡ is_one k l
both_classes a b k l e f = ap (is_one (Some a)) f ∙ ap (λ o. is_one o l) e
