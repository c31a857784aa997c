-- Device: the links of one name are joined: those that say nothing new are held by the others.
use Rattle.std.proofs.Common.{◌≡◌, ◌⊎◌, inl, inr, ℕ, zero, suc, ◌<◌, ◌≤◌, List, [], ◌∷◌, ◌++◌, Some, length, take, slice_get, subst, sym, ap, ◌∙◌, arith}
use Rattle.type_things.specs.declared.web.Head.{Head}
use Rattle.type_things.specs.declared.web.Label.{Label}
use Rattle.type_links.specs.declared.linking.Side.{Side}
use Rattle.type_links.specs.declared.linking.Distinct.{Distinct}
use Rattle.type_things.specs.Things.{Thing, HoldsPairs, Fits, Forced, IsClash}
use Rattle.type_joins.specs.Joined.{IsJoining}
use Rattle.type_links.specs.Links.{link, links_with}
use Rattle.type_things.specs.Webs.{AreWhole}
use Rattle.type_links.specs.Linking.{Holds, sides_of, IsKnown, IsSaid, IsGroup, FailsCounted, FailsWith}
use Rattle.type_joins.proofs.JoinedLaws.{pairs_append, pairs_left, pairs_right, exchanges, fits_joined, holds_joined, forced_joined, fits_closed}
use Rattle.type_links.proofs.LinkLaws.{at_there, at_left, at_push, at_end, at_take, take_at, at_map, map_at, held_all, held_at, link_turned, link_self, link_same}

less_or : (a b : ℕ) → (a < b) ⊎ (b ≤ a)
less_or a zero = inr (omega arith)
less_or zero (suc b) = inl (omega arith)
less_or (suc a) (suc b) = elim (less_or a b) [ inl h ↦ inl (omega (arith, h)) | inr h ↦ inr (omega (arith, h)) ]

module _ (ts : List (Thing Head Label)) where
  forced_more : (done more : List (ℕ × ℕ)) (x y : ℕ) → Forced ts done x y → Forced ts (done ++ more) x y
  forced_more done more x y f e h c = f e (pairs_left e done more h) c

  said_more : (done more : List (ℕ × ℕ)) (ds : List Distinct) (i : ℕ) (s : Side) → IsSaid ts done ds i s → IsSaid ts (done ++ more) ds i s
  said_more done more ds i s a = record {
    place = a.place;
    one = a.one;
    there = a.there;
    before = a.before;
    bare = a.bare;
    same = forced_more done more a.one.side.ty s.ty a.same;
  }

  pub group_starts : (done : List (ℕ × ℕ)) → IsGroup ts done [] []
  group_starts done = record {
    said = λ i s h. (let bad : ⊥ = cc in absurd bad);
    own = λ q d h. (let bad : ⊥ = cc in absurd bad);
    sorted = λ p q c d less h. (let bad : ⊥ = cc in absurd bad);
    fit = λ p q c d h. (let bad : ⊥ = cc in absurd bad);
  }

  -- the declarations that those that count say are held with another one where those are
  module _ (whole : AreWhole ts) (done : List (ℕ × ℕ)) (sides : List Side) (ds : List Distinct) (group : IsGroup ts done sides ds) (b : Side) where
    -- of one declaration
    said_held : (e : ℕ → ℕ) → HoldsPairs e done → Fits ts e → (i : ℕ) (s : Side) → (said : IsSaid ts done ds i s) → Holds e (link ts said.one.side b) → Holds e (link ts s b)
    said_held e h f i s said held = link_same ts e whole f said.one.side s b (said.same e h (fits_closed ts e f)) said.bare held

    -- of all that come before a place, where those that count before a place are held
    taken_held : (e : ℕ → ℕ) (n k : ℕ) → HoldsPairs e done → Fits ts e → ((i : ℕ) (s : Side) → (said : IsSaid ts done ds i s) → i < n → said.place < k) → HoldsPairs e (links_with ts (sides_of (take k ds)) b) → HoldsPairs e (links_with ts (take n sides) b)
    taken_held e n k h f within held = held_all e (λ a. link ts a b) (take n sides) (λ i s q. (
        let t = at_take sides n i s q in
        let said = group.said i s t.1 in
        said_held e h f i s said (held_at e (λ a. link ts a b) (sides_of (take k ds)) said.place said.one.side held
        (at_map (λ (d : Distinct). d.side) (take k ds) said.place said.one (take_at ds k said.place said.one (within i s said t.0) said.there)))))

    -- of those that count before one of them
    counted_held : (e : ℕ → ℕ) (k : ℕ) (d : Distinct) → slice_get ds k ≡ Some d → HoldsPairs e (links_with ts (take d.place sides) b) → HoldsPairs e (links_with ts (sides_of (take k ds)) b)
    counted_held e k d at held = held_all e (λ a. link ts a b) (sides_of (take k ds)) (λ q s z. (
        let m = map_at (λ (c : Distinct). c.side) (take k ds) q s z in
        let t = at_take ds k q m.0 m.1 in
        subst (λ a. Holds e (link ts a b)) m.2 (held_at e (λ a. link ts a b) (take d.place sides) m.0.place m.0.side held
        (take_at sides d.place m.0.place m.0.side (group.sorted q k m.0 d t.0 t.1 at) (group.own q m.0 t.1)))))

    all_sides_held : (e : ℕ → ℕ) → HoldsPairs e done → Fits ts e → ((q : ℕ) (d : Distinct) → slice_get ds q ≡ Some d → Holds e (link ts d.side b)) → HoldsPairs e (links_with ts sides b)
    all_sides_held e h f held = held_all e (λ a. link ts a b) sides (λ i s q. (let said = group.said i s q in said_held e h f i s said (held said.place said.one said.there)))

    all_counted_held : (e : ℕ → ℕ) → HoldsPairs e (links_with ts sides b) → HoldsPairs e (links_with ts (sides_of ds) b)
    all_counted_held e held = held_all e (λ a. link ts a b) (sides_of ds) (λ q s z. (
        let m = map_at (λ (c : Distinct). c.side) ds q s z in
        subst (λ a. Holds e (link ts a b)) m.2 (held_at e (λ a. link ts a b) sides m.0.place m.0.side held (group.own q m.0 m.1))))

    -- one that counts says what the declaration says
    pub known_held : (r : ℕ → ℕ) → HoldsPairs r done → Fits ts r → IsKnown r ds b → HoldsPairs r (links_with ts sides b)
    known_held r h f known = all_sides_held r h f (λ q d at.
        link_turned ts r b d.side (link_same ts r whole f known.one.side b d.side known.says.1 known.says.0
        (group.fit known.place q known.one d known.there at r h f)))

    pub known_joined : (r : ℕ → ℕ) (st : List ℕ) → IsJoining ts done r st [] → IsKnown r ds b → IsJoining ts (done ++ links_with ts sides b) r st []
    known_joined r st j known = exchanges ts done (done ++ links_with ts sides b) r st (λ e h. pairs_left e done (links_with ts sides b) h)
        (pairs_append r done (links_with ts sides b) (holds_joined ts done r st j) (known_held r (holds_joined ts done r st j) (fits_joined ts done r st j) known)) j

    -- all that count are joined with it
    pub counted_joined : (r : ℕ → ℕ) (st : List ℕ) → IsJoining ts (done ++ links_with ts (sides_of ds) b) r st [] → IsJoining ts (done ++ links_with ts sides b) r st []
    counted_joined r st j =
        let all = holds_joined ts (done ++ links_with ts (sides_of ds) b) r st j in
        let first = pairs_left r done (links_with ts (sides_of ds) b) all in
        let second = pairs_right r done (links_with ts (sides_of ds) b) all in
        let fit = fits_joined ts (done ++ links_with ts (sides_of ds) b) r st j in
        exchanges ts (done ++ links_with ts (sides_of ds) b) (done ++ links_with ts sides b) r st
        (λ e h. pairs_append e done (links_with ts (sides_of ds) b) (pairs_left e done (links_with ts sides b) h) (all_counted_held e (pairs_right e done (links_with ts sides b) h)))
        (pairs_append r done (links_with ts sides b) first (all_sides_held r first fit (λ q d at.
        held_at r (λ a. link ts a b) (sides_of ds) q d.side second (at_map (λ (c : Distinct). c.side) ds q d at)))) j

    -- the declarations once one more is known
    pub known_group : (r : ℕ → ℕ) (st : List ℕ) (more : List (ℕ × ℕ)) → IsJoining ts (done ++ more) r st [] → IsKnown r ds b → IsGroup ts (done ++ more) (sides ++ b ∷ []) ds
    known_group r st more j known = record {
      said = λ i s q. elim (at_push sides b i s q) [
        | inl h ↦ said_more done more ds i s (group.said i s h)
        | inr h ↦ record {
          place = known.place;
          one = known.one;
          there = known.there;
          before = (let l = at_there sides known.one.place known.one.side (group.own known.place known.one known.there) in omega (arith, l, h.0));
          bare = known.says.0 ∙ ap (λ (z : Side). z.bare) (sym h.1);
          same = λ e p c. (let w = forced_joined ts (done ++ more) r st j e p c in sym (w known.one.side.ty) ∙ ap e known.says.1 ∙ w b.ty ∙ ap (λ (z : Side). e z.ty) (sym h.1));
        }
      ];
      own = λ q d at. (let o = group.own q d at in at_left sides (b ∷ []) d.place (at_there sides d.place d.side o) ∙ o);
      sorted = group.sorted;
      fit = λ p q c d hp hq e h f. group.fit p q c d hp hq e (pairs_left e done more h) f;
    }

    -- and once one more counts
    pub pushed_group : (d : Distinct) → d.side ≡ b → d.place ≡ length sides → IsGroup ts (done ++ links_with ts sides b) (sides ++ b ∷ []) (ds ++ d ∷ [])
    pushed_group d side place = record {
      said = λ i s q. elim (at_push sides b i s q) [
        | inl h ↦ (let a = group.said i s h in record {
          place = a.place;
          one = a.one;
          there = at_left ds (d ∷ []) a.place (at_there ds a.place a.one a.there) ∙ a.there;
          before = a.before;
          bare = a.bare;
          same = forced_more done (links_with ts sides b) a.one.side.ty s.ty a.same;
        })
        | inr h ↦ record {
          place = length ds;
          one = d;
          there = at_end ds d;
          before = omega (arith, place, h.0);
          bare = ap (λ (z : Side). z.bare) (side ∙ sym h.1);
          same = λ e p c. ap (λ (z : Side). e z.ty) (side ∙ sym h.1);
        }
      ];
      own = λ q c at. elim (at_push ds d q c at) [
        | inl h ↦ (let o = group.own q c h in at_left sides (b ∷ []) c.place (at_there sides c.place c.side o) ∙ o)
        | inr h ↦ ap (slice_get (sides ++ b ∷ [])) (ap (λ (z : Distinct). z.place) h.1 ∙ place) ∙ at_end sides b ∙ ap Some (sym side) ∙ ap (λ (z : Distinct). Some z.side) (sym h.1)
      ];
      sorted = λ p q c a less hp hq. elim (at_push ds d q a hq) [
        | inl h ↦ elim (at_push ds d p c hp) [
          | inl g ↦ group.sorted p q c a less g h
          | inr g ↦ absurd (let l = at_there ds q a h in omega (arith, l, less, g.0))
        ]
        | inr h ↦ elim (at_push ds d p c hp) [
          | inl g ↦ (
              let l = at_there sides c.place c.side (group.own p c g) in
              let m : a.place ≡ length sides = ap (λ (z : Distinct). z.place) h.1 ∙ place in
              omega (arith, l, m))
          | inr g ↦ absurd (omega (arith, less, g.0, h.0))
        ]
      ];
      fit = λ p q c a hp hq e held f. (
          let first = pairs_left e done (links_with ts sides b) held in
          let second = pairs_right e done (links_with ts sides b) held in
          let with_b : (n : ℕ) (z : Distinct) → slice_get ds n ≡ Some z → Holds e (link ts z.side b) = λ n z at. held_at e (λ k. link ts k b) sides z.place z.side second (group.own n z at) in
          elim (at_push ds d p c hp) [
            | inl g ↦ elim (at_push ds d q a hq) [
              | inl h ↦ group.fit p q c a g h e first f
              | inr h ↦ subst (λ z. Holds e (link ts c.side z)) (sym (ap (λ (z : Distinct). z.side) h.1 ∙ side)) (with_b p c g)
            ]
            | inr g ↦ subst (λ z. Holds e (link ts z a.side)) (sym (ap (λ (z : Distinct). z.side) g.1 ∙ side)) (elim (at_push ds d q a hq) [
              | inl h ↦ link_turned ts e a.side b (with_b q a h)
              | inr h ↦ subst (λ z. Holds e (link ts b z)) (sym (ap (λ (z : Distinct). z.side) h.1 ∙ side)) (link_self ts e b)
            ])
          ]);
    }

    -- a link fails
    pub failed_with : (earlier : ℕ) (pair : ℕ × ℕ) → FailsCounted ts done ds b earlier pair → FailsWith ts done sides b earlier pair
    failed_with earlier pair f =
        let own = group.own f.place f.one f.there in
        let within : (i : ℕ) (s : Side) → (said : IsSaid ts done ds i s) → i < f.one.place → said.place < f.place = λ i s said less. elim (less_or said.place f.place) [
          | inl h ↦ h
          | inr h ↦ absurd (elim (less_or f.place said.place) [
            | inl g ↦ (let l = group.sorted f.place said.place f.one said.one g f.there said.there in let m = said.before in omega (arith, l, m, less))
            | inr g ↦ (
                let same : f.place ≡ said.place = omega (arith, h, g) in
                let two : Some f.one ≡ Some said.one = sym f.there ∙ ap (slice_get ds) same ∙ said.there in
                let one : f.one ≡ said.one = cc in
                let places : f.one.place ≡ said.one.place = ap (λ (z : Distinct). z.place) one in
                let m = said.before in omega (arith, places, m, less))
          ])
        ] in
        record {
          a = f.one.side;
          there = ap (slice_get sides) f.number ∙ own;
          joint = (
              let j = f.joint in
              let first = pairs_left j.by_class done (links_with ts (sides_of (take f.place ds)) b) j.links in
              let second = pairs_right j.by_class done (links_with ts (sides_of (take f.place ds)) b) j.links in
              record {
                by_class = j.by_class;
                links = subst (λ n. HoldsPairs j.by_class (done ++ links_with ts (take n sides) b)) (sym f.number)
                    (pairs_append j.by_class done (links_with ts (take f.one.place sides) b) first (taken_held j.by_class f.one.place f.place first j.fits within second));
                fits = j.fits;
              });
          clash = subst (λ n. IsClash ts ((done ++ links_with ts (take n sides) b) ++ link ts f.one.side b ∷ []) pair) (sym f.number) (record {
            forced = λ e h c. (
                let l = pairs_left e (done ++ links_with ts (take f.one.place sides) b) (link ts f.one.side b ∷ []) h in
                f.clash.forced e (pairs_append e (done ++ links_with ts (sides_of (take f.place ds)) b) (link ts f.one.side b ∷ [])
                (pairs_append e done (links_with ts (sides_of (take f.place ds)) b) (pairs_left e done (links_with ts (take f.one.place sides) b) l)
                (counted_held e f.place f.one f.there (pairs_right e done (links_with ts (take f.one.place sides) b) l)))
                (pairs_right e (done ++ links_with ts (take f.one.place sides) b) (link ts f.one.side b ∷ []) h)) c);
            differ = f.clash.differ;
          });
        }
