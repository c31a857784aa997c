-- Device: things are added to a web one by one.
use Rattle.std.proofs.Common.{◌≡◌, ℕ, zero, suc, ◌+◌, ◌<◌, ◌≤◌, List, [], ◌∷◌, ◌++◌, Option, Some, None, map, length, get_or, take, drop, Result, Ok, Err, OnOk, MatchOption, subst, refl, sym, ap, ◌∙◌, append_assoc, append-nil, arith}
use Rattle.std.specs.Option.{option_map}
use Rattle.std.proofs.lemmas.List.{map-append, length-append}
use Rattle.type_things.specs.declared.web.Head.{Head}
use Rattle.type_things.specs.declared.web.Label.{Label}
use Rattle.type_things.specs.declared.web.Span.{Span}
use Rattle.type_things.specs.declared.web.Stored.{Stored}
use Rattle.type_things.specs.declared.web.Web.{Web}
use Rattle.type_graph.specs.declared.aggregates.AggKind.{AggKind}
use Rattle.type_graph.specs.declared.aggregates.Member.{Member}
use Rattle.type_things.specs.Units.{compared, member_part}
use Rattle.type_things.specs.Things.{Thing}
use Rattle.type_things.specs.Webs.{parts_in, thing_in, things_in, things_of}
use Rattle.type_things.specs.Weaving.{Spanned, IsSpanned, Adds, Closes}

take_left : {X : Type 0} (n : ℕ) (xs ys : List X) → n ≤ length xs → take n (xs ++ ys) ≡ take n xs
take_left zero xs ys h = refl
take_left (suc n) [] ys h = absurd (omega (arith, h))
take_left (suc n) (x ∷ xs) ys h = ap (λ l. x ∷ l) (take_left n xs ys (omega (arith, h)))

-- parts that stand already stay where they are
span_left : {X : Type 0} (f c : ℕ) (xs ys : List X) → f + c ≤ length xs → take c (drop f (xs ++ ys)) ≡ take c (drop f xs)
span_left zero c xs ys h = take_left c xs ys (omega (arith, h))
span_left (suc f) c [] ys h = (let z : c ≡ 0 = omega (arith, h) in absurd (omega (arith, h)))
span_left (suc f) c (x ∷ xs) ys h = span_left f c xs ys (omega (arith, h))

take_whole : {X : Type 0} (xs : List X) → take (length xs) xs ≡ xs
take_whole [] = refl
take_whole (x ∷ xs) = ap (λ l. x ∷ l) (take_whole xs)

span_right : {X : Type 0} (xs ys : List X) → take (length ys) (drop (length xs) (xs ++ ys)) ≡ ys
span_right [] ys = take_whole ys
span_right (x ∷ xs) ys = span_right xs ys

things_left : (ps qs : List (Label × ℕ)) (ss : List Stored) → Spanned (length ps) ss → things_in (ps ++ qs) ss ≡ things_in ps ss
things_left ps qs [] h = refl
things_left ps qs (s ∷ ss) h = ap (λ (o : Option (List (Label × ℕ))). (let t : Thing Head Label = record { head = s.head; inside = o } in t) ∷ things_in (ps ++ qs) ss) (by s.inside h.0) ∙ ap (λ l. thing_in ps s ∷ l) (things_left ps qs ss h.1)
  where
    by : (o : Option Span) → MatchOption o (Unit {0}) (λ p. p.first + p.count ≤ length ps) → option_map (parts_in (ps ++ qs)) o ≡ option_map (parts_in ps) o
    by None k = refl
    by (Some p) k = ap Some (span_left p.first p.count ps qs k)

spanned_more : (k j : ℕ) (ss : List Stored) → k ≤ j → Spanned k ss → Spanned j ss
spanned_more k j [] le h = tt
spanned_more k j (s ∷ ss) le h = (by s.inside h.0, spanned_more k j ss le h.1)
  where
    by : (o : Option Span) → MatchOption o (Unit {0}) (λ p. p.first + p.count ≤ k) → MatchOption o (Unit {0}) (λ p. p.first + p.count ≤ j)
    by None q = tt
    by (Some p) q = omega (arith, q, le)

spanned_push : (k : ℕ) (ss : List Stored) (s : Stored) → Spanned k ss → MatchOption s.inside (Unit {0}) (λ p. p.first + p.count ≤ k) → Spanned k (ss ++ s ∷ [])
spanned_push k [] s h q = (q, tt)
spanned_push k (t ∷ ss) s h q = (h.0, spanned_push k ss s h.1 q)

-- a thing with parts that were put behind the others
pub adds_full : (old new : Web) (qs : List (Label × ℕ)) (s : Stored) (p : Span) → IsSpanned old → new.parts.items ≡ old.parts.items ++ qs → new.things.items ≡ old.things.items ++ s ∷ [] → s.inside ≡ Some p → p.first ≡ length old.parts.items → p.first + p.count ≡ length new.parts.items
    → new.firsts ≡ old.firsts → new.aggregates ≡ old.aggregates → Adds old new ((let t : Thing Head Label = record { head = s.head; inside = Some qs } in t) ∷ [])
adds_full old new qs s p spanned parts things inside first end firsts aggregates =
    let len : length new.parts.items ≡ length old.parts.items + length qs = ap length parts ∙ length-append old.parts.items qs in
    record {
      spanned = subst (Spanned (length new.parts.items)) (sym things) (spanned_push (length new.parts.items) old.things.items s (spanned_more (length old.parts.items) (length new.parts.items) old.things.items (omega (arith, len)) spanned)
          (subst (λ o. MatchOption o (Unit {0}) (λ r. r.first + r.count ≤ length new.parts.items)) (sym inside) (omega (arith, end))));
      things =
          ap (things_in new.parts.items) things ∙ map-append (thing_in new.parts.items) old.things.items (s ∷ [])
          ∙ ap (λ l. l ++ thing_in new.parts.items s ∷ []) (ap (λ ps. things_in ps old.things.items) parts ∙ things_left old.parts.items qs old.things.items spanned)
          ∙ ap (λ (o : Option (List (Label × ℕ))). things_of old ++ (let t : Thing Head Label = record { head = s.head; inside = o } in t) ∷ [])
          (ap (option_map (parts_in new.parts.items)) inside
          ∙ ap (λ n. Some (take p.count (drop n new.parts.items))) first
          ∙ ap (λ n. Some (take n (drop (length old.parts.items) new.parts.items))) (omega (arith, len, end, first))
          ∙ ap (λ ps. Some (take (length qs) (drop (length old.parts.items) ps))) parts
          ∙ ap Some (span_right old.parts.items qs));
      firsts = firsts;
      aggregates = aggregates;
    }

-- an aggregate without members
pub adds_none : (old new : Web) (s : Stored) → IsSpanned old → new.parts ≡ old.parts → new.things.items ≡ old.things.items ++ s ∷ [] → s.inside ≡ None → new.firsts ≡ old.firsts → new.aggregates ≡ old.aggregates
    → Adds old new ((let t : Thing Head Label = record { head = s.head; inside = None } in t) ∷ [])
adds_none old new s spanned parts things inside firsts aggregates = record {
  spanned = subst (λ ps. Spanned (length ps) new.things.items) (sym (ap (λ v. v.items) parts)) (subst (Spanned (length old.parts.items)) (sym things) (spanned_push (length old.parts.items) old.things.items s spanned (subst (λ o. MatchOption o (Unit {0}) (λ r. r.first + r.count ≤ length old.parts.items)) (sym inside) tt)));
  things =
      ap (λ v. things_in v.items new.things.items) parts
      ∙ ap (things_in old.parts.items) things ∙ map-append (thing_in old.parts.items) old.things.items (s ∷ [])
      ∙ ap (λ (o : Option (List (Label × ℕ))). things_of old ++ (let t : Thing Head Label = record { head = s.head; inside = o } in t) ∷ []) (ap (option_map (parts_in old.parts.items)) inside);
  firsts = firsts;
  aggregates = aggregates;
}

pub adds_nothing : (w : Web) → IsSpanned w → Adds w w []
adds_nothing w h = record { spanned = h; things = sym (append-nil (things_of w)); firsts = refl; aggregates = refl }

pub adds_then : (a b c : Web) (xs ys : List (Thing Head Label)) → Adds a b xs → Adds b c ys → Adds a c (xs ++ ys)
adds_then a b c xs ys f g = record {
  spanned = g.spanned;
  things = g.things ∙ ap (λ l. l ++ ys) f.things ∙ append_assoc (things_of a) xs ys;
  firsts = g.firsts ∙ f.firsts;
  aggregates = g.aggregates ∙ f.aggregates;
}

on_ok : {T E P Q : Type 0} (z : Result T E) → (P → Q) → OnOk z P → OnOk z Q
on_ok (Ok x) f h = f h
on_ok (Err e) f h = h

-- parts are put behind the others, and a thing is closed over them
pub closes_adds : {T E : Type 0} (z : Result T E) (old mid new : Web) (h : Head) (first : ℕ) (qs : List (Label × ℕ)) → IsSpanned old → first ≡ length old.parts.items → mid.parts.items ≡ old.parts.items ++ qs → mid.things ≡ old.things → mid.firsts ≡ old.firsts → mid.aggregates ≡ old.aggregates
    → OnOk z (Closes mid new h first) → OnOk z (Adds old new ((record { head = h; inside = Some qs }) ∷ []))
closes_adds z old mid new h first qs spanned begin parts things firsts aggregates = on_ok z (λ k.
    adds_full old new qs (record { head = h; inside = Some k.span }) k.span spanned (ap (λ v. v.items) k.parts ∙ parts) (k.things ∙ ap (λ v. v.items ++ (record { head = h; inside = Some k.span }) ∷ []) things) refl (k.begin ∙ begin)
    (k.end ∙ sym (ap (λ v. length v.items) k.parts)) (k.firsts ∙ firsts) (k.aggregates ∙ aggregates))

-- the parts of members are put one by one
pub members_start : {X Y : Type 0} (f : X → Y) (old : List Y) (xs : List X) → old ++ map f (drop 0 xs) ≡ old ++ map f xs
members_start f old xs = refl

pub members_next : {X Y : Type 0} (f : X → Y) (now new old : List Y) (xs : List X) (i : ℕ) (d : X) → i < length xs → new ≡ now ++ f (get_or xs i d) ∷ [] → now ++ map f (drop i xs) ≡ old ++ map f xs → new ++ map f (drop (i + 1) xs) ≡ old ++ map f xs
members_next {X} f now new old xs i d h e a =
    let s : i + 1 ≡ suc i = omega arith in
    ap (λ l. l ++ map f (drop (i + 1) xs)) e ∙ append_assoc now (f (get_or xs i d) ∷ []) (map f (drop (i + 1) xs))
    ∙ ap (λ n. now ++ (f (get_or xs i d) ∷ map f (drop n xs))) s ∙ ap (λ l. now ++ map f l) (sym (by xs i h)) ∙ a
  where
    by : (ys : List X) (j : ℕ) → j < length ys → drop j ys ≡ get_or ys j d ∷ drop (suc j) ys
    by [] j q = absurd (omega (arith, q))
    by (z ∷ ys) zero q = refl
    by (z ∷ ys) (suc j) q = by ys j (omega (arith, q))

pub members_end : {X Y : Type 0} (f : X → Y) (now old : List Y) (xs : List X) (i : ℕ) → length xs ≤ i → now ++ map f (drop i xs) ≡ old ++ map f xs → now ≡ old ++ map f xs
members_end {X} f now old xs i h a = sym (append-nil now) ∙ ap (λ l. now ++ map f l) (sym (by xs i h)) ∙ a
  where
    by : (ys : List X) (j : ℕ) → length ys ≤ j → drop j ys ≡ []
    by [] zero q = refl
    by [] (suc j) q = refl
    by (z ∷ ys) zero q = absurd (omega (arith, q))
    by (z ∷ ys) (suc j) q = by ys j (omega (arith, q))

pub label_part : (names : List (List ℕ)) (kind : AggKind) (types : ℕ) (m : Member) (l : Label) (now new : List (Label × ℕ)) → l ≡ record { name = compared names kind m.name; value = m.value } → new ≡ now ++ (l, types + m.ty.of.0) ∷ [] → new ≡ now ++ member_part names kind types m ∷ []
label_part names kind types m l now new e f = f ∙ ap (λ (z : Label). now ++ (z, types + m.ty.of.0) ∷ []) e
