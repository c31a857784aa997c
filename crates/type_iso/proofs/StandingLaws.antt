-- Device: the steps by which things come to stand for classes, and classes come to have numbers.
use Rattle.std.proofs.Common.{◌≡◌, ◌≢◌, ◌⊎◌, inl, inr, ℕ, zero, suc, ◌+◌, ◌<◌, ◌≤◌, Bool, true, false, List, [], ◌∷◌, ◌++◌, Option, Some, None, Result, Ok, Err, OnOk, length, get_or, slice_get, slice_set, subst, refl, sym, ap, ◌∙◌, arith, true≢false}
use Rattle.std.proofs.lemmas.List.{get_or-set_same, get_or-set_other, length-set}
use Rattle.type_things.specs.Things.{Thing}
use Rattle.type_iso.specs.Classes.{has_parts}
use Rattle.type_iso.specs.Standing.{at_own, AreLeast, StandsFor, LetsStand, StandUpTo, AllUpTo, AreStanding, AreNumbersIn, IsStandingAt, AreNumbersOf, AreOrdered, OrderedUpTo}
use Rattle.type_things.proofs.NumberLaws.{same_or_not}
use Rattle.type_things.proofs.WebLaws.{push_left, push_at, push_length}

less_or : (a b : ℕ) → (a < b) ⊎ (b ≤ a)
less_or a zero = inr (omega arith)
less_or zero (suc b) = inl (omega arith)
less_or (suc a) (suc b) = elim (less_or a b) [ inl h ↦ inl (omega (arith, h)) | inr h ↦ inr (omega (arith, h)) ]

module _ {H L : Type 0} (ts : List (Thing H L)) where
  pub stand_start : (cs st : List ℕ) → st ≡ cs → AreLeast cs → StandUpTo ts cs st 0
  stand_start cs st e least = record {
    count = ap length e;
    each = λ c h own. (
        let same : at_own st c ≡ c = ap (λ l. at_own l c) e ∙ own in
        record {
          member = ap (at_own cs) same ∙ own;
          full = λ y l. absurd (omega (arith, l));
          empty = λ q. same;
          early = inl same;
        });
  }

  one_more : (cs : List ℕ) (k c s : ℕ) → StandsFor ts cs k c s → (at_own cs k ≡ c → has_parts ts k ≡ true → (has_parts ts s ≡ true) × (s ≤ k)) → StandsFor ts cs (k + 1) c s
  one_more cs k c s a new = record {
    member = a.member;
    full = λ y l q p. elim (same_or_not y k) [
      | inl e ↦ subst (λ z. (has_parts ts s ≡ true) × (s ≤ z)) (sym e) (new (ap (at_own cs) (sym e) ∙ q) (ap (has_parts ts) (sym e) ∙ p))
      | inr n ↦ a.full y (omega (arith, l, n)) q p
    ];
    empty = a.empty;
    early = elim a.early [ inl e ↦ inl e | inr l ↦ inr (omega (arith, l)) ];
  }

  stands_below : (cs : List ℕ) (k c s : ℕ) → AreLeast cs → k < length cs → at_own cs k ≡ c → StandsFor ts cs k c s → s ≤ k
  stands_below cs k c s least h e a = elim a.early [
    | inl q ↦ (let l = (least k h).0 in omega (arith, q, l, e))
    | inr q ↦ omega (arith, q)
  ]

  pub stand_step : (cs st after : List ℕ) (k c : ℕ) → AreLeast cs → k < length cs → c ≡ at_own cs k → LetsStand ts c k st after → StandUpTo ts cs st k → StandUpTo ts cs after (k + 1)
  stand_step cs st after k c least h e lets up = by lets.which
    where
      by : ((after ≡ st) × ((has_parts ts (at_own st c) ≡ true) ⊎ (has_parts ts k ≡ false))) ⊎ ((after ≡ slice_set st c k) × (has_parts ts (at_own st c) ≡ false) × (has_parts ts k ≡ true)) → StandUpTo ts cs after (k + 1)
      by (inl w) = record {
        count = ap length w.0 ∙ up.count;
        each = λ d l own. (
            let a = up.each d l own in
            subst (StandsFor ts cs (k + 1) d) (ap (λ z. at_own z d) (sym w.0)) (one_more cs k d (at_own st d) a (λ q p. elim w.1 [
              | inl full ↦ (ap (λ z. has_parts ts (at_own st z)) (sym q ∙ sym e) ∙ full, stands_below cs k d (at_own st d) least h q a)
              | inr none ↦ absurd (true≢false (sym p ∙ none))
            ])));
      }
      by (inr w) = record {
        count = ap length w.0 ∙ length-set st c k ∙ up.count;
        each = λ d l own. elim (same_or_not d c) [
          | inl q ↦ (
              let same : at_own after d ≡ k = ap (at_own after) q ∙ ap (λ z. at_own z c) w.0 ∙ get_or-set_same st c k c lets.within in
              let a = up.each d l own in
              let before : has_parts ts (at_own st d) ≡ false = ap (λ z. has_parts ts (at_own st z)) q ∙ w.1 in
              subst (StandsFor ts cs (k + 1) d) (sym same) (record {
                member = sym e ∙ sym q;
                full = λ y m r p. elim (same_or_not y k) [
                  | inl z ↦ (w.2, omega (arith, z))
                  | inr n ↦ absurd (true≢false (sym (a.full y (omega (arith, m, n)) r p).0 ∙ before))
                ];
                empty = λ p. absurd (true≢false (sym w.2 ∙ p));
                early = inr (omega arith);
              }))
          | inr n ↦ subst (StandsFor ts cs (k + 1) d) (sym (ap (λ z. at_own z d) w.0 ∙ get_or-set_other st c d k d n)) (one_more cs k d (at_own st d) (up.each d l own) (λ q p. absurd (n (sym q ∙ sym e))))
        ];
      }

  pub all_start : (cs st : List ℕ) → AllUpTo ts cs st [] 0
  all_start cs st = record { count = refl; within = λ x h. absurd (omega (arith, h)); through = λ x h. absurd (omega (arith, h)) }

  pub all_step : (cs st all more : List ℕ) (k c s : ℕ) → k < length cs → ((d : ℕ) → get_or cs k d ≡ c) → ((d : ℕ) → get_or st c d ≡ s) → more ≡ all ++ s ∷ [] → AllUpTo ts cs st all k → AllUpTo ts cs st more (k + 1)
  all_step cs st all more k c s h at_c at_s e a = record {
    count = ap length e ∙ push_length all s ∙ ap suc a.count ∙ (let z : suc k ≡ k + 1 = omega arith in z);
    within = λ x l. elim (same_or_not x k) [ inl q ↦ omega (arith, q, h) | inr n ↦ a.within x (omega (arith, l, n)) ];
    through = λ x l. elim (same_or_not x k) [
      | inl q ↦ (
          let last : at_own more k ≡ s = ap (λ z. at_own z k) e ∙ ap (λ z. get_or (all ++ s ∷ []) z k) (sym a.count) ∙ push_at all s k in
          ap (at_own more) q ∙ last ∙ sym (ap (λ z. at_own st z) (ap (at_own cs) q ∙ at_c k) ∙ at_s c))
      | inr n ↦ ap (λ z. at_own z x) e ∙ push_left all x s x (let m = a.count in omega (arith, l, n, m)) ∙ a.through x (omega (arith, l, n))
    ];
  }

  pub all_end : (cs st all : List ℕ) (m k : ℕ) → AreLeast cs → StandUpTo ts cs st m → k ≡ m → AllUpTo ts cs st all k → AreStanding ts cs m all
  all_end cs st all m k least up e a = record {
    count = a.count ∙ e;
    within = λ x h. a.within x (omega (arith, h, e));
    each = λ x h. (
        let l = a.within x (omega (arith, h, e)) in
        let low = least x l in
        let low_is = low.0 in
        subst (StandsFor ts cs m (at_own cs x)) (sym (a.through x (omega (arith, h, e)))) (up.each (at_own cs x) (omega (arith, l, low_is)) low.1));
    same = λ x y h k q. a.through x (omega (arith, h, e)) ∙ ap (at_own st) q ∙ sym (a.through y (omega (arith, k, e)));
  }

  -- a thing that does not come to stand, and one that does
  read_before : (old ds : List ℕ) (low before : ℕ) → ds ≡ old → ((d : ℕ) → get_or ds low d ≡ before) → before ≡ at_own old low
  read_before old ds low before e at = sym (at low) ∙ ap (λ l. at_own l low) e

  pub let_full : (old ds : List ℕ) (low x before : ℕ) (b : Bool) → ds ≡ old → low < length ds → ((d : ℕ) → get_or ds low d ≡ before) → b ≡ has_parts ts before → b ≡ true → LetsStand ts low x old old
  let_full old ds low x before b e h at is t = record {
    within = subst (λ l. low < length l) e h;
    which = inl (refl, inl (ap (has_parts ts) (sym (read_before old ds low before e at)) ∙ sym is ∙ t));
  }

  pub let_none : (old ds : List ℕ) (low x before : ℕ) (b : Bool) → ds ≡ old → low < length ds → b ≡ has_parts ts x → b ≡ false → LetsStand ts low x old old
  let_none old ds low x before b e h is t = record { within = subst (λ l. low < length l) e h; which = inl (refl, inr (sym is ∙ t)) }

  pub let_new : {T E : Type 0} (z : Result T E) (old ds new : List ℕ) (low x before : ℕ) (b c : Bool) → ds ≡ old → low < length ds → ((d : ℕ) → get_or ds low d ≡ before) → b ≡ has_parts ts before → b ≡ false → c ≡ has_parts ts x → c ≡ true
      → OnOk z (new ≡ slice_set old low x) → OnOk z (LetsStand ts low x old new)
  let_new (Ok r) old ds new low x before b c e h at ib tb ic tc set = record {
    within = subst (λ l. low < length l) e h;
    which = inr (set, ap (has_parts ts) (sym (read_before old ds low before e at)) ∙ sym ib ∙ tb, sym ic ∙ tc);
  }
  let_new (Err r) old ds new low x before b c e h at ib tb ic tc set = set

pub got : (xs : List ℕ) (i d : ℕ) → i < length xs → slice_get xs i ≡ Some (get_or xs i d)
got [] i d h = absurd (omega (arith, h))
got (x ∷ xs) zero d h = refl
got (x ∷ xs) (suc i) d h = got xs i d (omega (arith, h))

-- numbers by places

set_read : (xs : List (Option ℕ)) (i j : ℕ) (x y : Option ℕ) → slice_get (slice_set xs i x) j ≡ Some y → ((j ≡ i) × (y ≡ x)) ⊎ (slice_get xs j ≡ Some y)
set_read [] i j x y e = inr (let bad : ⊥ = cc in absurd bad)
set_read (z ∷ xs) zero zero x y e = inl (refl, (let s : x ≡ y = cc in sym s))
set_read (z ∷ xs) zero (suc j) x y e = inr e
set_read (z ∷ xs) (suc i) zero x y e = inr e
set_read (z ∷ xs) (suc i) (suc j) x y e = elim (set_read xs i j x y e) [ inl h ↦ inl (ap suc h.0, h.1) | inr h ↦ inr h ]

placed_number : (order : List ℕ) (old new : List (Option ℕ)) (k s : ℕ) → slice_get order k ≡ Some s → new ≡ slice_set old s (Some k) → AreNumbersIn order old → AreNumbersIn order new
placed_number order old new k s at e h = λ t n q. elim (set_read old s t (Some k) (Some n) (ap (λ l. slice_get l t) (sym e) ∙ q)) [
  | inl w ↦ (let two : n ≡ k = some_one n k w.1 in ap (slice_get order) two ∙ at ∙ ap Some (sym w.0))
  | inr w ↦ h t n w
]
  where
    some_one : (a b : ℕ) → ◌≡◌ {A = Option ℕ} (Some a) (Some b) → a ≡ b
    some_one a b w = cc

set_kept : (xs : List (Option ℕ)) (i j : ℕ) (x y : Option ℕ) → j ≢ i → slice_get xs j ≡ Some y → slice_get (slice_set xs i x) j ≡ Some y
set_kept [] i j x y n e = e
set_kept (z ∷ xs) zero zero x y n e = absurd (n refl)
set_kept (z ∷ xs) zero (suc j) x y n e = e
set_kept (z ∷ xs) (suc i) zero x y n e = e
set_kept (z ∷ xs) (suc i) (suc j) x y n e = set_kept xs i j x y (λ q. n (ap suc q)) e

set_there : (xs : List (Option ℕ)) (i : ℕ) (x y : Option ℕ) → slice_get xs i ≡ Some y → slice_get (slice_set xs i x) i ≡ Some x
set_there [] i x y e = (let bad : ⊥ = cc in absurd bad)
set_there (z ∷ xs) zero x y e = refl
set_there (z ∷ xs) (suc i) x y e = set_there xs i x y e

pub numbers_start : (order standing : List ℕ) (numbers : List (Option ℕ)) → AreNumbersIn order numbers → AreNumbersOf order standing numbers 0
numbers_start order standing numbers h = record { places = h; each = λ i s l. absurd (omega (arith, l)) }

pub numbers_step : (order standing : List ℕ) (old new : List (Option ℕ)) (k s : ℕ) → IsStandingAt order standing k s → slice_get old s ≡ Some None → new ≡ slice_set old s (Some k) → AreNumbersOf order standing old k → AreNumbersOf order standing new (k + 1)
numbers_step order standing old new k s is free e a = record {
  places = placed_number order old new k s is.there e a.places;
  each = λ i t h q. elim (same_or_not i k) [
    | inl w ↦ (
        let one : t ≡ s = some_one t s (sym q ∙ ap (slice_get order) w ∙ is.there) in (
          ap (λ l. slice_get l t) e ∙ ap (slice_get (slice_set old s (Some k))) one ∙ set_there old s (Some k) None free ∙ ap (λ n. Some (Some n)) (sym w),
          subst (λ n. IsStandingAt order standing n t) (sym w) (subst (IsStandingAt order standing k) (sym one) is),
        ))
    | inr w ↦ (
        let r = a.each i t (omega (arith, h, w)) q in
        (ap (λ l. slice_get l t) e ∙ set_kept old s t (Some k) (Some i) (λ v. none_some i (sym (ap (slice_get old) v ∙ free) ∙ r.0)) r.0, r.1))
  ];
}
  where
    some_one : (a b : ℕ) → ◌≡◌ {A = Option ℕ} (Some a) (Some b) → a ≡ b
    some_one a b w = cc

    none_some : (n : ℕ) → ◌≡◌ {A = Option (Option ℕ)} (Some None) (Some (Some n)) → ⊥
    none_some n w = cc

pub numbers_end : (order standing : List ℕ) (numbers : List (Option ℕ)) (k n : ℕ) → k ≡ n → AreNumbersOf order standing numbers k → AreNumbersOf order standing numbers n
numbers_end order standing numbers k n e a = subst (AreNumbersOf order standing numbers) e a

pub standing_there : (order standing : List ℕ) (k a b : ℕ) (c : Bool) → k < length order → ((d : ℕ) → get_or order k d ≡ a) → a < length standing → ((d : ℕ) → get_or standing a d ≡ b) → b ≡ a → IsStandingAt order standing k a
standing_there order standing k a b c h at_k l at_a e = record {
  there = got order k 0 h ∙ ap Some (at_k 0);
  within = l;
  own = at_a a ∙ e;
}

pub numbers_none : (order : List ℕ) (xs : List (Option ℕ)) → ((i n : ℕ) → slice_get xs i ≡ Some (Some n) → ⊥) → AreNumbersIn order xs
numbers_none order xs h = λ s n q. absurd (h s n q)

pub none_push : (xs : List (Option ℕ)) → ((i n : ℕ) → slice_get xs i ≡ Some (Some n) → ⊥) → (i n : ℕ) → slice_get (xs ++ None ∷ []) i ≡ Some (Some n) → ⊥
none_push [] h zero n q = (let bad : ⊥ = cc in bad)
none_push [] h (suc i) n q = (let bad : ⊥ = cc in bad)
none_push (x ∷ xs) h zero n q = h 0 n q
none_push (x ∷ xs) h (suc i) n q = none_push xs (λ j m w. h (suc j) m w) i n q

pub ordered_end : (order standing all : List ℕ) (numbers : List (Option ℕ)) (k : ℕ) → AreNumbersOf order standing numbers (length order) → k ≡ length standing → OrderedUpTo order standing all numbers k → AreOrdered order standing all
ordered_end order standing all numbers k h e o = record {
  count = o.count ∙ e;
  each = λ x l. h.places (at_own standing x) (at_own all x) (o.each x (omega (arith, l, e)));
  same = λ x y l m q. some_one (at_own all x) (at_own all y) (sym (o.each x (omega (arith, l, e))) ∙ ap (slice_get numbers) q ∙ o.each y (omega (arith, m, e)));
  own = λ i s q. (
      let r = h.each i s (inside order i s q) q in
      let l = r.1.within in
      (l, some_one (at_own all s) i (sym (o.each s (omega (arith, l, e))) ∙ ap (slice_get numbers) r.1.own ∙ r.0)));
}
  where
    some_one : (a b : ℕ) → ◌≡◌ {A = Option (Option ℕ)} (Some (Some a)) (Some (Some b)) → a ≡ b
    some_one a b w = cc

    inside : (xs : List ℕ) (i s : ℕ) → slice_get xs i ≡ Some s → i < length xs
    inside [] i s q = (let bad : ⊥ = cc in absurd bad)
    inside (x ∷ xs) zero s q = omega arith
    inside (x ∷ xs) (suc i) s q = (let w = inside xs i s q in omega (arith, w))

pub ordered_step : (order standing all more : List ℕ) (numbers : List (Option ℕ)) (k s n : ℕ) → at_own standing k ≡ s → slice_get numbers s ≡ Some (Some n) → more ≡ all ++ n ∷ [] → OrderedUpTo order standing all numbers k → OrderedUpTo order standing more numbers (k + 1)
ordered_step order standing all more numbers k s n at found e o = record {
  count = ap length e ∙ push_length all n ∙ ap suc o.count ∙ (let z : suc k ≡ k + 1 = omega arith in z);
  each = λ x l. elim (same_or_not x k) [
    | inl q ↦ (
        let last : at_own more k ≡ n = ap (λ z. at_own z k) e ∙ ap (λ z. get_or (all ++ n ∷ []) z k) (sym o.count) ∙ push_at all n k in
        ap (slice_get numbers) (ap (at_own standing) q ∙ at) ∙ found ∙ ap (λ z. Some (Some z)) (sym (ap (at_own more) q ∙ last)))
    | inr m ↦ o.each x (omega (arith, l, m)) ∙ ap (λ z. Some (Some z)) (sym (ap (λ z. at_own z x) e ∙ push_left all x n x (let c = o.count in omega (arith, l, m, c))))
  ];
}

pub ordered_start : (order standing all : List ℕ) (numbers : List (Option ℕ)) → all ≡ [] → OrderedUpTo order standing all numbers 0
ordered_start order standing all numbers e = record { count = ap length e; each = λ x h. absurd (omega (arith, h)) }

pub none_start : (xs : List (Option ℕ)) → xs ≡ [] → (i n : ℕ) → slice_get xs i ≡ Some (Some n) → ⊥
none_start [] e i n q = (let bad : ⊥ = cc in bad)
none_start (x ∷ xs) e i n q = (let bad : ⊥ = cc in bad)
