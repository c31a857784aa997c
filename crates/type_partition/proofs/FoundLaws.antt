-- Device: things by their numbers, and the first thing of each number.
use Rattle.std.proofs.Common.{◌≡◌, ◌⊎◌, inl, inr, ℕ, zero, suc, ◌+◌, ◌<◌, Bool, true, false, not, ◌||◌, cond, List, [], ◌∷◌, ◌++◌, Some, length, get_or, slice_get, subst, refl, sym, ap, ◌∙◌, arith, eqb, nat_eq, Result, Ok, Err, IfOk, OnOk, Fits, w32}
use Rattle.std.specs.List.{list_any, position_or_len}
use Rattle.std.proofs.lemmas.Bool.{eqb-true, eq-eqb}
use Rattle.std.proofs.lemmas.List.{get_or_default}
use Rattle.type_graph.proofs.Lists.{get_stays, get_push, get_at_end}
use Rattle.type_partition.specs.Partition.{AreFirsts}
use Rattle.type_partition.specs.Keys.{Distinct, Grown, num_at}
use Rattle.type_joins.specs.Forests.{joined}
use Rattle.type_partition.specs.Gathered.{IsUnion}
use Rattle.type_things.proofs.NumberLaws.{same_or_not, beyond, less_or}
use Rattle.type_things.proofs.WebLaws.{push_left, push_at, push_length}
use Rattle.type_partition.proofs.KeyLaws.{inserted_distinct}

none_ends : (n : ℕ) (ks : List ℕ) → list_any (eqb n) ks ≡ false → position_or_len (eqb n) ks ≡ length ks
none_ends n [] e = refl
none_ends n (k ∷ ks) e = by (eqb n k) e (none_ends n ks)
  where
    by : (b : Bool) → (b || list_any (eqb n) ks) ≡ false → (list_any (eqb n) ks ≡ false → position_or_len (eqb n) ks ≡ length ks) → cond (not b) (1 + position_or_len (eqb n) ks) 0 ≡ suc (length ks)
    by true h rest = cc
    by false h rest = (let e : position_or_len (eqb n) ks ≡ length ks = rest h in omega (arith, e))

-- the place of a number that is new is the last
pub new_place : (n i : ℕ) (ks : List ℕ) (new : Bool) → i ≡ position_or_len (eqb n) ks → new ≡ not (list_any (eqb n) ks) → new ≡ true → i ≡ length ks
new_place n i ks new e f g = e ∙ none_ends n ks (by (list_any (eqb n) ks) (sym f ∙ g))
  where
    by : (b : Bool) → not b ≡ true → b ≡ false
    by true h = cc
    by false h = refl

pub get_some : (xs : List ℕ) (i y : ℕ) → i < length xs → ((d : ℕ) → get_or xs i d ≡ y) → slice_get xs i ≡ Some y
get_some [] i y h e = absurd (omega (arith, h))
get_some (x ∷ xs) zero y h e = ap Some (e 0)
get_some (x ∷ xs) (suc i) y h e = get_some xs i y (omega (arith, h)) e

some_get : (xs : List ℕ) (i y d : ℕ) → slice_get xs i ≡ Some y → get_or xs i d ≡ y
some_get [] i y d e = (let bad : ⊥ = cc in absurd bad)
some_get (x ∷ xs) zero y d e = (let h : x ≡ y = cc in h)
some_get (x ∷ xs) (suc i) y d e = some_get xs i y d e

some_one : {X : Type 0} (xs : List X) (i : ℕ) (x y : X) → slice_get xs i ≡ Some x → slice_get xs i ≡ Some y → x ≡ y
some_one xs i x y e f = (let g : Some x ≡ Some y = sym e ∙ f in (let h : x ≡ y = cc in h))

-- what is known of the things that were found, once one more is
pub found_things : (numbers ks after vs bs : List ℕ) (x y : ℕ) → Distinct after → Grown ks after → Grown vs bs → ((i k z : ℕ) → slice_get ks i ≡ Some k → slice_get vs i ≡ Some z → num_at numbers z ≡ k)
    → (i : ℕ) × (slice_get after i ≡ Some (num_at numbers x)) × (slice_get bs i ≡ Some y) → (y ≡ x) ⊎ ((i : ℕ) × (slice_get ks i ≡ Some (num_at numbers x)) × (slice_get vs i ≡ Some y)) → num_at numbers y ≡ num_at numbers x
found_things numbers ks after vs bs x y d g h all there (inl e) = ap (num_at numbers) e
found_things numbers ks after vs bs x y d g h all there (inr o) = all o.0 (num_at numbers x) y o.1 o.2

-- the first things of all numbers
pub are_firsts : (numbers all ks vs : List ℕ) → Distinct ks → length all ≡ length numbers → ((x : ℕ) → x < length numbers → num_at numbers x < 4294967296) → ((i k z : ℕ) → slice_get ks i ≡ Some k → slice_get vs i ≡ Some z → num_at numbers z ≡ k)
    → ((x : ℕ) → x < length numbers → (i : ℕ) × (slice_get ks i ≡ Some (num_at numbers x)) × (slice_get vs i ≡ Some (get_or all x x))) → AreFirsts (num_at numbers) (λ x. get_or all x x)
are_firsts numbers all ks vs d count fits things firsts = record {
  same = λ x. elim (less_or x (length numbers)) [
    | inl h ↦ (let f = firsts x h in things f.0 (num_at numbers x) (get_or all x x) f.1 f.2)
    | inr h ↦ ap (num_at numbers) (beyond all x x (omega (arith, h, count)))
  ];
  one = λ x y e. elim (less_or x (length numbers)) [
    | inl p ↦ elim (less_or y (length numbers)) [
      | inl q ↦ (
          let f = firsts x p in let g = firsts y q in
          let same : f.0 ≡ g.0 = d f.0 g.0 (num_at numbers y) (f.1 ∙ ap Some e) g.1 in
          some_one vs g.0 (get_or all x x) (get_or all y y) (ap (slice_get vs) (sym same) ∙ f.2) g.2)
      | inr q ↦ absurd (let b = fits x p in let c = beyond numbers y (4294967296 + y) q in omega (arith, b, c, e))
    ]
    | inr p ↦ elim (less_or y (length numbers)) [
      | inl q ↦ absurd (let b = fits y q in let c = beyond numbers x (4294967296 + x) p in omega (arith, b, c, e))
      | inr q ↦ (
          let b = beyond numbers x (4294967296 + x) p in let c = beyond numbers y (4294967296 + y) q in
          let same : x ≡ y = omega (arith, b, c, e) in
          ap (λ z. get_or all z z) same)
    ]
  ];
}

joined_same : (low high a b : ℕ) (r s : ℕ → ℕ) (z : ℕ) → a ≡ low → b ≡ high → s z ≡ r z → joined a b s z ≡ joined low high r z
joined_same low high a b r s z e f g = ap (λ k. cond (nat_eq (s z) b) k (s z)) e ∙ ap (λ k. cond (nat_eq (s z) k) low (s z)) f ∙ ap (λ k. cond (nat_eq k high) low k) g

-- two roots are found, and they are one
pub union_same : (r q s : ℕ → ℕ) (x y a b : ℕ) → a ≡ r x → ((z : ℕ) → q z ≡ r z) → b ≡ q y → ((z : ℕ) → s z ≡ q z) → a ≡ b → IsUnion x y r s
union_same r q s x y a b ea hq eb hs e = inl (sym ea ∙ e ∙ eb ∙ hq y, λ z. hs z ∙ hq z)

on_ok : {T E P Q : Type 0} (r : Result T E) → (P → Q) → OnOk r P → OnOk r Q
on_ok (Ok x) f h = f h
on_ok (Err e) f h = h

-- the first leads to the second, or the other way round
pub union_low : {T E : Type 0} (o : Result T E) (r q s t : ℕ → ℕ) (x y a b : ℕ) → a ≡ r x → ((z : ℕ) → q z ≡ r z) → b ≡ q y → ((z : ℕ) → s z ≡ q z) → a < b → OnOk o ((z : ℕ) → t z ≡ joined a b s z) → OnOk o (IsUnion x y r t)
union_low o r q s t x y a b ea hq eb hs less = on_ok o (λ h. inr (inl (
  subst (λ k. k < r y) ea (subst (λ k. a < k) (eb ∙ hq y) less),
  λ z. h z ∙ joined_same (r x) (r y) a b r s z ea (eb ∙ hq y) (hs z ∙ hq z),
)))

pub union_high : {T E : Type 0} (o : Result T E) (r q s t : ℕ → ℕ) (x y a b : ℕ) → a ≡ r x → ((z : ℕ) → q z ≡ r z) → b ≡ q y → ((z : ℕ) → s z ≡ q z) → b < a → OnOk o ((z : ℕ) → t z ≡ joined b a s z) → OnOk o (IsUnion x y r t)
union_high o r q s t x y a b ea hq eb hs less = on_ok o (λ h. inr (inr (
  subst (λ k. r y < k) ea (subst (λ k. k < a) (eb ∙ hq y) less),
  λ z. h z ∙ joined_same (r y) (r x) b a r s z (eb ∙ hq y) ea (hs z ∙ hq z),
)))

pub new_keys : (ks after : List ℕ) (n : ℕ) (new : Bool) → after ≡ cond (list_any (eqb n) ks) ks (ks ++ n ∷ []) → new ≡ not (list_any (eqb n) ks) → new ≡ true → after ≡ ks ++ n ∷ []
new_keys ks after n new e f g = by (list_any (eqb n) ks) e (sym f ∙ g)
  where
    by : (b : Bool) → after ≡ cond b ks (ks ++ n ∷ []) → not b ≡ true → after ≡ ks ++ n ∷ []
    by true h k = cc
    by false h k = h

pub old_keys : (ks after : List ℕ) (n : ℕ) (new : Bool) → after ≡ cond (list_any (eqb n) ks) ks (ks ++ n ∷ []) → new ≡ not (list_any (eqb n) ks) → new ≡ false → after ≡ ks
old_keys ks after n new e f g = by (list_any (eqb n) ks) e (sym f ∙ g)
  where
    by : (b : Bool) → after ≡ cond b ks (ks ++ n ∷ []) → not b ≡ false → after ≡ ks
    by true h k = h
    by false h k = cc

get_below : {X : Type 0} (xs : List X) (i : ℕ) (x : X) → slice_get xs i ≡ Some x → i < length xs
get_below [] i x e = (let bad : ⊥ = cc in absurd bad)
get_below (y ∷ xs) zero x e = omega arith
get_below (y ∷ xs) (suc i) x e = (let h = get_below xs i x e in omega (arith, h))

-- a number that is new goes last, with its thing
pub each_new : (ks after vs pushed : List ℕ) (n x : ℕ) → length vs ≡ length ks → after ≡ ks ++ n ∷ [] → pushed ≡ vs ++ x ∷ [] → (i k z : ℕ) → slice_get after i ≡ Some k → slice_get pushed i ≡ Some z → ((slice_get ks i ≡ Some k) × (slice_get vs i ≡ Some z)) ⊎ ((k ≡ n) × (z ≡ x))
each_new ks after vs pushed n x count ea ep i k z a b = elim (get_push ks n i k (ap (λ l. slice_get l i) (sym ea) ∙ a)) [
  | inl p ↦ elim (get_push vs x i z (ap (λ l. slice_get l i) (sym ep) ∙ b)) [
    | inl q ↦ inl (p, q)
    | inr q ↦ absurd (let h = get_below ks i k p in omega (arith, h, q.0, count))
  ]
  | inr p ↦ elim (get_push vs x i z (ap (λ l. slice_get l i) (sym ep) ∙ b)) [
    | inl q ↦ absurd (let h = get_below vs i z q in omega (arith, h, p.0, count))
    | inr q ↦ inr (sym p.1, sym q.1)
  ]
]

pub there_new : (ks after vs pushed : List ℕ) (n x : ℕ) → length vs ≡ length ks → after ≡ ks ++ n ∷ [] → pushed ≡ vs ++ x ∷ [] → (i : ℕ) × (slice_get after i ≡ Some n) × (slice_get pushed i ≡ Some x)
there_new ks after vs pushed n x count ea ep = (length ks, ap (λ l. slice_get l (length ks)) ea ∙ get_at_end ks n, ap (slice_get pushed) (sym count) ∙ ap (λ l. slice_get l (length vs)) ep ∙ get_at_end vs x)

pub count_new : (ks after vs pushed : List ℕ) (n x : ℕ) → length vs ≡ length ks → after ≡ ks ++ n ∷ [] → pushed ≡ vs ++ x ∷ [] → length pushed ≡ length after
count_new ks after vs pushed n x count ea ep = ap length ep ∙ push_length vs x ∙ ap suc count ∙ sym (push_length ks n) ∙ sym (ap length ea)

pub there_old : {E : Type 0} (r : Result ℕ E) (after ds vs : List ℕ) (n i k : ℕ) → ds ≡ vs → k ≡ i → (x : ℕ) × (slice_get after i ≡ Some x) × (eqb n x ≡ true) → IfOk r (λ y. k < length ds) → IfOk r (λ y. (d : ℕ) → get_or ds k d ≡ y) → IfOk r (λ y. (j : ℕ) × (slice_get after j ≡ Some n) × (slice_get vs j ≡ Some y))
there_old (Ok y) after ds vs n i k ed ek h lt is = (i, h.1 ∙ ap Some (sym (eqb-true n h.0 h.2)), ap (λ l. slice_get l i) (sym ed) ∙ ap (slice_get ds) (sym ek) ∙ get_some ds k y lt is)
there_old (Err e) after ds vs n i k ed ek h lt is = lt

-- one thing more has the first of its number
pub things_step : (numbers ks vs after bs : List ℕ) (x n : ℕ) → x < length numbers → n ≡ get_or numbers x 0 → ((i k z : ℕ) → slice_get after i ≡ Some k → slice_get bs i ≡ Some z → ((slice_get ks i ≡ Some k) × (slice_get vs i ≡ Some z)) ⊎ ((k ≡ n) × (z ≡ x)))
    → ((i k z : ℕ) → slice_get ks i ≡ Some k → slice_get vs i ≡ Some z → num_at numbers z ≡ k) → (i k z : ℕ) → slice_get after i ≡ Some k → slice_get bs i ≡ Some z → num_at numbers z ≡ k
things_step numbers ks vs after bs x n lt en each things i k z a b = elim (each i k z a b) [
  | inl h ↦ things i k z h.0 h.1
  | inr h ↦ ap (num_at numbers) h.1 ∙ get_or_default numbers x (4294967296 + x) 0 lt ∙ sym en ∙ sym h.0
]

pub firsts_step : (numbers ks vs after bs all more : List ℕ) (x n y : ℕ) → x < length numbers → n ≡ get_or numbers x 0 → length all ≡ x → more ≡ all ++ y ∷ [] → Grown ks after → Grown vs bs → (i : ℕ) × (slice_get after i ≡ Some n) × (slice_get bs i ≡ Some y)
    → ((z : ℕ) → z < x → (i : ℕ) × (slice_get ks i ≡ Some (num_at numbers z)) × (slice_get vs i ≡ Some (get_or all z z)))
    → (z : ℕ) → z < x + 1 → (i : ℕ) × (slice_get after i ≡ Some (num_at numbers z)) × (slice_get bs i ≡ Some (get_or more z z))
firsts_step numbers ks vs after bs all more x n y lt en count em g h there firsts z less = elim (same_or_not z x) [
  | inl e ↦ subst (λ k. (i : ℕ) × (slice_get after i ≡ Some (num_at numbers k)) × (slice_get bs i ≡ Some (get_or more k k))) (sym e) (
    there.0,
    there.1 ∙ ap Some (en ∙ sym (get_or_default numbers x (4294967296 + x) 0 lt)),
    there.2 ∙ ap Some (sym (ap (λ l. get_or l x x) em ∙ ap (λ k. get_or (all ++ y ∷ []) k x) (sym count) ∙ push_at all y x)),
  )
  | inr a ↦ (
      let f = firsts z (omega (arith, less, a)) in
      (f.0, g f.0 (num_at numbers z) f.1, h f.0 (get_or all z z) f.2 ∙ ap Some (sym (ap (λ l. get_or l z z) em ∙ push_left all z y z (omega (arith, less, a, count))))))
]

pub fits_below : (xs : List ℕ) → ((i : ℕ) → Fits w32 (get_or xs i 0)) → (x : ℕ) → x < length xs → num_at xs x < 4294967296
fits_below xs h x lt = (let f = h x in let e = get_or_default xs x (4294967296 + x) 0 lt in omega (arith, f, e))

pub firsts_end : (numbers all ks vs : List ℕ) (k : ℕ) → k ≡ length numbers → ((z : ℕ) → z < k → (i : ℕ) × (slice_get ks i ≡ Some (num_at numbers z)) × (slice_get vs i ≡ Some (get_or all z z))) → (z : ℕ) → z < length numbers → (i : ℕ) × (slice_get ks i ≡ Some (num_at numbers z)) × (slice_get vs i ≡ Some (get_or all z z))
firsts_end numbers all ks vs k e f z h = f z (omega (arith, e, h))

pub once_new : (ks after : List ℕ) (n : ℕ) → after ≡ cond (list_any (eqb n) ks) ks (ks ++ n ∷ []) → Distinct ks → Distinct after
once_new ks after n e d = inserted_distinct eqb (λ a b h. eqb-true a b h) (λ a. eq-eqb a a refl) ks after n e d

pub grown_new : {X : Type 0} (vs pushed : List X) (x : X) → pushed ≡ vs ++ x ∷ [] → Grown vs pushed
grown_new vs pushed x e i z h = ap (λ l. slice_get l i) e ∙ get_stays vs (x ∷ []) i z h
