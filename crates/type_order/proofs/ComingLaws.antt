-- Device: the steps by which numbers come.
use Rattle.std.proofs.Common.{◌≡◌, ◌≢◌, ◌⊎◌, inl, inr, ℕ, zero, suc, ◌+◌, ◌<◌, ◌≤◌, Bool, true, false, List, [], ◌∷◌, ◌++◌, Option, Some, None, MatchOption, Result, Ok, Err, OnOk, length, get_or, take, slice_get, slice_set, subst, refl, sym, ap, ◌∙◌, arith}
use Rattle.std.proofs.lemmas.List.{get_or-set_same, get_or-set_other}
use Rattle.std.proofs.lemmas.Bool.{eqb-true}
use Rattle.std.specs.Prelude.{nat_lt, ◌==◌, cond}
use Rattle.std.specs.declared.cmp.Ordering.{Ordering}
use Rattle.std.specs.declared.cmp.Ordering.TheVariants.{Less, Equal, Greater}
use Rattle.std.specs.Ordering.{nat_cmp, match_ordering}
use Rattle.std.specs.BTreeSet.{insert_key}
use Rattle.type_order.specs.declared.coming.Wait.{Wait}
use Rattle.type_order.specs.declared.coming.Coming.{Coming}
use Rattle.type_order.specs.Order.{IsIn, IsReady, IsNext, IsLeastFirst, marked}
use Rattle.type_order.specs.Coming.{IsUpTo, IsOpenAt, IsAdded, IsChainedIn, IsChained, Waits, Frees, Attempts, Marks, IsDrained, Pops, IsComing, IsPopped, IsRun}

pub on_ok : {A E B C : Type 0} (z : Result A E) → (B → C) → OnOk z B → OnOk z C
on_ok (Ok a) f h = f h
on_ok (Err e) f h = h

same_or_not : (x y : ℕ) → (x ≡ y) ⊎ (x ≢ y)
same_or_not zero zero = inl refl
same_or_not zero (suc y) = inr (λ e. omega (arith, e))
same_or_not (suc x) zero = inr (λ e. omega (arith, e))
same_or_not (suc x) (suc y) = elim (same_or_not x y) [ inl e ↦ inl (ap suc e) | inr n ↦ inr (λ e. n (omega (arith, e))) ]

pub get_within : {X : Type 0} (xs : List X) (i : ℕ) (x : X) → slice_get xs i ≡ Some x → i < length xs
get_within [] i x e = (let bad : ⊥ = cc in absurd bad)
get_within (y ∷ xs) zero x e = omega arith
get_within (y ∷ xs) (suc i) x e = (let w = get_within xs i x e in omega (arith, w))

get_beyond : {X : Type 0} (xs : List X) (i : ℕ) → slice_get xs i ≡ None → length xs ≤ i
get_beyond [] i e = omega arith
get_beyond (y ∷ xs) zero e = (let bad : ⊥ = cc in absurd bad)
get_beyond (y ∷ xs) (suc i) e = (let w = get_beyond xs i e in omega (arith, w))

pub get_left : {X : Type 0} (xs ys : List X) (i : ℕ) (x : X) → slice_get xs i ≡ Some x → slice_get (xs ++ ys) i ≡ Some x
get_left [] ys i x e = (let bad : ⊥ = cc in absurd bad)
get_left (z ∷ xs) ys zero x e = e
get_left (z ∷ xs) ys (suc i) x e = get_left xs ys i x e

pub get_end : {X : Type 0} (xs : List X) (x : X) → slice_get (xs ++ x ∷ []) (length xs) ≡ Some x
get_end [] x = refl
get_end (z ∷ xs) x = get_end xs x

pub get_pushed : (xs : List ℕ) (x y i : ℕ) → slice_get (xs ++ x ∷ []) i ≡ Some y → (slice_get xs i ≡ Some y) ⊎ (y ≡ x)
get_pushed [] x y zero e = (let s : x ≡ y = cc in inr (sym s))
get_pushed [] x y (suc i) e = (let bad : ⊥ = cc in absurd bad)
get_pushed (z ∷ xs) x y zero e = inl e
get_pushed (z ∷ xs) x y (suc i) e = get_pushed xs x y i e

-- what is pushed is added
pub push_added : (xs ys : List ℕ) (x : ℕ) → ys ≡ xs ++ x ∷ [] → IsAdded xs ys x
push_added xs ys x e = record {
  there = (length xs, ap (λ l. slice_get l (length xs)) e ∙ get_end xs x);
  kept = λ y p. (p.0, ap (λ l. slice_get l p.0) e ∙ get_left xs (x ∷ []) p.0 y p.1);
  only = λ y p. elim (get_pushed xs x y p.0 (ap (λ l. slice_get l p.0) (sym e) ∙ p.1)) [ inl q ↦ inl (p.0, q) | inr q ↦ inr q ];
}

cmp_equal : (x y : ℕ) → nat_cmp x y ≡ Equal → x ≡ y
cmp_equal x y e = by (nat_lt x y) (x == y) refl e
  where
    by : (a b : Bool) → (x == y) ≡ b → cond a Less (cond b Equal Greater) ≡ Equal → x ≡ y
    by true b q f = (let bad : ⊥ = cc in absurd bad)
    by false true q f = eqb-true x y q
    by false false q f = (let bad : ⊥ = cc in absurd bad)

insert_there : (ks : List ℕ) (x : ℕ) → IsIn (insert_key nat_cmp ks x) x
insert_there [] x = (0, refl)
insert_there (y ∷ ks) x = by (nat_cmp x y) refl (insert_there ks x)
  where
    by : (r : Ordering) → nat_cmp x y ≡ r → IsIn (insert_key nat_cmp ks x) x → IsIn (match_ordering r (x ∷ y ∷ ks) (y ∷ ks) (y ∷ insert_key nat_cmp ks x)) x
    by Less e h = (0, refl)
    by Equal e h = (0, ap Some (sym (cmp_equal x y e)))
    by Greater e h = (suc h.0, h.1)

insert_kept : (ks : List ℕ) (x y i : ℕ) → slice_get ks i ≡ Some y → IsIn (insert_key nat_cmp ks x) y
insert_kept [] x y i e = (let bad : ⊥ = cc in absurd bad)
insert_kept (z ∷ ks) x y i e = by (nat_cmp x z) i e (insert_kept ks x y)
  where
    by : (r : Ordering) (j : ℕ) → slice_get (z ∷ ks) j ≡ Some y → ((h : ℕ) → slice_get ks h ≡ Some y → IsIn (insert_key nat_cmp ks x) y) → IsIn (match_ordering r (x ∷ z ∷ ks) (z ∷ ks) (z ∷ insert_key nat_cmp ks x)) y
    by Less j q again = (suc j, q)
    by Equal j q again = (j, q)
    by Greater zero q again = (0, q)
    by Greater (suc j) q again = (let r = again j q in (suc r.0, r.1))

insert_only : (ks : List ℕ) (x y i : ℕ) → slice_get (insert_key nat_cmp ks x) i ≡ Some y → IsIn ks y ⊎ (y ≡ x)
insert_only [] x y zero e = (let s : x ≡ y = cc in inr (sym s))
insert_only [] x y (suc i) e = (let bad : ⊥ = cc in absurd bad)
insert_only (z ∷ ks) x y i e = by (nat_cmp x z) i e (insert_only ks x y)
  where
    by : (r : Ordering) (j : ℕ) → slice_get (match_ordering r (x ∷ z ∷ ks) (z ∷ ks) (z ∷ insert_key nat_cmp ks x)) j ≡ Some y → ((h : ℕ) → slice_get (insert_key nat_cmp ks x) h ≡ Some y → IsIn ks y ⊎ (y ≡ x)) → IsIn (z ∷ ks) y ⊎ (y ≡ x)
    by Less zero q again = (let s : x ≡ y = cc in inr (sym s))
    by Less (suc j) q again = inl (j, q)
    by Equal j q again = inl (j, q)
    by Greater zero q again = inl (0, q)
    by Greater (suc j) q again = elim (again j q) [ inl r ↦ inl (suc r.0, r.1) | inr r ↦ inr r ]

-- what is inserted is added
pub insert_added : (ks ns : List ℕ) (x : ℕ) → ns ≡ insert_key nat_cmp ks x → IsAdded ks ns x
insert_added ks ns x e = subst (λ l. IsAdded ks l x) (sym e) (record {
  there = insert_there ks x;
  kept = λ y p. insert_kept ks x y p.0 p.1;
  only = λ y p. insert_only ks x y p.0 p.1;
})

pub mark_kept : (xs : List Bool) (x w : ℕ) → slice_get xs w ≡ Some true → slice_get (slice_set xs x true) w ≡ Some true
mark_kept [] x w e = (let bad : ⊥ = cc in absurd bad)
mark_kept (b ∷ xs) zero zero e = refl
mark_kept (b ∷ xs) zero (suc w) e = e
mark_kept (b ∷ xs) (suc x) zero e = e
mark_kept (b ∷ xs) (suc x) (suc w) e = mark_kept xs x w e

pub mark_back : (xs : List Bool) (x y : ℕ) → slice_get (slice_set xs x true) y ≡ Some false → (slice_get xs y ≡ Some false) × (y ≢ x)
mark_back [] x y e = (let bad : ⊥ = cc in absurd bad)
mark_back (b ∷ xs) zero zero e = (let bad : ⊥ = cc in absurd bad)
mark_back (b ∷ xs) zero (suc y) e = (e, λ q. omega (arith, q))
mark_back (b ∷ xs) (suc x) zero e = (e, λ q. omega (arith, q))
mark_back (b ∷ xs) (suc x) (suc y) e = (let r = mark_back xs x y e in (r.0, λ q. r.1 (omega (arith, q))))

mark_apart : (xs : List Bool) (x w : ℕ) → w ≢ x → slice_get xs w ≡ Some false → slice_get (slice_set xs x true) w ≡ Some false
mark_apart [] x w n e = e
mark_apart (b ∷ xs) zero zero n e = absurd (n refl)
mark_apart (b ∷ xs) zero (suc w) n e = e
mark_apart (b ∷ xs) (suc x) zero n e = e
mark_apart (b ∷ xs) (suc x) (suc w) n e = mark_apart xs x w (λ q. n (ap suc q)) e

pub marked_more : (start : List Bool) (order : List ℕ) (x : ℕ) → marked start (order ++ x ∷ []) ≡ slice_set (marked start order) x true
marked_more start [] x = refl
marked_more start (y ∷ ys) x = marked_more (slice_set start y true) ys x

chained_left : (all ws : List Wait) (k n x : ℕ) → IsChainedIn all k n x → IsChainedIn (all ++ ws) k n x
chained_left all ws zero n x h = h
chained_left all ws (suc k) n x h = (h.0, h.1, h.2, get_left all ws h.0 h.1 h.3, elim h.4 [ inl e ↦ inl e | inr r ↦ inr (chained_left all ws k h.1.next x r) ])

-- at the end of a chain nothing waits
pub chained_end : (all : List Wait) (n x : ℕ) → n ≡ 0 → IsChained all n x → ⊥
chained_end all n x e (zero, h) = h
chained_end all n x e (suc k, h) = (let q = h.2 in omega (arith, e, q))

-- the first of a chain, or one behind it
pub chained_next : (all : List Wait) (n i x : ℕ) (v : Wait) → n ≡ suc i → slice_get all i ≡ Some v → IsChained all n x → (x ≡ v.who) ⊎ IsChained all v.next x
chained_next all n i x v e at (zero, h) = absurd h
chained_next all n i x v e at (suc k, h) =
    let q = h.2 in
    let place : h.0 ≡ i = omega (arith, e, q) in
    let same : h.1 ≡ v = by h.1 v (sym h.3 ∙ ap (slice_get all) place ∙ at) in
    elim h.4 [
      | inl w ↦ inl (sym w ∙ ap (λ (u : Wait). u.who) same)
      | inr r ↦ inr (k, subst (λ (u : Wait). IsChainedIn all k u.next x) same r)
    ]
  where
    by : (a b : Wait) → ◌≡◌ {A = Option Wait} (Some a) (Some b) → a ≡ b
    by a b s = cc

-- zeroes and one more
pub zero_more : (xs ys : List ℕ) → ys ≡ xs ++ 0 ∷ [] → ((x : ℕ) → get_or xs x 0 ≡ 0) → (x : ℕ) → get_or ys x 0 ≡ 0
zero_more xs ys e h x = ap (λ l. get_or l x 0) e ∙ by xs x (h x)
  where
    by : (l : List ℕ) (i : ℕ) → get_or l i 0 ≡ 0 → get_or (l ++ 0 ∷ []) i 0 ≡ 0
    by [] zero q = refl
    by [] (suc i) q = refl
    by (z ∷ l) zero q = q
    by (z ∷ l) (suc i) q = by l i q

get_read : (xs : List ℕ) (i d : ℕ) → i < length xs → slice_get xs i ≡ Some (get_or xs i d)
get_read [] i d h = absurd (omega (arith, h))
get_read (x ∷ xs) zero d h = refl
get_read (x ∷ xs) (suc i) d h = get_read xs i d (omega (arith, h))

pub some_same : {X : Type 0} (a b : X) → ◌≡◌ {A = Option X} (Some a) (Some b) → a ≡ b
some_same a b s = cc

-- one more has come
pub upto_more : (needed : List ℕ) (done : List Bool) (k d : ℕ) → k < length needed → slice_get done (get_or needed k d) ≡ Some true → IsUpTo needed done k → IsUpTo needed done (k + 1)
upto_more needed done k d h e up j w l q = elim (same_or_not j k) [
  | inl s ↦ (
      let one : get_or needed k d ≡ w = some_same (get_or needed k d) w (sym (get_read needed k d h) ∙ ap (slice_get needed) (sym s) ∙ q) in
      ap (slice_get done) (sym one) ∙ e)
  | inr n ↦ up j w (omega (arith, l, n)) q
]

pub open_at : (needed : List ℕ) (done : List Bool) (k d : ℕ) → k < length needed → slice_get done (get_or needed k d) ≡ Some false → IsOpenAt needed done k
open_at needed done k d h e w q = ap (slice_get done) (sym (some_same (get_or needed k d) w (sym (get_read needed k d h) ∙ q))) ∙ e

pub open_end : (needed : List ℕ) (done : List Bool) (k : ℕ) → length needed ≤ k → IsOpenAt needed done k
open_end needed done k h w q = (let l = get_within needed k w q in absurd (omega (arith, h, l)))

pub upto_end : (needed : List ℕ) (done : List Bool) (k n : ℕ) → length needed ≤ k → IsUpTo needed done k → IsUpTo needed done n
upto_end needed done k n h up j w l q = (let m = get_within needed j w q in up j w (omega (arith, h, m)) q)

module _ (needs : ℕ → List ℕ) (listed : ℕ) where
  each_more : (start : List Bool) (order : List ℕ) (x : ℕ) → ((k y : ℕ) → slice_get order k ≡ Some y → IsNext needs listed (marked start (take k order)) y) → IsNext needs listed (marked start order) x
      → (k y : ℕ) → slice_get (order ++ x ∷ []) k ≡ Some y → IsNext needs listed (marked start (take k (order ++ x ∷ []))) y
  each_more start [] x h n zero y e = (let s : x ≡ y = cc in subst (IsNext needs listed start) s n)
  each_more start [] x h n (suc k) y e = (let bad : ⊥ = cc in absurd bad)
  each_more start (z ∷ zs) x h n zero y e = h zero y e
  each_more start (z ∷ zs) x h n (suc k) y e = each_more (slice_set start z true) zs x (λ j w q. h (suc j) w q) n k y e

  -- other numbers are pending
  pub pending : (P Q : ℕ → Type 0) (c : Coming) → ((y : ℕ) → slice_get c.done.items y ≡ Some false → P y → Q y) → IsComing needs listed P c → IsComing needs listed Q c
  pending P Q c f h = record {
    seen = h.seen;
    ready = h.ready;
    silent = h.silent;
    each = λ y e. elim (h.each y e) [ inl p ↦ inl (f y e p) | inr r ↦ inr r ];
  }

  module _ (P Q : ℕ → Type 0) (x : ℕ) (old new : Coming) (split : (y : ℕ) → P y → (y ≡ x) ⊎ Q y) (c : IsComing needs listed P old) (a : Attempts (needs x) listed x old new) where
    to : (w : ℕ) (b : Bool) → slice_get old.done.items w ≡ Some b → slice_get new.done.items w ≡ Some b
    to w b e = ap (λ v. slice_get v.items w) a.done ∙ e

    back : (w : ℕ) (b : Bool) → slice_get new.done.items w ≡ Some b → slice_get old.done.items w ≡ Some b
    back w b e = ap (λ v. slice_get v.items w) (sym a.done) ∙ e

    seen_new : (y : ℕ) → IsUpTo (needs y) new.done.items (get_or new.seen.items y 0)
    seen_new y j w l q = elim (same_or_not y x) [
      | inl e ↦ (
          let at : get_or new.seen.items y 0 ≡ a.place = ap (λ s. get_or s y 0) a.seen ∙ ap (λ z. get_or (slice_set old.seen.items x a.place) z 0) e ∙ get_or-set_same old.seen.items x a.place 0 a.within in
          to w true (a.up (c.seen x) j w (omega (arith, l, at)) (ap (λ z. slice_get (needs z) j) (sym e) ∙ q)))
      | inr n ↦ (
          let at : get_or new.seen.items y 0 ≡ get_or old.seen.items y 0 = ap (λ s. get_or s y 0) a.seen ∙ get_or-set_other old.seen.items x y a.place 0 n in
          to w true (c.seen y j w (omega (arith, l, at)) q))
    ]

    ready_new : (y : ℕ) → IsReady needs old.done.items y → IsReady needs new.done.items y
    ready_new y h w p = to w true (h w p)

    frees : slice_get (needs x) a.place ≡ None → Frees listed x old new → IsComing needs listed Q new
    frees e f = by f.where_to
      where
        own : IsReady needs new.done.items x
        own w p = (
            let h = get_beyond (needs x) a.place e in
            let l = get_within (needs x) p.0 w p.1 in
            to w true (a.up (c.seen x) p.0 w (omega (arith, h, l)) p.1))

        stay : (w y : ℕ) → IsChained old.all.items (get_or old.firsts.items w 0) y → IsChained new.all.items (get_or new.firsts.items w 0) y
        stay w y h = subst (λ l. IsChained l (get_or new.firsts.items w 0) y) (sym f.all) (subst (λ l. IsChained old.all.items (get_or l w 0) y) (sym f.firsts) h)

        by : ((x < listed) × IsAdded old.ready.keys new.ready.keys x × (new.silent.items ≡ old.silent.items)) ⊎ ((listed ≤ x) × IsAdded old.silent.items new.silent.items x × (new.ready.keys ≡ old.ready.keys)) → IsComing needs listed Q new
        by (inl w) = record {
          seen = seen_new;
          ready = λ y p. elim (w.1.only y p) [
            | inl o ↦ (let r = c.ready y o in (r.0, ready_new y r.1))
            | inr e ↦ subst (λ z. (z < listed) × IsReady needs new.done.items z) (sym e) (w.0, own)
          ];
          silent = λ y p. (let r = c.silent y (subst (λ l. IsIn l y) w.2 p) in (r.0, ready_new y r.1));
          each = λ y o. elim (c.each y (back y false o)) [
            | inl p ↦ elim (split y p) [ inl e ↦ inr (inl (subst (IsIn new.ready.keys) (sym e) w.1.there)) | inr q ↦ inl q ]
            | inr r ↦ elim r [
              | inl s ↦ inr (inl (w.1.kept y s))
              | inr s ↦ elim s [
                | inl t ↦ inr (inr (inl (subst (λ l. IsIn l y) (sym w.2) t)))
                | inr t ↦ inr (inr (inr (t.0, t.1, to t.0 false t.2, stay t.0 y t.3)))
              ]
            ]
          ];
        }
        by (inr w) = record {
          seen = seen_new;
          ready = λ y p. (let r = c.ready y (subst (λ l. IsIn l y) w.2 p) in (r.0, ready_new y r.1));
          silent = λ y p. elim (w.1.only y p) [
            | inl o ↦ (let r = c.silent y o in (r.0, ready_new y r.1))
            | inr e ↦ subst (λ z. (listed ≤ z) × IsReady needs new.done.items z) (sym e) (w.0, own)
          ];
          each = λ y o. elim (c.each y (back y false o)) [
            | inl p ↦ elim (split y p) [ inl e ↦ inr (inr (inl (subst (IsIn new.silent.items) (sym e) w.1.there))) | inr q ↦ inl q ]
            | inr r ↦ elim r [
              | inl s ↦ inr (inl (subst (λ l. IsIn l y) (sym w.2) s))
              | inr s ↦ elim s [
                | inl t ↦ inr (inr (inl (w.1.kept y t)))
                | inr t ↦ inr (inr (inr (t.0, t.1, to t.0 false t.2, stay t.0 y t.3)))
              ]
            ]
          ];
        }

    waits : (w : ℕ) → slice_get (needs x) a.place ≡ Some w → Waits x w old new → IsComing needs listed Q new
    waits w e f = record {
      seen = seen_new;
      ready = λ y p. (let r = c.ready y (subst (λ l. IsIn l y) f.ready p) in (r.0, ready_new y r.1));
      silent = λ y p. (let r = c.silent y (subst (λ l. IsIn l y) f.silent p) in (r.0, ready_new y r.1));
      each = λ y o. elim (c.each y (back y false o)) [
        | inl p ↦ elim (split y p) [ inl q ↦ inr (inr (inr (subst here (sym q) own))) | inr q ↦ inl q ]
        | inr r ↦ elim r [
          | inl s ↦ inr (inl (subst (λ l. IsIn l y) (sym f.ready) s))
          | inr s ↦ elim s [
            | inl t ↦ inr (inr (inl (subst (λ l. IsIn l y) (sym f.silent) t)))
            | inr t ↦ inr (inr (inr (t.0, t.1, to t.0 false t.2, stay t.0 y t.3)))
          ]
        ]
      ];
    }
      where
        here : ℕ → Type 0
        here y = (v : ℕ) × IsIn (needs y) v × (slice_get new.done.items v ≡ Some false) × IsChained new.all.items (get_or new.firsts.items v 0) y

        last : Wait
        last = record { who = x; next = get_or old.firsts.items w 0 }

        at_w : get_or new.firsts.items w 0 ≡ suc (length old.all.items)
        at_w = ap (λ l. get_or l w 0) f.firsts ∙ get_or-set_same old.firsts.items w (suc (length old.all.items)) 0 f.within

        there : slice_get new.all.items (length old.all.items) ≡ Some last
        there = ap (λ l. slice_get l (length old.all.items)) f.all ∙ get_end old.all.items last

        own : here x
        own = (w, (a.place, e), to w false (a.first w e), (1, (length old.all.items, last, at_w, there, inl refl)))

        more : (n y : ℕ) → IsChained old.all.items n y → IsChained new.all.items n y
        more n y h = (h.0, subst (λ l. IsChainedIn l h.0 n y) (sym f.all) (chained_left old.all.items (last ∷ []) h.0 n y h.1))

        stay : (v y : ℕ) → IsChained old.all.items (get_or old.firsts.items v 0) y → IsChained new.all.items (get_or new.firsts.items v 0) y
        stay v y h = elim (same_or_not v w) [
          | inl q ↦ (let m = more (get_or old.firsts.items w 0) y (subst (λ u. IsChained old.all.items (get_or old.firsts.items u 0) y) q h) in
              (suc m.0, (length old.all.items, last, ap (λ u. get_or new.firsts.items u 0) q ∙ at_w, there, inr m.1)))
          | inr n ↦ subst (λ u. IsChained new.all.items u y) (sym (ap (λ l. get_or l v 0) f.firsts ∙ get_or-set_other old.firsts.items w v (suc (length old.all.items)) 0 n)) (more (get_or old.firsts.items v 0) y h)
        ]

    pub attempted : IsComing needs listed Q new
    attempted = by (slice_get (needs x) a.place) refl a.put
      where
        by : (o : Option ℕ) → slice_get (needs x) a.place ≡ o → MatchOption o (Frees listed x old new) (λ w. Waits x w old new) → IsComing needs listed Q new
        by None e f = frees e f
        by (Some w) e f = waits w e f

  -- the chains stay
  more_chained : (x : ℕ) (old new : Coming) → Attempts (needs x) listed x old new → (n y : ℕ) → IsChained old.all.items n y → IsChained new.all.items n y
  more_chained x old new a n y h = by (slice_get (needs x) a.place) a.put
    where
      by : (o : Option ℕ) → MatchOption o (Frees listed x old new) (λ w. Waits x w old new) → IsChained new.all.items n y
      by None f = subst (λ l. IsChained l n y) (sym f.all) h
      by (Some w) f = subst (λ l. IsChained l n y) (sym f.all) (h.0, chained_left old.all.items (record { who = x; next = get_or old.firsts.items w 0 } ∷ []) h.0 n y h.1)

  -- one that waited for what came waits for the next
  pub released : (number i : ℕ) (v : Wait) (old new : Coming) → number ≡ suc i → slice_get old.all.items i ≡ Some v → Attempts (needs v.who) listed v.who old new
      → IsComing needs listed (IsChained old.all.items number) old → IsComing needs listed (IsChained new.all.items v.next) new
  released number i v old new e at a h = attempted (IsChained old.all.items number) (IsChained new.all.items v.next) v.who old new
      (λ y c. elim (chained_next old.all.items number i y v e at c) [ inl q ↦ inl q | inr r ↦ inr (more_chained v.who old new a v.next y r) ]) h a

  -- none is left of those that waited for what came
  pub all_released : (number : ℕ) (c : Coming) → number ≡ 0 → IsComing needs listed (IsChained c.all.items number) c → IsComing needs listed (λ y. ⊥) c
  all_released number c e h = pending (IsChained c.all.items number) (λ y. ⊥) c (λ y o q. chained_end c.all.items number y e q) h

  -- the next of all numbers is let wait, or has come
  pub tried : (x : ℕ) (old new : Coming) → Attempts (needs x) listed x old new → IsComing needs listed (λ y. x ≤ y) old → IsComing needs listed (λ y. x + 1 ≤ y) new
  tried x old new a h = attempted (λ y. x ≤ y) (λ y. x + 1 ≤ y) x old new (λ y l. elim (same_or_not y x) [ inl e ↦ inl e | inr n ↦ inr (omega (arith, l, n)) ]) h a

  pub passed : (x : ℕ) (c : Coming) → slice_get c.done.items x ≡ Some true → IsComing needs listed (λ y. x ≤ y) c → IsComing needs listed (λ y. x + 1 ≤ y) c
  passed x c e h = pending (λ y. x ≤ y) (λ y. x + 1 ≤ y) c (λ y o l. elim (same_or_not y x) [
    | inl q ↦ (let s : ◌≡◌ {A = Option Bool} (Some false) (Some true) = sym o ∙ ap (slice_get c.done.items) q ∙ e in let bad : ⊥ = cc in absurd bad)
    | inr n ↦ omega (arith, l, n)
  ]) h

  pub all_tried : (x : ℕ) (c : Coming) → length c.done.items ≤ x → IsComing needs listed (λ y. x ≤ y) c → IsComing needs listed (λ y. ⊥) c
  all_tried x c e h = pending (λ y. x ≤ y) (λ y. ⊥) c (λ y o l. (let w = get_within c.done.items y false o in omega (arith, e, l, w))) h

  -- a number comes, and those that wait for it are pending
  pub marks : (x : ℕ) (old new : Coming) → IsComing needs listed (λ y. y ≡ x) old → Marks x old new → IsComing needs listed (IsChained new.all.items (get_or new.firsts.items x 0)) new
  marks x old new c m = record {
    seen = λ y j w l q. to w (c.seen y j w (subst (λ v. j < get_or v.items y 0) m.seen l) q);
    ready = λ y p. (let r = c.ready y (subst (λ v. IsIn v.keys y) m.ready p) in (r.0, λ w q. to w (r.1 w q)));
    silent = λ y p. (let r = c.silent y (subst (λ v. IsIn v.items y) m.silent p) in (r.0, λ w q. to w (r.1 w q)));
    each = λ y o. (
        let b = mark_back old.done.items x y (ap (λ l. slice_get l y) (sym m.done) ∙ o) in
        elim (c.each y b.0) [
          | inl e ↦ absurd (b.1 e)
          | inr r ↦ elim r [
            | inl s ↦ inr (inl (subst (λ v. IsIn v.keys y) (sym m.ready) s))
            | inr s ↦ elim s [
              | inl t ↦ inr (inr (inl (subst (λ v. IsIn v.items y) (sym m.silent) t)))
              | inr t ↦ elim (same_or_not t.0 x) [
                | inl e ↦ inl (stay x y (subst (λ u. IsChained old.all.items (get_or old.firsts.items u 0) y) e t.3))
                | inr n ↦ inr (inr (inr (t.0, t.1, ap (λ l. slice_get l t.0) m.done ∙ mark_apart old.done.items x t.0 n t.2, stay t.0 y t.3)))
              ]
            ]
          ]
        ]);
  }
    where
      to : (w : ℕ) → slice_get old.done.items w ≡ Some true → slice_get new.done.items w ≡ Some true
      to w e = ap (λ l. slice_get l w) m.done ∙ mark_kept old.done.items x w e

      stay : (w y : ℕ) → IsChained old.all.items (get_or old.firsts.items w 0) y → IsChained new.all.items (get_or new.firsts.items w 0) y
      stay w y h = subst (λ v. IsChained v.items (get_or new.firsts.items w 0) y) (sym m.all) (subst (λ v. IsChained old.all.items (get_or v.items w 0) y) (sym m.firsts) h)

  module _ (start : List Bool) where
    -- one that is taken out
    pub popped : (order : List ℕ) (x : ℕ) (old new : Coming) → IsRun needs listed start order old → Pops x old new → IsPopped needs listed start order x new
    popped order x old new r p = by p.which
      where
        done : (w : ℕ) (b : Bool) → slice_get old.done.items w ≡ Some b → slice_get new.done.items w ≡ Some b
        done w b e = ap (λ v. slice_get v.items w) p.done ∙ e

        undone : (w : ℕ) (b : Bool) → slice_get new.done.items w ≡ Some b → slice_get old.done.items w ≡ Some b
        undone w b e = ap (λ v. slice_get v.items w) (sym p.done) ∙ e

        upto : (y : ℕ) → IsUpTo (needs y) new.done.items (get_or new.seen.items y 0)
        upto y j w l q = done w true (r.coming.seen y j w (subst (λ v. j < get_or v.items y 0) p.seen l) q)

        ready : (y : ℕ) → IsReady needs old.done.items y → IsReady needs new.done.items y
        ready y h w q = done w true (h w q)

        stay : (w y : ℕ) → IsChained old.all.items (get_or old.firsts.items w 0) y → IsChained new.all.items (get_or new.firsts.items w 0) y
        stay w y h = subst (λ v. IsChained v.items (get_or new.firsts.items w 0) y) (sym p.all) (subst (λ v. IsChained old.all.items (get_or v.items w 0) y) (sym p.firsts) h)

        headed : (z : ℕ) (zs : List ℕ) (y i : ℕ) → slice_get (z ∷ zs) i ≡ Some y → (y ≡ z) ⊎ IsIn zs y
        headed z zs y zero e = (let s : z ≡ y = cc in inl (sym s))
        headed z zs y (suc i) e = inr (i, e)

        by : ((old.silent.items ≡ new.silent.items ++ x ∷ []) × (new.ready.keys ≡ old.ready.keys)) ⊎ ((new.silent.items ≡ []) × (old.silent.items ≡ []) × (old.ready.keys ≡ x ∷ new.ready.keys) × ((y : ℕ) → IsIn new.ready.keys y → x < y)) → IsPopped needs listed start order x new
        by (inl w) =
            let added = push_added new.silent.items old.silent.items x w.0 in
            let own = r.coming.silent x added.there in
            record {
              coming = record {
                seen = upto;
                ready = λ y q. (let h = r.coming.ready y (subst (λ l. IsIn l y) w.1 q) in (h.0, ready y h.1));
                silent = λ y q. (let h = r.coming.silent y (added.kept y q) in (h.0, ready y h.1));
                each = λ y o. elim (r.coming.each y (undone y false o)) [
                  | inl e ↦ absurd e
                  | inr a ↦ elim a [
                    | inl s ↦ inr (inl (subst (λ l. IsIn l y) (sym w.1) s))
                    | inr s ↦ elim s [
                      | inl t ↦ elim (added.only y t) [ inl q ↦ inr (inr (inl q)) | inr e ↦ inl e ]
                      | inr t ↦ inr (inr (inr (t.0, t.1, done t.0 false t.2, stay t.0 y t.3)))
                    ]
                  ]
                ];
              };
              done = ap (λ v. v.items) p.done ∙ r.done;
              each = r.each;
              ready = ready x own.1;
              least = inl own.0;
            }
        by (inr w) =
            let own = r.coming.ready x (0, ap (λ l. slice_get l 0) w.2) in
            record {
              coming = record {
                seen = upto;
                ready = λ y q. (let h = r.coming.ready y (suc q.0, ap (λ l. slice_get l (suc q.0)) w.2 ∙ q.1) in (h.0, ready y h.1));
                silent = λ y q. (let e : ◌≡◌ {A = Option ℕ} None (Some y) = ap (λ l. slice_get l q.0) (sym w.0) ∙ q.1 in let bad : ⊥ = cc in absurd bad);
                each = λ y o. elim (r.coming.each y (undone y false o)) [
                  | inl e ↦ absurd e
                  | inr a ↦ elim a [
                    | inl s ↦ elim (headed x new.ready.keys y s.0 (ap (λ l. slice_get l s.0) (sym w.2) ∙ s.1)) [ inl e ↦ inl e | inr q ↦ inr (inl q) ]
                    | inr s ↦ elim s [
                      | inl t ↦ (let e : ◌≡◌ {A = Option ℕ} None (Some y) = ap (λ l. slice_get l t.0) (sym w.1) ∙ t.1 in let bad : ⊥ = cc in absurd bad)
                      | inr t ↦ inr (inr (inr (t.0, t.1, done t.0 false t.2, stay t.0 y t.3)))
                    ]
                  ]
                ];
              };
              done = ap (λ v. v.items) p.done ∙ r.done;
              each = r.each;
              ready = ready x own.1;
              least = inr (own.0, w.0, w.3);
            }

    -- one that is taken out had come before
    pub skipped : (order : List ℕ) (x : ℕ) (c : Coming) → slice_get c.done.items x ≡ Some true → IsPopped needs listed start order x c → IsRun needs listed start order c
    skipped order x c e p = record {
      coming = pending (λ y. y ≡ x) (λ y. ⊥) c (λ y o q. (let s : slice_get c.done.items x ≡ Some false = ap (slice_get c.done.items) (sym q) ∙ o in let bad : ⊥ = cc in bad)) p.coming;
      done = p.done;
      each = p.each;
    }

    next : (order : List ℕ) (x : ℕ) (c : Coming) → slice_get c.done.items x ≡ Some false → IsPopped needs listed start order x c → IsNext needs listed (marked start order) x
    next order x c e p = subst (λ d. IsNext needs listed d x) p.done (record {
      absent = e;
      ready = p.ready;
      least = λ y o r. elim p.least [
        | inl h ↦ inl h
        | inr h ↦ inr (elim (p.coming.each y o) [
          | inl q ↦ (let l = h.0 in (omega (arith, q), omega (arith, q, l)))
          | inr a ↦ elim a [
            | inl s ↦ (let l = h.2 y s in (omega (arith, l), (p.coming.ready y s).0))
            | inr s ↦ elim s [
              | inl t ↦ (let q : ◌≡◌ {A = Option ℕ} None (Some y) = ap (λ l. slice_get l t.0) (sym h.1) ∙ t.1 in let bad : ⊥ = cc in absurd bad)
              | inr t ↦ (let q : ◌≡◌ {A = Option Bool} (Some true) (Some false) = sym (r t.0 t.1) ∙ t.2 in let bad : ⊥ = cc in absurd bad)
            ]
          ]
        ])
      ];
    })

    -- one comes that is taken out
    pub advanced : (order after : List ℕ) (x : ℕ) (c mid new : Coming) → slice_get c.done.items x ≡ Some false → after ≡ order ++ x ∷ [] → IsPopped needs listed start order x c → Marks x c mid
        → IsComing needs listed (λ y. ⊥) new × (new.done ≡ mid.done) → IsRun needs listed start after new
    advanced order after x c mid new e q p m r =
        subst (λ l. IsRun needs listed start l new) (sym q) (record {
          coming = r.0;
          done = ap (λ v. v.items) r.1 ∙ m.done ∙ ap (λ d. slice_set d x true) p.done ∙ sym (marked_more start order x);
          each = each_more start order x p.each (next order x c e p);
        })

    -- nothing is left to be taken out
    pub drained : (order : List ℕ) (old new : Coming) → IsRun needs listed start order old → IsDrained old new → IsLeastFirst needs listed start order
    drained order old new r d = record {
      each = r.each;
      all = λ x o ready. elim (r.coming.each x (ap (λ l. slice_get l x) r.done ∙ o)) [
        | inl e ↦ e
        | inr a ↦ elim a [
          | inl s ↦ (let q : ◌≡◌ {A = Option ℕ} None (Some x) = ap (λ l. slice_get l s.0) (sym d.ready) ∙ s.1 in let bad : ⊥ = cc in bad)
          | inr s ↦ elim s [
            | inl t ↦ (let q : ◌≡◌ {A = Option ℕ} None (Some x) = ap (λ l. slice_get l t.0) (sym d.silent) ∙ t.1 in let bad : ⊥ = cc in bad)
            | inr t ↦ (let q : ◌≡◌ {A = Option Bool} (Some true) (Some false) = sym (ready t.0 t.1) ∙ ap (λ l. slice_get l t.0) (sym r.done) ∙ t.2 in let bad : ⊥ = cc in bad)
          ]
        ]
      ];
    }

    pub run_start : (c : Coming) → c.done.items ≡ start → IsComing needs listed (λ y. ⊥) c → IsRun needs listed start [] c
    run_start c e h = record {
      coming = h;
      done = e;
      each = λ k y q. (let bad : ⊥ = cc in absurd bad);
    }
