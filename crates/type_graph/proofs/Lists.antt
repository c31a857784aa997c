-- Device: reading lists by place.
use Rattle.std.proofs.Common.{◌≡◌, ◌≢◌, ℕ, zero, suc, ◌<◌, List, [], ◌∷◌, ◌++◌, length, slice_get, nat_lt, Bool, true, false, cond, subst, Some, None, ◌⊎◌, inl, inr, refl, sym, ap, ◌∙◌, arith}
use Rattle.std.proofs.Math.ListN.{set}
use borrow.Author.Tests.{ltb-true}
use Rattle.std.specs.List.{position, position_or_len, find}
use Rattle.std.proofs.lemmas.List.Folds.{find_at}

pub get_stays : {K : Type 0} (xs ys : List K) (i : ℕ) (x : K) → slice_get xs i ≡ Some x → slice_get (xs ++ ys) i ≡ Some x
get_stays [] ys i x e = cc
get_stays (y ∷ xs) ys zero x e = e
get_stays (y ∷ xs) ys (suc i) x e = get_stays xs ys i x e

pub get_at_end : {K : Type 0} (xs : List K) (x : K) → slice_get (xs ++ x ∷ []) (length xs) ≡ Some x
get_at_end [] x = refl
get_at_end (y ∷ xs) x = get_at_end xs x

pub get_push : {K : Type 0} (xs : List K) (y : K) (i : ℕ) (x : K) → slice_get (xs ++ y ∷ []) i ≡ Some x → (slice_get xs i ≡ Some x) ⊎ ((i ≡ length xs) × (y ≡ x))
get_push [] y zero x e = inr (refl, cc)
get_push [] y (suc i) x e = cc
get_push (z ∷ xs) y zero x e = inl e
get_push (z ∷ xs) y (suc i) x e = elim (get_push xs y i x e) [ inl h ↦ inl h | inr h ↦ inr (ap suc h.0, h.1) ]

-- a place below the length has an element
pub get_there : {K : Type 0} (xs : List K) (i : ℕ) → i < length xs → (x : K) × (slice_get xs i ≡ Some x)
get_there [] i h = absurd (omega arith)
get_there (x ∷ xs) zero h = (x, refl)
get_there (x ∷ xs) (suc i) h = get_there xs i (omega arith)

pub get_set_same : {K : Type 0} (xs : List K) (i : ℕ) (x y : K) → slice_get xs i ≡ Some x → slice_get (set xs i y) i ≡ Some y
get_set_same [] i x y e = cc
get_set_same (z ∷ xs) zero x y e = refl
get_set_same (z ∷ xs) (suc i) x y e = get_set_same xs i x y e

pub get_set_other : {K : Type 0} (xs : List K) (i j : ℕ) (y : K) → j ≢ i → slice_get (set xs i y) j ≡ slice_get xs j
get_set_other [] i j y h = refl
get_set_other (z ∷ xs) zero zero y h = absurd (h refl)
get_set_other (z ∷ xs) zero (suc j) y h = refl
get_set_other (z ∷ xs) (suc i) zero y h = refl
get_set_other (z ∷ xs) (suc i) (suc j) y h = get_set_other xs i j y (λ e. h (ap suc e))

-- what `find` finds passes the test
find_passes : {K : Type 0} (test : K → Bool) (ks : List K) (k : K) → find test ks ≡ Some k → test k ≡ true
find_passes test [] k e = cc
find_passes test (x ∷ xs) k e = by (find_passes test xs k) (test x) refl e
  where
    by : (find test xs ≡ Some k → test k ≡ true) → (b : Bool) → test x ≡ b → cond b (Some x) (find test xs) ≡ Some k → test k ≡ true
    by rest true q f = let same : x ≡ k = cc in subst (λ y. test y ≡ true) same q
    by rest false q f = rest f

-- the place that `position` gives has an element that passes the test
pub position_passes : {K : Type 0} (test : K → Bool) (ks : List K) (i : ℕ) → Some i ≡ position test ks → (k : K) × (slice_get ks i ≡ Some k) × (test k ≡ true)
position_passes test ks i e = by (nat_lt (position_or_len test ks) (length ks)) refl e
  where
    by : (b : Bool) → nat_lt (position_or_len test ks) (length ks) ≡ b → Some i ≡ cond b (Some (position_or_len test ks)) None → (k : _) × (slice_get ks i ≡ Some k) × (test k ≡ true)
    by true q f =
        let same : i ≡ position_or_len test ks = cc in
        let found = get_there ks i (subst (λ n. n < length ks) (sym same) (ltb-true _ _ q)) in
        (found.0, found.1, find_passes test ks found.0 (find_at test ks ∙ ap (slice_get ks) (sym same) ∙ found.1))
    by false q f = cc
