-- Device: elements that are seen one after the other are distinct where each is fresh.
use Rattle.std.proofs.Common.{◌≡◌, ℕ, zero, suc, ◌<◌, Bool, true, false, ◌&&◌, ◌||◌, not, List, [], ◌∷◌, ◌++◌, length, drop, get_or, refl, ap, ◌∙◌, arith}
use Rattle.std.specs.List.{list_any}
use Rattle.cil_check.specs.Sets.{distinct, fresh}

any_end : {A : Type 0} (p : A → Bool) (xs : List A) (x : A) → list_any p (xs ++ x ∷ []) ≡ list_any p xs || p x
any_end p [] x = or_none (p x)
  where
    or_none : (b : Bool) → b || false ≡ b
    or_none true = refl
    or_none false = refl
any_end p (y ∷ ys) x = by (p y) (any_end p ys x)
  where
    by : (b : Bool) → list_any p (ys ++ x ∷ []) ≡ list_any p ys || p x → b || list_any p (ys ++ x ∷ []) ≡ (b || list_any p ys) || p x
    by true e = refl
    by false e = e

-- some element is like one of those that were seen
hit : {A : Type 0} (alike : A → A → Bool) → List A → List A → Bool
hit alike seen xs = list_any (λ x. list_any (alike x) seen) xs

hit_none : {A : Type 0} (alike : A → A → Bool) (xs : List A) → hit alike [] xs ≡ false
unfolding hit
hit_none alike [] = refl
hit_none alike (x ∷ xs) = hit_none alike xs

swapped : (a s h w : Bool) → (a || s) || (h || w) ≡ (a || h) || (s || w)
swapped true s h w = refl
swapped false true true w = refl
swapped false true false w = refl
swapped false false true w = refl
swapped false false false w = refl

hit_more : {A : Type 0} (alike : A → A → Bool) → ((x y : A) → alike x y ≡ alike y x) → (seen : List A) (v : A) (xs : List A) → hit alike (seen ++ v ∷ []) xs ≡ hit alike seen xs || list_any (alike v) xs
unfolding hit
hit_more alike both seen v [] = refl
hit_more alike both seen v (x ∷ xs) =
    ap (λ b. b || hit alike (seen ++ v ∷ []) xs) (any_end (alike x) seen v ∙ ap (λ b. list_any (alike x) seen || b) (both x v))
    ∙ ap (λ b. (list_any (alike x) seen || alike v x) || b) (hit_more alike both seen v xs)
    ∙ swapped (list_any (alike x) seen) (alike v x) (hit alike seen xs) (list_any (alike v) xs)

regrouped : (a h w d : Bool) → not a && (not (h || w) && d) ≡ not (a || h) && (not w && d)
regrouped true h w d = refl
regrouped false true w d = refl
regrouped false false w d = refl

fresh_splits : {A : Type 0} (alike : A → A → Bool) → ((x y : A) → alike x y ≡ alike y x) → (seen xs : List A) → fresh alike seen xs ≡ not (hit alike seen xs) && distinct alike xs
unfolding hit
fresh_splits alike both seen [] = refl
fresh_splits alike both seen (x ∷ xs) =
    ap (λ b. not (list_any (alike x) seen) && b) (fresh_splits alike both (seen ++ x ∷ []) xs ∙ ap (λ b. not b && distinct alike xs) (hit_more alike both seen x xs))
    ∙ regrouped (list_any (alike x) seen) (hit alike seen xs) (list_any (alike x) xs) (distinct alike xs)

-- where nothing was seen
pub fresh_is : {A : Type 0} (alike : A → A → Bool) → ((x y : A) → alike x y ≡ alike y x) → (xs : List A) → fresh alike [] xs ≡ distinct alike xs
fresh_is alike both xs = fresh_splits alike both [] xs ∙ ap (λ b. not b && distinct alike xs) (hit_none alike xs)

-- from one element on
pub fresh_from : {A : Type 0} (alike : A → A → Bool) (seen xs : List A) (i : ℕ) (d : A) → i < length xs →
    fresh alike seen (drop i xs) ≡ not (list_any (alike (get_or xs i d)) seen) && fresh alike (seen ++ get_or xs i d ∷ []) (drop (suc i) xs)
fresh_from alike seen [] i d h = absurd (omega arith)
fresh_from alike seen (x ∷ xs) zero d h = refl
fresh_from alike seen (x ∷ xs) (suc i) d h = fresh_from alike seen xs i d (omega arith)
