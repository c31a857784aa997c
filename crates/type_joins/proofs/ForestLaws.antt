-- Device: the root of a number, and how joining two roots changes it.
use Rattle.std.proofs.Common.{◌≡◌, ◌≢◌, ◌⊎◌, inl, inr, ℕ, zero, suc, ◌<◌, ◌≤◌, Bool, true, false, cond, nat_eq, List, length, slice_set, subst, refl, sym, ap, ◌∙◌, arith}
use Rattle.std.proofs.lemmas.Bool.{eqb-true, eq-eqb}
use Rattle.type_things.proofs.NumberLaws.{same_or_not, beyond}
use Rattle.type_joins.specs.Forests.{parent, up, root, IsForest, joined}
use Rattle.std.proofs.lemmas.List.{get_or-set_same, get_or-set_other}

settled : (ps : List ℕ) (k x : ℕ) → parent ps x ≡ x → up ps k x ≡ x
settled ps zero x e = refl
settled ps (suc k) x e = ap (up ps k) e ∙ settled ps k x e

climbs : (ps : List ℕ) → IsForest ps → (k x : ℕ) → x ≤ k → parent ps (up ps k x) ≡ up ps k x
climbs ps f zero x h = let a : parent ps x ≤ x = f x in omega arith
climbs ps f (suc k) x h = elim (same_or_not (parent ps x) x) [
  | inl e ↦ let s = settled ps (suc k) x e in ap (parent ps) s ∙ e ∙ sym s
  | inr e ↦ let a : parent ps x ≤ x = f x in climbs ps f k (parent ps x) (omega arith)
]

up_same : (ps : List ℕ) (c : ℕ → ℕ) → ((x : ℕ) → c (parent ps x) ≡ c x) → (k x : ℕ) → c (up ps k x) ≡ c x
up_same ps c h zero x = refl
up_same ps c h (suc k) x = up_same ps c h k (parent ps x) ∙ h x

above : (ps : List ℕ) (x : ℕ) → length ps ≤ x → parent ps x ≡ x
above ps x h = beyond ps x x h

pub root_top : (ps : List ℕ) → IsForest ps → (x : ℕ) → parent ps (root ps x) ≡ root ps x
root_top ps f x = by (le_or x (length ps))
  where
    le_or : (a b : ℕ) → (a ≤ b) ⊎ (b ≤ a)
    le_or zero b = inl (omega arith)
    le_or (suc a) zero = inr (omega arith)
    le_or (suc a) (suc b) = elim (le_or a b) [ inl h ↦ inl (omega arith) | inr h ↦ inr (omega arith) ]

    by : (x ≤ length ps) ⊎ (length ps ≤ x) → parent ps (root ps x) ≡ root ps x
    by (inl h) = climbs ps f (length ps) x h
    by (inr h) = let s = settled ps (length ps) x (above ps x h) in ap (parent ps) s ∙ above ps x h ∙ sym s

up_parent : (ps : List ℕ) (k x : ℕ) → up ps k (parent ps x) ≡ parent ps (up ps k x)
up_parent ps zero x = refl
up_parent ps (suc k) x = up_parent ps k (parent ps x)

pub root_parent : (ps : List ℕ) → IsForest ps → (x : ℕ) → root ps (parent ps x) ≡ root ps x
root_parent ps f x = up_parent ps (length ps) x ∙ root_top ps f x

pub root_of_top : (ps : List ℕ) (x : ℕ) → parent ps x ≡ x → root ps x ≡ x
root_of_top ps x e = settled ps (length ps) x e

pub root_root : (ps : List ℕ) → IsForest ps → (x : ℕ) → root ps (root ps x) ≡ root ps x
root_root ps f x = root_of_top ps (root ps x) (root_top ps f x)

up_below : (ps : List ℕ) → IsForest ps → (k x : ℕ) → up ps k x ≤ x
up_below ps f zero x = omega arith
up_below ps f (suc k) x = let a = up_below ps f k (parent ps x) in let b : parent ps x ≤ x = f x in omega (arith, a, b)

pub root_below : (ps : List ℕ) → IsForest ps → (x : ℕ) → root ps x ≤ x
root_below ps f x = up_below ps f (length ps) x

-- what is the same for a number and its parent, and a root's own, is the root
pub root_is : (ps : List ℕ) → IsForest ps → (c : ℕ → ℕ) → ((x : ℕ) → c (parent ps x) ≡ c x) → ((x : ℕ) → parent ps x ≡ x → c x ≡ x) → (x : ℕ) → root ps x ≡ c x
root_is ps f c kept top x = sym (top (root ps x) (root_top ps f x)) ∙ up_same ps c kept (length ps) x

parent_set_same : (ps : List ℕ) (x n : ℕ) → x < length ps → parent (slice_set ps x n) x ≡ n
parent_set_same ps x n h = get_or-set_same ps x n x h

parent_set_other : (ps : List ℕ) (x n y : ℕ) → y ≢ x → parent (slice_set ps x n) y ≡ parent ps y
parent_set_other ps x n y h = get_or-set_other ps x y n y h

abbrev pub skipped : List ℕ → ℕ → List ℕ
skipped ps x = slice_set ps x (parent ps (parent ps x))

abbrev pub led : List ℕ → ℕ → ℕ → List ℕ
led ps low high = slice_set ps high low

-- a number that skips its parent keeps its root
pub halved : (ps : List ℕ) (x : ℕ) → IsForest ps → x < length ps → IsForest (skipped ps x) × ((y : ℕ) → root (skipped ps x) y ≡ root ps y)
halved ps x f h = (forest, λ y. root_is (skipped ps x) forest (root ps) kept top y)
  where
    cases : (P : ℕ → Type 0) (y : ℕ) → P x → (y ≢ x → P y) → P y
    cases P y at_x at_other = elim (same_or_not y x) [ inl e ↦ subst P (sym e) at_x | inr e ↦ at_other e ]

    forest : IsForest (skipped ps x)
    forest y = cases (λ z. parent (skipped ps x) z ≤ z) y
        (let a = f x in let b = f (parent ps x) in omega (arith, a, b, parent_set_same ps x (parent ps (parent ps x)) h))
        (λ e. omega (arith, f y, parent_set_other ps x (parent ps (parent ps x)) y e))

    kept : (y : ℕ) → root ps (parent (skipped ps x) y) ≡ root ps y
    kept y = cases (λ z. root ps (parent (skipped ps x) z) ≡ root ps z) y
        (ap (root ps) (parent_set_same ps x (parent ps (parent ps x)) h) ∙ root_parent ps f (parent ps x) ∙ root_parent ps f x)
        (λ e. ap (root ps) (parent_set_other ps x (parent ps (parent ps x)) y e) ∙ root_parent ps f y)

    top : (y : ℕ) → parent (skipped ps x) y ≡ y → root ps y ≡ y
    top y = cases (λ z. parent (skipped ps x) z ≡ z → root ps z ≡ z) y
        (λ e. root_of_top ps x (let a = f x in let b = f (parent ps x) in omega (arith, a, b, e, parent_set_same ps x (parent ps (parent ps x)) h)))
        (λ d e. root_of_top ps y (sym (parent_set_other ps x (parent ps (parent ps x)) y d) ∙ e))

-- a root that leads to a lesser one
pub linked : (ps : List ℕ) (low high : ℕ) → IsForest ps → low < high → high < length ps → parent ps low ≡ low → parent ps high ≡ high
    → IsForest (led ps low high) × ((y : ℕ) → root (led ps low high) y ≡ joined low high (root ps) y)
linked ps low high f less h top_low top_high = (forest, λ y. root_is (led ps low high) forest (joined low high (root ps)) kept top y)
  where
    cases : (P : ℕ → Type 0) (y : ℕ) → P high → (y ≢ high → P y) → P y
    cases P y at_high at_other = elim (same_or_not y high) [ inl e ↦ subst P (sym e) at_high | inr e ↦ at_other e ]

    forest : IsForest (led ps low high)
    forest y = cases (λ z. parent (led ps low high) z ≤ z) y
        (omega (arith, less, parent_set_same ps high low h))
        (λ e. omega (arith, f y, parent_set_other ps high low y e))

    is_high : (z : ℕ) → root ps z ≡ high → joined low high (root ps) z ≡ low
    is_high z e = ap (λ b. cond b low (root ps z)) (eq-eqb (root ps z) high e)

    not_high : (z : ℕ) → root ps z ≢ high → joined low high (root ps) z ≡ root ps z
    not_high z e = by (nat_eq (root ps z) high) refl
      where
        by : (b : Bool) → nat_eq (root ps z) high ≡ b → cond b low (root ps z) ≡ root ps z
        by true q = absurd (e (eqb-true (root ps z) high q))
        by false q = refl

    kept : (y : ℕ) → joined low high (root ps) (parent (led ps low high) y) ≡ joined low high (root ps) y
    kept y = cases (λ z. joined low high (root ps) (parent (led ps low high) z) ≡ joined low high (root ps) z) y
        (let at_low : root ps low ≡ low = root_of_top ps low top_low in
        ap (joined low high (root ps)) (parent_set_same ps high low h)
        ∙ not_high low (λ e. absurd (omega (arith, e, at_low, less))) ∙ at_low ∙ sym (is_high high (root_of_top ps high top_high)))
        (λ e. ap (joined low high (root ps)) (parent_set_other ps high low y e) ∙ ap (λ z. cond (nat_eq z high) low z) (root_parent ps f y))

    top : (y : ℕ) → parent (led ps low high) y ≡ y → joined low high (root ps) y ≡ y
    top y = cases (λ z. parent (led ps low high) z ≡ z → joined low high (root ps) z ≡ z) y
        (λ e. absurd (omega (arith, e, less, parent_set_same ps high low h)))
        (λ d e. let at : root ps y ≡ y = root_of_top ps y (sym (parent_set_other ps high low y d) ∙ e) in not_high y (λ q. d (sym at ∙ q)) ∙ at)
