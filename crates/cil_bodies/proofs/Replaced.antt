-- Device: a list whose items are put for others one by one, from the first.
use Rattle.std.proofs.Common.{◌≡◌, ℕ, zero, suc, ◌+◌, ◌<◌, ◌≤◌, List, [], ◌∷◌, length, get_or, slice_set, refl, sym, ◌∙◌, add-one, subst, arith, Result, Ok, Err, OnOk}
use Rattle.std.proofs.lemmas.List.{length-set, get_or-set_other}

-- the items below a place are put for others, and those from it on are as they were
abbrev pub Replaced : {T : Type 0} → (T → T → Type 0) → ℕ → List T → List T → Type 0
Replaced P i [] [] = Unit {0}
Replaced P i [] (y ∷ ys) = ⊥
Replaced P i (x ∷ xs) [] = ⊥
Replaced P zero (x ∷ xs) (y ∷ ys) = (y ≡ x) × Replaced P zero xs ys
Replaced P (suc i) (x ∷ xs) (y ∷ ys) = P x y × Replaced P i xs ys

pub replaced_start : {T : Type 0} (P : T → T → Type 0) (xs : List T) → Replaced P 0 xs xs
replaced_start P [] = tt
replaced_start P (x ∷ xs) = (refl, replaced_start P xs)

next : {T : Type 0} (P : T → T → Type 0) (i : ℕ) (xs ys : List T) (d y : T) → i < length xs → Replaced P i xs ys → P (get_or ys i d) y → Replaced P (suc i) xs (slice_set ys i y)
next P i [] ys d y less before is = absurd (omega arith)
next P i (x ∷ xs) [] d y less before is = absurd before
next P zero (x ∷ xs) (z ∷ zs) d y less before is = (subst (λ w. P w y) before.0 is, before.1)
next P (suc i) (x ∷ xs) (z ∷ zs) d y less before is = (before.0, next P i xs zs d y (omega arith) before.1 is)

pub replaced_next : {T : Type 0} (P : T → T → Type 0) (i : ℕ) (xs ys : List T) (d y : T) → i < length xs → Replaced P i xs ys → P (get_or ys i d) y → Replaced P (i + 1) xs (slice_set ys i y)
replaced_next P i xs ys d y less before is = subst (λ j. Replaced P j xs (slice_set ys i y)) (sym (add-one i)) (next P i xs ys d y less before is)

-- what one step leaves, where it succeeds
pub on_ok : {T E : Type 0} {P Q : Type 0} (r : Result T E) → (P → Q) → OnOk r P → OnOk r Q
on_ok (Ok x) f p = f p
on_ok (Err e) f p = p

-- what a loop that changes an item has not come to is as it was
pub unvisited_next : {T : Type 0} (i : ℕ) (xs ys : List T) (y : T) → (length ys ≡ length xs) × ((k : ℕ) (d : T) → i ≤ k → get_or ys k d ≡ get_or xs k d)
    → (length (slice_set ys i y) ≡ length xs) × ((k : ℕ) (d : T) → i + 1 ≤ k → get_or (slice_set ys i y) k d ≡ get_or xs k d)
unvisited_next i xs ys y before = (length-set ys i y ∙ before.0, λ k d le. get_or-set_other ys i k y d (omega (arith, le)) ∙ before.1 k d (omega (arith, le)))
