-- Device: a list whose items are put for others one by one, from the first.
use Rattle.std.proofs.Common.{◌≡◌, ℕ, zero, suc, ◌+◌, ◌<◌, ◌≤◌, List, [], ◌∷◌, length, get_or, slice_set, refl, sym, ap, add-one, subst, arith}
use Rattle.static_rename.specs.Within.{Each}

-- the items below a place are put for others, and those from it on are as they were
abbrev pub UpTo : {T : Type 0} → (ℕ → T → T → Type 0) → ℕ → List T → List T → Type 0
UpTo P i [] [] = Unit {0}
UpTo P i [] (y ∷ ys) = ⊥
UpTo P i (x ∷ xs) [] = ⊥
UpTo P zero (x ∷ xs) (y ∷ ys) = (y ≡ x) × UpTo (λ k. P (suc k)) zero xs ys
UpTo P (suc i) (x ∷ xs) (y ∷ ys) = P 0 x y × UpTo (λ k. P (suc k)) i xs ys

pub none_yet : {T : Type 0} (P : ℕ → T → T → Type 0) (xs : List T) → UpTo P 0 xs xs
none_yet P [] = tt
none_yet P (x ∷ xs) = (refl, none_yet (λ k. P (suc k)) xs)

rest : {T : Type 0} (P Q : ℕ → T → T → Type 0) (xs ys : List T) → UpTo P zero xs ys → UpTo Q zero xs ys
rest P Q [] [] all = tt
rest P Q [] (y ∷ ys) all = absurd all
rest P Q (x ∷ xs) [] all = absurd all
rest P Q (x ∷ xs) (y ∷ ys) all = (all.0, rest (λ k. P (suc k)) (λ k. Q (suc k)) xs ys all.1)

next : {T : Type 0} (P Q : ℕ → T → T → Type 0) (i : ℕ) (xs ys : List T) (d y : T) → ((k : ℕ) (a b : T) → P k a b → Q k a b) → i < length xs → UpTo P i xs ys → Q i (get_or ys i d) y → UpTo Q (suc i) xs (slice_set ys i y)
next P Q i [] ys d y more less before is = absurd (omega arith)
next P Q i (x ∷ xs) [] d y more less before is = absurd before
next P Q zero (x ∷ xs) (z ∷ zs) d y more less before is = (subst (λ w. Q 0 w y) before.0 is, rest (λ k. P (suc k)) (λ k. Q (suc k)) xs zs before.1)
next P Q (suc i) (x ∷ xs) (z ∷ zs) d y more less before is = (more 0 x z before.0, next (λ k. P (suc k)) (λ k. Q (suc k)) i xs zs d y (λ k. more (suc k)) (omega arith) before.1 is)

pub each_next : {T : Type 0} (P Q : ℕ → T → T → Type 0) (i : ℕ) (xs ys : List T) (d y : T) → ((k : ℕ) (a b : T) → P k a b → Q k a b) → i < length xs → UpTo P i xs ys → Q i (get_or ys i d) y → UpTo Q (i + 1) xs (slice_set ys i y)
each_next P Q i xs ys d y more less before is = subst (λ j. UpTo Q j xs (slice_set ys i y)) (sym (add-one i)) (next P Q i xs ys d y more less before is)

pub each_of : {T : Type 0} (P : T → T → Type 0) (i : ℕ) (xs ys : List T) → length xs ≤ i → UpTo (λ k. P) i xs ys → Each P xs ys
each_of P i [] [] past all = tt
each_of P i [] (y ∷ ys) past all = absurd all
each_of P i (x ∷ xs) [] past all = absurd all
each_of P zero (x ∷ xs) (y ∷ ys) past all = absurd (omega arith)
each_of P (suc i) (x ∷ xs) (y ∷ ys) past all = (all.0, each_of P i xs ys (omega arith) all.1)

pub as_many : {T : Type 0} (P : ℕ → T → T → Type 0) (i : ℕ) (xs ys : List T) → UpTo P i xs ys → length ys ≡ length xs
as_many P i [] [] all = refl
as_many P i [] (y ∷ ys) all = absurd all
as_many P i (x ∷ xs) [] all = absurd all
as_many P zero (x ∷ xs) (y ∷ ys) all = ap suc (as_many (λ k. P (suc k)) zero xs ys all.1)
as_many P (suc i) (x ∷ xs) (y ∷ ys) all = ap suc (as_many (λ k. P (suc k)) i xs ys all.1)
