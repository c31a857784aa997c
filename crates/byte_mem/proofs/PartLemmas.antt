-- Device: laws of parts of a list of bytes that stand beside one another.
use Rattle.std.proofs.Common.{◌≡◌, ℕ, zero, suc, ◌+◌, ◌≤◌, List, [], ◌∷◌, ◌++◌, length, take, drop, refl, sym, ap, ◌∙◌, arith}
use Rattle.std.proofs.lemmas.List.{length-take, length-drop}
use Rattle.std.proofs.lemmas.Slice.{drop-append-drop}
use Rattle.std.proofs.Math.Seq.{drop-append_seam, take-length}
use Rattle.byte_mem.specs.declared.values.Byte.{Byte}
use Rattle.byte_mem.specs.Object.{part_at, with_part}

pub length_part : (s n : ℕ) (bs : List Byte) → s + n ≤ length bs → length (part_at s n bs) ≡ n
length_part s n bs h = omega (arith, length-take n (drop s bs), length-drop s bs)

take_take : (m n : ℕ) (bs : List Byte) → m ≤ n → take m (take n bs) ≡ take m bs
take_take zero n bs h = refl
take_take (suc m) zero bs h = absurd (omega arith)
take_take (suc m) (suc n) [] h = refl
take_take (suc m) (suc n) (b ∷ bs) h = ap (λ xs. b ∷ xs) (take_take m n bs (omega arith))

-- what is cut off behind a part does not change it
pub part_taken : (i m n : ℕ) (bs : List Byte) → i + m ≤ n → part_at i m (take n bs) ≡ part_at i m bs
part_taken zero m n bs h = take_take m n bs (omega arith)
part_taken (suc i) m zero bs h = absurd (omega arith)
part_taken (suc i) m (suc n) [] h = refl
part_taken (suc i) m (suc n) (b ∷ bs) h = part_taken i m n bs (omega arith)

drop_none : (i : ℕ) → drop {A = Byte} i [] ≡ []
drop_none zero = refl
drop_none (suc i) = refl

drop_twice : (s i : ℕ) (bs : List Byte) → drop i (drop s bs) ≡ drop (s + i) bs
drop_twice zero i bs = let e : i ≡ 0 + i = omega arith in ap (λ k. drop k bs) e
drop_twice (suc s) i [] = drop_none i ∙ sym (drop_none (suc s + i))
drop_twice (suc s) i (b ∷ bs) = let e : suc (s + i) ≡ suc s + i = omega arith in drop_twice s i bs ∙ ap (λ k. drop k (b ∷ bs)) e

-- a part of a part
pub part_of_part : (s n i m : ℕ) (bs : List Byte) → i + m ≤ n → part_at i m (part_at s n bs) ≡ part_at (s + i) m bs
part_of_part s n i m bs h = part_taken i m n (drop s bs) h ∙ ap (take m) (drop_twice s i bs)

take_over : (n : ℕ) (new bs : List Byte) → length new ≤ n → n ≤ length bs → take n (new ++ drop (length new) bs) ≡ new ++ drop (length new) (take n bs)
take_over n [] bs h g = refl
take_over zero (x ∷ new) bs h g = absurd (omega arith)
take_over (suc n) (x ∷ new) [] h g = absurd (omega arith)
take_over (suc n) (x ∷ new) (b ∷ bs) h g = ap (λ xs. x ∷ xs) (take_over n new bs (omega arith) (omega arith))

take_with : (i n : ℕ) (new bs : List Byte) → i + length new ≤ n → n ≤ length bs → take n (with_part i new bs) ≡ with_part i new (take n bs)
take_with zero n new bs h g = let e : 0 + length new ≡ length new = omega arith in rw e (take_over n new bs (omega arith) g)
take_with (suc i) zero new bs h g = absurd (omega arith)
take_with (suc i) (suc n) new [] h g = absurd (omega arith)
take_with (suc i) (suc n) new (b ∷ bs) h g =
    let e : suc i + length new ≡ suc (i + length new) = omega arith in
    rw e (ap (λ xs. b ∷ xs) (take_with i n new bs (omega arith) (omega arith)))

-- a part in which others are written
pub part_with : (s n i : ℕ) (new bs : List Byte) → i + length new ≤ n → s + n ≤ length bs → part_at s n (with_part (s + i) new bs) ≡ with_part i new (part_at s n bs)
part_with zero n i new bs h g = let e : 0 + i ≡ i = omega arith in rw e (take_with i n new bs h (omega arith))
part_with (suc s) n i new [] h g = absurd (omega arith)
part_with (suc s) n i new (b ∷ bs) h g =
    let e : suc s + i ≡ suc (s + i) = omega arith in
    let d : suc (s + i) + length new ≡ suc (s + i + length new) = omega arith in
    rw (e, d) (part_with s n i new bs h (omega arith))

take_before : (k : ℕ) (bs rest : List Byte) → k ≤ length bs → take k (take k bs ++ rest) ≡ take k bs
take_before zero bs rest h = refl
take_before (suc k) [] rest h = absurd (omega arith)
take_before (suc k) (b ∷ bs) rest h = ap (λ xs. b ∷ xs) (take_before k bs rest (omega arith))

-- a part before what is written
pub part_before : (s n k : ℕ) (new bs : List Byte) → s + n ≤ k → k ≤ length bs → part_at s n (with_part k new bs) ≡ part_at s n bs
part_before s n k new bs h g =
    sym (part_taken s n k (with_part k new bs) h) ∙ ap (part_at s n) (take_before k bs (new ++ drop (k + length new) bs) g) ∙ part_taken s n k bs h

drop_behind : (k s : ℕ) (new bs : List Byte) → k + length new ≤ s → k ≤ length bs → drop s (with_part k new bs) ≡ drop s bs
drop_behind zero s new bs h g = let e : 0 + length new ≡ length new = omega arith in rw e (drop-append-drop (length new) bs new s (omega arith) refl)
drop_behind (suc k) zero new bs h g = absurd (omega arith)
drop_behind (suc k) (suc s) new [] h g = absurd (omega arith)
drop_behind (suc k) (suc s) new (b ∷ bs) h g =
    let e : suc k + length new ≡ suc (k + length new) = omega arith in
    rw e (drop_behind k s new bs (omega arith) (omega arith))

-- a part behind it
pub part_behind : (s n k : ℕ) (new bs : List Byte) → k + length new ≤ s → k ≤ length bs → part_at s n (with_part k new bs) ≡ part_at s n bs
part_behind s n k new bs h g = ap (take n) (drop_behind k s new bs h g)

-- a part of what goes on
pub part_grown : (s n : ℕ) (xs ys : List Byte) → take (length xs) ys ≡ xs → s + n ≤ length xs → part_at s n ys ≡ part_at s n xs
part_grown s n xs ys e h = sym (part_taken s n (length xs) ys h) ∙ ap (part_at s n) e

-- what was added at the end
pub part_added : (xs ys : List Byte) → part_at (length xs) (length ys) (xs ++ ys) ≡ ys
part_added xs ys = ap (take (length ys)) (drop-append_seam xs ys) ∙ take-length ys

pub goes_on_added : (xs ys : List Byte) → take (length xs) (xs ++ ys) ≡ xs
goes_on_added [] ys = refl
goes_on_added (x ∷ xs) ys = ap (λ zs. x ∷ zs) (goes_on_added xs ys)
