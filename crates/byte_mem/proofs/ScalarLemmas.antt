-- Device: laws of the bytes of scalars, one byte at a time.
use Rattle.std.proofs.Common.{◌≡◌, ℕ, zero, suc, ◌+◌, ◌-◌, ◌*◌, ◌/◌, ◌%◌, ◌^◌, ◌<◌, ◌≤◌, Bool, true, false, ◌&&◌, nat_eq, List, [], ◌∷◌, ◌++◌, length, get_or, set, take, drop, replicate, refl, sym, ap, ◌∙◌, arith, add-one, add-zero, pow-suc, lit<}
use Rattle.std.proofs.Math.Nat.{pow-le-pow_right}
use Rattle.std.proofs.lemmas.Option.{none-some}
use Rattle.std.proofs.lemmas.List.{length-set, length-take, length-drop, get_or-take, get_or-drop, append_assoc, take-append-drop, drop_more, drop-set-lt, take_more_set, take_more}
use Rattle.byte_mem.specs.declared.pointers.Pointer.{Pointer}
use Rattle.byte_mem.specs.declared.values.Byte.{Byte}
use Rattle.byte_mem.specs.declared.values.Byte.TheVariants.{Known, Unknown, Part}
use Rattle.byte_mem.specs.Contents.{is_part}
use Rattle.byte_mem.specs.Name.{same_pointer}
use Rattle.byte_mem.specs.Scalar.{parts_of, goes_on}
use Rattle.byte_mem.specs.Object.{part_at, with_part}

-- the first of some bytes, and the others
pub part_first : (xs : List Byte) (at n : ℕ) (d : Byte) → at < length xs → part_at at (suc n) xs ≡ get_or xs at d ∷ part_at (at + 1) n xs
part_first xs at n d h = ap (take (suc n)) (drop_more xs at d h)

-- the first of what remains, and the others
pub part_of_some : (xs : List Byte) (at k n : ℕ) (d : Byte) → at + n ≤ length xs → k < n → part_at (at + k) (n - k) xs ≡ get_or xs (at + k) d ∷ part_at (at + (k + 1)) (n - (k + 1)) xs
part_of_some xs at k n d h g =
    let e : n - k ≡ suc (n - (k + 1)) = omega arith in
    let i : at + k + 1 ≡ at + (k + 1) = omega arith in
    rw e (part_first xs (at + k) (n - (k + 1)) d (omega arith) ∙ ap (λ j. get_or xs (at + k) d ∷ part_at j (n - (k + 1)) xs) i)

-- the first part of a pointer, and the others
pub part_goes_on : (p : Pointer) (k : ℕ) (b : Byte) (bs : List Byte) → goes_on p k (b ∷ bs) ≡ (is_part p k b && goes_on p (k + 1) bs)
part_goes_on p k (Known b) bs = refl
part_goes_on p k Unknown bs = refl
part_goes_on p k (Part q j) bs = ap (λ i. same_pointer p q && (nat_eq k j && goes_on p i bs)) (sym (add-one k)) ∙ grouped (same_pointer p q) (nat_eq k j) (goes_on p (k + 1) bs)
  where
    grouped : (t u v : Bool) → (t && (u && v)) ≡ ((t && u) && v)
    grouped true u v = refl
    grouped false u v = refl

pub with_part_none : (at : ℕ) (xs : List Byte) → with_part at [] xs ≡ xs
with_part_none at xs = ap (λ j. take at xs ++ drop j xs) (add-zero at) ∙ take-append-drop at xs

-- a byte is written, and the others behind it
pub with_part_more : (at : ℕ) (b : Byte) (new xs : List Byte) → at < length xs → with_part (at + 1) new (set xs at b) ≡ with_part at (b ∷ new) xs
with_part_more at b new xs h =
    ap (λ ys. ys ++ (new ++ drop (at + 1 + length new) (set xs at b))) (take_more_set xs at b h)
    ∙ append_assoc (take at xs) (b ∷ []) (new ++ drop (at + 1 + length new) (set xs at b))
    ∙ ap (λ ys. take at xs ++ (b ∷ (new ++ ys))) (drop-set-lt (at + 1 + length new) xs at b (omega arith) ∙ ap (λ j. drop j xs) (omega arith))

-- one turn of a loop that writes
step : (xs ys new whole : List Byte) (b : Byte) (at k n : ℕ) → at + k < length xs → with_part (at + k) (b ∷ new) xs ≡ whole → length xs ≡ n → ys ≡ set xs (at + k) b
    → (with_part (at + (k + 1)) new ys ≡ whole) × (length ys ≡ n)
step xs ys new whole b at k n h e f g =
    let i : at + k + 1 ≡ at + (k + 1) = omega arith in
    (rw g (ap (λ j. with_part j new (set xs (at + k) b)) (sym i) ∙ with_part_more (at + k) b new xs h ∙ e), rw g (length-set xs (at + k) b ∙ f))

pub parts_step : (xs ys whole : List Byte) (at k n m : ℕ) (p : Pointer) → at + m ≤ n → k < m → with_part (at + k) (parts_of p k (m - k)) xs ≡ whole → length xs ≡ n → ys ≡ set xs (at + k) (Part p k)
    → (with_part (at + (k + 1)) (parts_of p (k + 1) (m - (k + 1))) ys ≡ whole) × (length ys ≡ n)
parts_step xs ys whole at k n m p h g e f d =
    let i : m - k ≡ suc (m - (k + 1)) = omega arith in
    step xs ys (parts_of p (k + 1) (m - (k + 1))) whole (Part p k) at k n (omega arith)
    (ap (λ j. with_part (at + k) (Part p k ∷ parts_of p j (m - (k + 1))) xs) (add-one k) ∙ (ap (λ j. with_part (at + k) (parts_of p k j) xs) (sym i) ∙ e)) f d

pub equal_step : (xs ys whole : List Byte) (at k n m : ℕ) (b : Byte) → at + m ≤ n → k < m → with_part (at + k) (replicate (m - k) b) xs ≡ whole → length xs ≡ n → ys ≡ set xs (at + k) b
    → (with_part (at + (k + 1)) (replicate (m - (k + 1)) b) ys ≡ whole) × (length ys ≡ n)
equal_step xs ys whole at k n m b h g e f d =
    let i : m - k ≡ suc (m - (k + 1)) = omega arith in
    step xs ys (replicate (m - (k + 1)) b) whole b at k n (omega arith) (ap (λ j. with_part (at + k) (replicate j b) xs) (sym i) ∙ e) f d

pub bytes_step : (xs ys new whole : List Byte) (at k n : ℕ) (b : Byte) → at + length new ≤ n → k < length new → b ≡ get_or new k b → with_part (at + k) (drop k new) xs ≡ whole → length xs ≡ n → ys ≡ set xs (at + k) b
    → (with_part (at + (k + 1)) (drop (k + 1) new) ys ≡ whole) × (length ys ≡ n)
bytes_step xs ys new whole at k n b h g r e f d =
    step xs ys (drop (k + 1) new) whole b at k n (omega arith) (ap (λ bs. with_part (at + k) bs xs) (ap (λ x. x ∷ drop (k + 1) new) r ∙ sym (drop_more new k b g)) ∙ e) f d

-- one byte more of a part
pub part_push : (xs : List Byte) (at k : ℕ) (d : Byte) → at + k < length xs → part_at at (k + 1) xs ≡ part_at at k xs ++ get_or xs (at + k) d ∷ []
part_push xs at k d h =
    take_more (drop at xs) k d (omega (arith, length-drop at xs)) ∙ ap (λ b. part_at at k xs ++ b ∷ []) (get_or-drop at xs k d)
