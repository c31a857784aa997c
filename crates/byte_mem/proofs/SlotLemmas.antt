-- Device: laws of the pages of a list of objects.
use Rattle.std.proofs.Common.{◌≡◌, ◌≢◌, ◌⊎◌, inl, inr, ℕ, zero, suc, ◌<◌, ◌≤◌, ◌/◌, ◌%◌, Bool, true, false, cond, List, [], ◌∷◌, ◌++◌, length, get_or, set, take, Option, Some, None, IsSome, IsErr, Result, Ok, Err, refl, sym, ap, ◌∙◌, subst, arith}
use Rattle.std.specs.Prelude.{nat_eq}
use Rattle.std.specs.declared.alloc.AllocError.{AllocError}
use Rattle.std.proofs.lemmas.Bool.{cases_lt, false≢true}
use Rattle.std.proofs.lemmas.Bool.Decides.{nat_tests}
use Rattle.std.proofs.lemmas.List.{get_or_default, get_or_past, get_or-take, get_or-set_same, get_or-set_other, set-get_or, length-take}
use Rattle.byte_mem.specs.Object.{Held}
use Rattle.byte_mem.specs.Layers.{slot, page_at, paged, IsPut, SlotChanges, SlotPut, IsPagedPut, PagedChanges, PagedPut}

-- an empty page at the end changes nothing
pub page_push : (xs : List (List (Option Held))) (k : ℕ) → page_at (xs ++ [] ∷ []) k ≡ page_at xs k
page_push [] zero = refl
page_push [] (suc k) = refl
page_push (x ∷ xs) zero = refl
page_push (x ∷ xs) (suc k) = page_push xs k

pub page_past : (xs : List (List (Option Held))) (k : ℕ) → length xs ≤ k → page_at xs k ≡ []
page_past xs k h = get_or_past xs k [] h

page_taken : (xs : List (List (Option Held))) (n k : ℕ) → ((j : ℕ) → n ≤ j → page_at xs j ≡ []) → page_at (take n xs) k ≡ page_at xs k
page_taken xs n k h = by (cases_lt k n)
  where
    by : (k < n) ⊎ (n ≤ k) → page_at (take n xs) k ≡ page_at xs k
    by (inl lt) = get_or-take n xs k [] lt
    by (inr ge) = get_or_past (take n xs) k [] (omega (arith, length-take n xs)) ∙ sym (h k ge)

-- nor do empty pages that are taken away
pub paged_taken : (xs : List (List (Option Held))) (n i : ℕ) → ((j : ℕ) → n ≤ j → page_at xs j ≡ []) → paged (take n xs) i ≡ paged xs i
paged_taken xs n i h = ap (λ (page : List (Option Held)). slot page (i % 64)) (page_taken xs n (i / 64) h)

pub paged_same : (old new : List (List (Option Held))) (i : ℕ) → ((k : ℕ) → page_at new k ≡ page_at old k) → paged new i ≡ paged old i
paged_same old new i h = ap (λ (page : List (Option Held)). slot page (i % 64)) (h (i / 64))

pub paged_past : (xs : List (List (Option Held))) (i : ℕ) → length xs ≤ i / 64 → paged xs i ≡ None
paged_past xs i h = ap (λ (page : List (Option Held)). slot page (i % 64)) (page_past xs (i / 64) h)

numbers_same : (a b : ℕ) → nat_eq a b ≡ true → a ≡ b
numbers_same a b e = grind (arith, nat_tests)

numbers_other : (a b : ℕ) → nat_eq a b ≡ false → a ≢ b
numbers_other a b e = grind (arith, nat_tests)

equal_numbers : (a b : ℕ) → a ≡ b → nat_eq a b ≡ true
equal_numbers a b e = grind (arith, nat_tests)

other_numbers : (a b : ℕ) → a ≢ b → nat_eq a b ≡ false
other_numbers a b e = grind (arith, nat_tests)

pub page_read : (xs : List (List (Option Held))) (k : ℕ) (page : List (Option Held)) → k < length xs → page ≡ get_or xs k page → page ≡ page_at xs k
page_read xs k page h e = e ∙ sym (get_or_default xs k [] page h)

-- for want of memory nothing changes
pub put_failed : (r : Result (Unit {0}) AllocError) (old new : List (Option Held)) (i : ℕ) (o : Option Held) → IsErr r → ((k : ℕ) → slot new k ≡ slot old k) → SlotPut r old new i o
put_failed (Ok u) old new i o e h = absurd (false≢true e)
put_failed (Err failed) old new i o e h = h

pub paged_failed : (r : Result (Unit {0}) AllocError) (old new : List (List (Option Held))) (i : ℕ) (o : Option Held) → IsErr r → ((k : ℕ) → page_at new k ≡ page_at old k) → PagedPut r old new i o
paged_failed (Ok u) old new i o e h = absurd (false≢true e)
paged_failed (Err failed) old new i o e h = λ k. paged_same old new k h

-- a page that is set
pub paged_put : (xs : List (List (Option Held))) (i : ℕ) (page new : List (Option Held)) (o : Option Held) → i / 64 < length xs → page ≡ page_at xs (i / 64) → IsPut page new (i % 64) o → IsPagedPut xs (set xs (i / 64) new) i o
paged_put xs i page new o l here h k = by (nat_eq (i / 64) (k / 64)) refl
  where
    same : i / 64 ≡ k / 64 → (t : Bool) → nat_eq (i % 64) (k % 64) ≡ t → cond t o (slot page (k % 64)) ≡ cond (nat_eq i k) o (paged xs k)
    same e true c =
        let m : i % 64 ≡ k % 64 = numbers_same (i % 64) (k % 64) c in
        let n : i ≡ k = omega arith in
        sym (ap (λ t. cond t o (paged xs k)) (equal_numbers i k n))
    same e false c =
        let m : i % 64 ≢ k % 64 = numbers_other (i % 64) (k % 64) c in
        let n : i ≢ k = λ f. m (ap (λ j. j % 64) f) in
        ap (λ (p : List (Option Held)). slot p (k % 64)) (here ∙ ap (page_at xs) e) ∙ sym (ap (λ t. cond t o (paged xs k)) (other_numbers i k n))

    by : (t : Bool) → nat_eq (i / 64) (k / 64) ≡ t → paged (set xs (i / 64) new) k ≡ cond (nat_eq i k) o (paged xs k)
    by true c =
        let e : i / 64 ≡ k / 64 = numbers_same (i / 64) (k / 64) c in
        ap (λ (p : List (Option Held)). slot p (k % 64)) (ap (page_at (set xs (i / 64) new)) (sym e) ∙ get_or-set_same xs (i / 64) new [] l) ∙ h (k % 64) ∙ same e (nat_eq (i % 64) (k % 64)) refl
    by false c =
        let ne : i / 64 ≢ k / 64 = numbers_other (i / 64) (k / 64) c in
        let n : i ≢ k = λ f. ne (ap (λ j. j / 64) f) in
        ap (λ (p : List (Option Held)). slot p (k % 64)) (get_or-set_other xs (i / 64) (k / 64) new [] (λ f. ne (sym f))) ∙ sym (ap (λ t. cond t o (paged xs k)) (other_numbers i k n))

pub paged_changed : (r : Option (Unit {0})) (xs : List (List (Option Held))) (i : ℕ) (page new : List (Option Held)) (f : Option Held → Option Held) → i / 64 < length xs → page ≡ page_at xs (i / 64) → SlotChanges r page new (i % 64) (f (slot page (i % 64)))
    → PagedChanges r xs (set xs (i / 64) new) i (f (paged xs i))
paged_changed None xs i page new f l here h =
    (ap (λ (p : List (Option Held)). f (slot p (i % 64))) (sym here) ∙ h.0, ap (λ (p : List (Option Held)). set xs (i / 64) p) (h.1 ∙ here) ∙ set-get_or xs (i / 64) [])
paged_changed (Some u) xs i page new f l here h =
    let same : f (slot page (i % 64)) ≡ f (paged xs i) = ap (λ (p : List (Option Held)). f (slot p (i % 64))) here in
    (subst (λ (o : Option Held). IsSome o) same h.0, subst (λ (o : Option Held). IsPagedPut xs (set xs (i / 64) new) i o) same (paged_put xs i page new (f (slot page (i % 64))) l here h.1))

-- a page whose objects are as they were
paged_kept : (xs : List (List (Option Held))) (i : ℕ) (page new : List (Option Held)) → i / 64 < length xs → page ≡ page_at xs (i / 64) → ((j : ℕ) → slot new j ≡ slot page j) → (k : ℕ) → paged (set xs (i / 64) new) k ≡ paged xs k
paged_kept xs i page new l here h k = by (nat_eq (i / 64) (k / 64)) refl
  where
    by : (t : Bool) → nat_eq (i / 64) (k / 64) ≡ t → paged (set xs (i / 64) new) k ≡ paged xs k
    by true c =
        let e : i / 64 ≡ k / 64 = numbers_same (i / 64) (k / 64) c in
        ap (λ (p : List (Option Held)). slot p (k % 64)) (ap (page_at (set xs (i / 64) new)) (sym e) ∙ get_or-set_same xs (i / 64) new [] l) ∙ h (k % 64)
        ∙ ap (λ (p : List (Option Held)). slot p (k % 64)) (here ∙ ap (page_at xs) e)
    by false c =
        let ne : i / 64 ≢ k / 64 = numbers_other (i / 64) (k / 64) c in
        ap (λ (p : List (Option Held)). slot p (k % 64)) (get_or-set_other xs (i / 64) (k / 64) new [] (λ f. ne (sym f)))

pub paged_set : (r : Result (Unit {0}) AllocError) (old xs : List (List (Option Held))) (i : ℕ) (page new : List (Option Held)) (o : Option Held) → ((k : ℕ) → page_at xs k ≡ page_at old k) → i / 64 < length xs → page ≡ page_at xs (i / 64) → SlotPut r page new (i % 64) o
    → PagedPut r old (set xs (i / 64) new) i o
paged_set (Ok u) old xs i page new o e l here h = λ k. paged_put xs i page new o l here h k ∙ ap (λ (x : Option Held). cond (nat_eq i k) o x) (paged_same old xs k e)
paged_set (Err failed) old xs i page new o e l here h = λ k. paged_kept xs i page new l here h k ∙ paged_same old xs k e

-- no object is past the last page
pub paged_nowhere : (xs : List (List (Option Held))) (i : ℕ) → length xs ≤ i / 64 → IsPagedPut xs xs i None
paged_nowhere xs i h k = by (nat_eq i k) refl
  where
    by : (t : Bool) → nat_eq i k ≡ t → paged xs k ≡ cond t None (paged xs k)
    by true e = ap (paged xs) (sym (numbers_same i k e)) ∙ paged_past xs i h
    by false e = refl
