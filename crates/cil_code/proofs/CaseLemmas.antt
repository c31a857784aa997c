-- Device: a sorted table of cases leads each value where the table does that it comes from.
use Rattle.std.proofs.Common.{◌≡◌, ◌≢◌, ℕ, zero, suc, ◌<◌, ◌≤◌, Bool, true, false, cond, ◌&&◌, not, List, [], ◌∷◌, length, get_or, refl, sym, ap, ◌∙◌, subst, arith, ℤ, ◌⊎◌, inl, inr, Less, Equal, Greater}
use Rattle.std.specs.Prelude.{int_lt}
use Rattle.std.specs.Ordering.{int_cmp, int_eq, is_lt, is_eq}
use Rattle.std.specs.List.{All, filter}
use Rattle.std.specs.List.Sorted.{IsPermutation, IsSortedByKey, IsStableByKey, IsPartitionedBy, IsPartitionPoint, ties}
use Rattle.std.specs.Cmp.{IsStrictWeakOrder}
use Rattle.std.proofs.lemmas.Cmp.{int_cmp_total}
use Rattle.std.proofs.lemmas.Bool.Decides.{Decides-int_eq}
use Rattle.std.proofs.lemmas.Bool.{cases_lt}
use Rattle.std.proofs.lemmas.Int.{ints}
use Rattle.std.proofs.lemmas.List.Elements.{All-nil, All-cons, All-head, All-tail}
use Rattle.std.proofs.lemmas.List.Sorted.{All-permutation, ranks_by, sorted_far}
use Rattle.cil_control.specs.Flat.{place_by, place_for}
use Rattle.cil_control.specs.Leading.{further, table_leads}
use Rattle.cil_control.proofs.Leads.{both_of}

-- one case comes before another by its value
abbrev before : ℤ × ℕ → ℤ × ℕ → Bool
before x y = is_lt (int_cmp x.0 y.0)

before_order : IsStrictWeakOrder before
before_order = ranks_by int_cmp_total (λ x. x.0)

-- cases tie that have one value
tied : (v : ℤ) (p : ℕ) (x : ℤ × ℕ) → ties before (v, p) x ≡ int_eq x.0 v
tied v p x = by (int_lt v x.0) (int_lt x.0 v)
  where
    by : (b c : Bool) → (not (is_lt (cond b Less (cond c Greater Equal))) && not (is_lt (cond c Less (cond b Greater Equal)))) ≡ is_eq (cond c Less (cond b Greater Equal))
    by true true = refl
    by true false = refl
    by false true = refl
    by false false = refl

-- only the cases with its value lead a value
kept : (v : ℤ) (other : ℕ) (xs : List (ℤ × ℕ)) → place_for v (filter (ties before (v, 0)) xs) other ≡ place_for v xs other
kept v other [] = refl
kept v other (x ∷ xs) = by (ties before (v, 0) x) (tied v 0 x) (kept v other xs)
  where
    by : (b : Bool) → b ≡ int_eq x.0 v → place_for v (filter (ties before (v, 0)) xs) other ≡ place_for v xs other
        → place_for v (cond b (x ∷ filter (ties before (v, 0)) xs) (filter (ties before (v, 0)) xs)) other ≡ place_by (int_eq x.0 v) x.1 (place_for v xs other)
    by true e rest = ap (λ (o : ℕ). place_by (int_eq x.0 v) x.1 o) rest
    by false e rest = rest ∙ ap (λ b. place_by b x.1 (place_for v xs other)) e

-- a stable sort leaves each value its place
pub sorted_leads : (xs ys : List (ℤ × ℕ)) → IsStableByKey (λ (x : ℤ × ℕ). x.0) int_cmp xs ys → (v : ℤ) (other : ℕ) → place_for v ys other ≡ place_for v xs other
sorted_leads xs ys stable v other = sym (kept v other ys) ∙ (ap (λ zs. place_for v zs other) (stable (v, 0)) ∙ kept v other xs)

-- a table leads on where each of its cases does
each_leads : (n p : ℕ) (xs : List (ℤ × ℕ)) → table_leads n p xs ≡ true → All (λ x. further n p x.1 ≡ true) xs
each_leads n p [] h = All-nil (λ x. further n p x.1 ≡ true)
each_leads n p (x ∷ xs) h =
    let two = both_of (further n p x.1) (table_leads n p xs) h in
    All-cons (λ x. further n p x.1 ≡ true) x xs two.0 (each_leads n p xs two.1)

all_lead : (n p : ℕ) (xs : List (ℤ × ℕ)) → All (λ x. further n p x.1 ≡ true) xs → table_leads n p xs ≡ true
all_lead n p [] h = refl
all_lead n p (x ∷ xs) h = ap (λ b. b && table_leads n p xs) (All-head (λ x. further n p x.1 ≡ true) x xs h) ∙ all_lead n p xs (All-tail (λ x. further n p x.1 ≡ true) x xs h)

pub permuted_leads : (xs ys : List (ℤ × ℕ)) → IsPermutation xs ys → (n p : ℕ) → table_leads n p xs ≡ true → table_leads n p ys ≡ true
permuted_leads xs ys moved n p h = all_lead n p ys (All-permutation (λ x. further n p x.1 ≡ true) xs ys moved (each_leads n p xs h))

-- a value that no case has leads on
nowhere : (v : ℤ) (other : ℕ) (xs : List (ℤ × ℕ)) → All (λ x. int_eq x.0 v ≡ false) xs → place_for v xs other ≡ other
nowhere v other [] h = refl
nowhere v other (x ∷ xs) h = ap (λ b. place_by b x.1 (place_for v xs other)) (All-head (λ x. int_eq x.0 v ≡ false) x xs h) ∙ nowhere v other xs (All-tail (λ x. int_eq x.0 v ≡ false) x xs h)

lower : (a v : ℤ) → int_lt a v ≡ true → int_eq a v ≡ false
lower a v h = ap (λ b. is_eq (cond b Less (cond (int_lt v a) Greater Equal))) h

-- what is no lower than a higher value is not the value
higher : (a b v : ℤ) → is_lt (int_cmp a b) ≡ false → int_lt b v ≡ false → b ≢ v → int_eq a v ≡ false
higher a b v h l e = grind (arith, ints, Decides-int_eq)

-- the cases of lower values stand below k, and the others from it on
abbrev Lower : ℤ → List (ℤ × ℕ) → ℕ → Type 0
Lower v xs k = IsPartitionPoint (λ x. int_lt x.0 v ≡ true) (λ x. int_lt x.0 v ≡ false) xs k

rest_point : (v : ℤ) (x : ℤ × ℕ) (xs : List (ℤ × ℕ)) (k : ℕ) → Lower v (x ∷ xs) (suc k) → Lower v xs k
rest_point v x xs k point = (λ j d l h. point.0 (suc j) d (omega arith) (omega arith), λ j d l h. point.1 (suc j) d (omega arith) (omega arith))

-- the first of the others leads the value, where it has it
pub found : (v : ℤ) (other k : ℕ) (xs : List (ℤ × ℕ)) (x : ℤ × ℕ) → Lower v xs k → k < length xs → x ≡ get_or xs k x → x.0 ≡ v → x.1 ≡ place_for v xs other
found v other k [] x point h at is = absurd (omega arith)
found v other zero (y ∷ xs) x point h at is =
    let equal : int_eq y.0 v ≡ true = (Decides-int_eq y.0 v).1 (ap (λ (z : ℤ × ℕ). z.0) (sym at) ∙ is) in
    ap (λ (z : ℤ × ℕ). z.1) at ∙ sym (ap (λ b. place_by b y.1 (place_for v xs other)) equal)
found v other (suc k) (y ∷ xs) x point h at is =
    found v other k xs x (rest_point v y xs k point) (omega arith) at is ∙ sym (ap (λ b. place_by b y.1 (place_for v xs other)) (lower y.0 v (point.0 0 y (omega arith) (omega arith))))

-- else no case has it
pub passed : (v : ℤ) (other k : ℕ) (xs : List (ℤ × ℕ)) (x : ℤ × ℕ) → IsSortedByKey (λ (x : ℤ × ℕ). x.0) int_cmp xs → Lower v xs k → k < length xs → ((d : ℤ × ℕ) → x ≡ get_or xs k d) → x.0 ≢ v → other ≡ place_for v xs other
passed v other k xs x up point there at apart = sym (nowhere v other xs (λ j d h. by j d h (cases_lt j k)))
  where
    by : (j : ℕ) (d : ℤ × ℕ) → j < length xs → (j < k) ⊎ (k ≤ j) → int_eq (get_or xs j d).0 v ≡ false
    by j d h (inl l) = lower (get_or xs j d).0 v (point.0 j d (omega arith) l)
    by j d h (inr l) =
        higher (get_or xs j d).0 x.0 v (subst (λ (z : ℤ × ℕ). before (get_or xs j d) z ≡ false) (sym (at d)) (sorted_far before before_order xs up k j d l h))
        (subst (λ (z : ℤ × ℕ). int_lt z.0 v ≡ false) (sym (at d)) (point.1 k d (omega arith) there)) apart

-- nor where all are lower
pub ended : (v : ℤ) (other k : ℕ) (xs : List (ℤ × ℕ)) → Lower v xs k → length xs ≤ k → other ≡ place_for v xs other
ended v other k xs point past = sym (nowhere v other xs (λ j d h. lower (get_or xs j d).0 v (point.0 j d (omega arith) (omega arith))))

below : (a b v : ℤ) → is_lt (int_cmp a b) ≡ false → int_lt a v ≡ true → int_lt b v ≡ true
below a b v h l = grind (arith, ints)

-- the cases of lower values stand before the others
pub parted : (v : ℤ) (xs : List (ℤ × ℕ)) → IsSortedByKey (λ (x : ℤ × ℕ). x.0) int_cmp xs → IsPartitionedBy (λ (x : ℤ × ℕ). int_lt x.0 v) xs
parted v xs up = λ i j d l h e. below (get_or xs j d).0 (get_or xs i d).0 v (sorted_far before before_order xs up i j d l h) e
