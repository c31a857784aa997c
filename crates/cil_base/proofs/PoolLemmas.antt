-- Device: lemmas on lists of texts in which each stands once.
use Rattle.std.proofs.Common.{◌≡◌, ℕ, zero, suc, ◌<◌, Bool, true, false, cond, List, [], ◌∷◌, ◌++◌, map, length, slice_get, Some, None, ◌⊎◌, inl, inr, refl, sym, ap, subst, ◌∙◌, true≢false, nat_lt, Contains, Result, Ok, Err, IfOk, OnErr, arith}
use borrow.Author.Tests.{ltb-true}
use Rattle.std.specs.List.{list_any, position, position_or_len, find}
use Rattle.std.specs.Option.{option_map}
use Rattle.std.specs.Str.{bytes_eq}
use Rattle.std.proofs.lemmas.List.Folds.{find_at}
use Rattle.std.proofs.lemmas.List.{map-append}
use Rattle.std.proofs.lemmas.Map.Keys.{any_passes_from_place}
use Rattle.std.proofs.lemmas.Option.{slice_get-map, get_or_from_slice_get}
use Rattle.std.proofs.lemmas.Slice.Eq.{bytes_eq-Decides}
use Rattle.cil_base.specs.declared.numbers.NameId.{NameId}
use Rattle.cil_base.specs.NamePool.{IsOnceEach, interned, interned_all, Interns, Stays}

-- what `find` finds passes the test
find_passes : {K : Type 0} (test : K → Bool) (ks : List K) (k : K) → find test ks ≡ Some k → test k ≡ true
find_passes test [] k e = cc
find_passes test (x ∷ xs) k e = by (find_passes test xs k) (test x) refl e
  where
    by : (find test xs ≡ Some k → test k ≡ true) → (b : Bool) → test x ≡ b → cond b (Some x) (find test xs) ≡ Some k → test k ≡ true
    by rest true q f = let same : x ≡ k = cc in subst (λ y. test y ≡ true) same q
    by rest false q f = rest f

-- a place below the length has an element
get_within : {K : Type 0} (ks : List K) (i : ℕ) → i < length ks → (k : K) × (slice_get ks i ≡ Some k)
get_within [] i h = absurd (omega arith)
get_within (x ∷ xs) zero h = (x, refl)
get_within (x ∷ xs) (suc i) h = get_within xs i (omega arith)

-- the place that `position` gives has an element that passes the test
position_passes : {K : Type 0} (test : K → Bool) (ks : List K) (i : ℕ) → Some i ≡ position test ks → (k : K) × (slice_get ks i ≡ Some k) × (test k ≡ true)
position_passes test ks i e = by (nat_lt (position_or_len test ks) (length ks)) refl e
  where
    by : (b : Bool) → nat_lt (position_or_len test ks) (length ks) ≡ b → Some i ≡ cond b (Some (position_or_len test ks)) None → (k : _) × (slice_get ks i ≡ Some k) × (test k ≡ true)
    by true q f =
        let same : i ≡ position_or_len test ks = cc in
        let found = get_within ks i (subst (λ n. n < length ks) (sym same) (ltb-true _ _ q)) in
        (found.0, found.1, find_passes test ks found.0 (find_at test ks ∙ ap (slice_get ks) (sym same) ∙ found.1))
    by false q f = cc

-- the pool's set finds a text where the list of its texts has it
pub found_text : {K : Type 0} (text_of : K → List ℕ) (text : List ℕ) (ks : List K) (i : ℕ) → Some i ≡ position (λ k. bytes_eq text (text_of k)) ks → slice_get (map text_of ks) i ≡ Some text
found_text text_of text ks i e =
    let found = position_passes (λ k. bytes_eq text (text_of k)) ks i e in
    slice_get-map text_of ks i ∙ ap (option_map text_of) found.1 ∙ ap Some (sym ((bytes_eq-Decides text (text_of found.0)).0 found.2))

pub list_any-map : {K X : Type 0} (f : K → X) (test : X → Bool) (ks : List K) → list_any test (map f ks) ≡ list_any (λ k. test (f k)) ks
list_any-map f test [] = refl
list_any-map f test (k ∷ ks) = rw (list_any-map f test ks)

-- a text that stands somewhere is found
pub list_any-get : (texts : List (List ℕ)) (i : ℕ) (text : List ℕ) → slice_get texts i ≡ Some text → list_any (bytes_eq text) texts ≡ true
list_any-get texts i text e = any_passes_from_place (bytes_eq text) texts i text e ((bytes_eq-Decides text text).1 refl)

-- what the set has after it took a new text
pub map-insert_new : {K : Type 0} (text_of : K → List ℕ) (ks new : List K) (v : K) (texts : List (List ℕ)) (text : List ℕ) → map text_of ks ≡ texts → text_of v ≡ text → list_any (bytes_eq text) texts ≡ false → new ≡ cond (list_any (λ k. bytes_eq (text_of v) (text_of k)) ks) ks (ks ++ v ∷ []) → map text_of new ≡ texts ++ text ∷ []
map-insert_new text_of ks new v texts text view is absent e =
    let none : list_any (bytes_eq (text_of v)) (map text_of ks) ≡ false = ap (λ t. list_any (bytes_eq t) (map text_of ks)) is ∙ ap (list_any (bytes_eq text)) view ∙ absent in
    let keys : new ≡ ks ++ v ∷ [] = e ∙ ap (λ b. cond b ks (ks ++ v ∷ [])) (sym (list_any-map text_of (bytes_eq (text_of v)) ks) ∙ none) in
    ap (map text_of) keys ∙ map-append text_of ks (v ∷ []) ∙ ap (λ (ts : List (List ℕ)). ts ++ text_of v ∷ []) view ∙ ap (λ t. texts ++ t ∷ []) is

pub get_stays : {K : Type 0} (xs ys : List K) (i : ℕ) (x : K) → slice_get xs i ≡ Some x → slice_get (xs ++ ys) i ≡ Some x
get_stays [] ys i x e = cc
get_stays (y ∷ xs) ys zero x e = e
get_stays (y ∷ xs) ys (suc i) x e = get_stays xs ys i x e

pub get_at_end : {K : Type 0} (xs : List K) (x : K) → slice_get (xs ++ x ∷ []) (length xs) ≡ Some x
get_at_end [] x = refl
get_at_end (y ∷ xs) x = get_at_end xs x

get_push : {K : Type 0} (xs : List K) (y : K) (i : ℕ) (x : K) → slice_get (xs ++ y ∷ []) i ≡ Some x → (slice_get xs i ≡ Some x) ⊎ ((i ≡ length xs) × (y ≡ x))
get_push [] y zero x e = inr (refl, cc)
get_push [] y (suc i) x e = cc
get_push (z ∷ xs) y zero x e = inl e
get_push (z ∷ xs) y (suc i) x e = elim (get_push xs y i x e) [ inl h ↦ inl h | inr h ↦ inr (ap suc h.0, h.1) ]

-- no text stands once more where it was not found
pub IsOnceEach-push : (texts : List (List ℕ)) (text : List ℕ) → IsOnceEach texts → list_any (bytes_eq text) texts ≡ false → IsOnceEach (texts ++ text ∷ [])
IsOnceEach-push texts text h absent = record { once = λ i j u p q. both i j u (get_push texts text i u p) (get_push texts text j u q) }
  where
    new : (i : ℕ) (u : List ℕ) → slice_get texts i ≡ Some u → text ≡ u → ⊥
    new i u p e = true≢false (sym (list_any-get texts i text (p ∙ ap Some (sym e))) ∙ absent)

    both : (i j : ℕ) (u : List ℕ) → (slice_get texts i ≡ Some u) ⊎ ((i ≡ length texts) × (text ≡ u)) → (slice_get texts j ≡ Some u) ⊎ ((j ≡ length texts) × (text ≡ u)) → i ≡ j
    both i j u (inl p) (inl q) = h.once i j u p q
    both i j u (inl p) (inr q) = absurd (new i u p q.1)
    both i j u (inr p) (inl q) = absurd (new j u q p.1)
    both i j u (inr p) (inr q) = p.0 ∙ sym q.0

pub IsOnceEach-nil : IsOnceEach []
IsOnceEach-nil = record { once = λ i j u p q. cc }

pub interned-new : (texts : List (List ℕ)) (text : List ℕ) → list_any (bytes_eq text) texts ≡ false → interned texts text ≡ texts ++ text ∷ []
interned-new texts text absent = rw absent

pub interned-known : (texts : List (List ℕ)) (i : ℕ) (text : List ℕ) → slice_get texts i ≡ Some text → interned texts text ≡ texts
interned-known texts i text e = rw (list_any-get texts i text e)

-- the numbers that a pool gave stay
pub interned-stays : (texts : List (List ℕ)) (text : List ℕ) (i : ℕ) (u : List ℕ) → slice_get texts i ≡ Some u → slice_get (interned texts text) i ≡ Some u
interned-stays texts text i u e = by (list_any (bytes_eq text) texts)
  where
    by : (b : Bool) → slice_get (cond b texts (texts ++ text ∷ [])) i ≡ Some u
    by true = e
    by false = get_stays texts (text ∷ []) i u e

pub interned_all-stays : (texts asked : List (List ℕ)) (i : ℕ) (u : List ℕ) → slice_get texts i ≡ Some u → slice_get (interned_all texts asked) i ≡ Some u
interned_all-stays texts [] i u e = e
interned_all-stays texts (text ∷ asked) i u e = interned_all-stays (interned texts text) asked i u (interned-stays texts text i u e)

pub Interns-stays : (old new : List (List ℕ)) (text : List ℕ) (n i : ℕ) (u : List ℕ) → Interns old new text n → slice_get old i ≡ Some u → slice_get new i ≡ Some u
Interns-stays old new text n i u h e = subst (λ texts. slice_get texts i ≡ Some u) (sym h.after) (interned-stays old text i u e)

-- two texts asked for in turn, and three
pub interns_two : (old first new : List (List ℕ)) (a b : List ℕ) (m n : ℕ) → Interns old first a m → Interns first new b n → new ≡ interned (interned old a) b
interns_two old first new a b m n g h = h.after ∙ ap (λ (texts : List (List ℕ)). interned texts b) g.after

pub interns_three : (old first second new : List (List ℕ)) (a b d : List ℕ) (l m n : ℕ) → Interns old first a l → Interns first second b m → Interns second new d n → new ≡ interned (interned (interned old a) b) d
interns_three old first second new a b d l m n f g h = h.after ∙ ap (λ (texts : List (List ℕ)). interned texts d) (interns_two old first second a b l m f g)

-- a text that the list contains is found
pub list_any-contains : (texts : List (List ℕ)) (text : List ℕ) → Contains texts text → list_any (bytes_eq text) texts ≡ true
list_any-contains texts text (k, within, at) =
    let found = get_within texts k within in
    list_any-get texts k text (found.1 ∙ ap Some (sym (get_or_from_slice_get texts k found.0 text found.1) ∙ at))

-- the answer to a new text
pub interns_new : {E : Type 0} (old new : List (List ℕ)) (text : List ℕ) (r : Result NameId E) → list_any (bytes_eq text) old ≡ false → IfOk r (λ n. (new ≡ old ++ text ∷ []) × (n.0 ≡ length old)) → IfOk r (λ n. Interns old new text n.0)
interns_new old new text (Ok n) absent h = record {
  after = h.0 ∙ sym (interned-new old text absent);
  number = ap (slice_get new) h.1 ∙ ap (λ (ts : List (List ℕ)). slice_get ts (length old)) h.0 ∙ get_at_end old text;
}
interns_new old new text (Err e) absent h = h

-- a fact holds under an error where it holds
pub on_err : {T E P : Type 0} (r : Result T E) → P → OnErr r P
on_err (Ok x) p = tt
on_err (Err e) p = p

pub stays_same : (old new : List (List ℕ)) → new ≡ old → Stays old new
stays_same old new is = subst (Stays old) (sym is) (λ i text e. e)

pub stays_then : (old middle new : List (List ℕ)) → Stays old middle → Stays middle new → Stays old new
stays_then old middle new x y = λ i text e. y i text (x i text e)

-- what asking for a text leaves
pub asked_stays : {E : Type 0} (old new : List (List ℕ)) (text : List ℕ) (r : Result NameId E) → IfOk r (λ n. Interns old new text n.0) → OnErr r (new ≡ old) → Stays old new
asked_stays old new text (Ok n) interns same = λ i u e. Interns-stays old new text n.0 i u interns e
asked_stays old new text (Err e) interns same = stays_same old new same
