-- Device: stems while they are read and numbered.
use Rattle.std.proofs.Common.{◌≡◌, ◌⊎◌, inl, inr, ℕ, zero, suc, ◌+◌, ◌-◌, ◌<◌, ◌≤◌, Bool, true, false, cond, not, List, [], ◌∷◌, ◌++◌, Option, Some, None, map, length, reverse, take, get_or, slice_get, slice_index_or, codes, subst, refl, sym, ap, ◌∙◌, arith}
use Rattle.std.specs.Char.{is_ascii_digit}
use Rattle.std.specs.List.{prefix_len, position_or_len}
use Rattle.std.specs.Str.{bytes_eq}
use Rattle.std.proofs.lemmas.List.{length-reverse, map-append, get_or-reverse}
use Rattle.std.proofs.lemmas.Slice.Eq.{bytes_eq-Decides}
use Rattle.cil_base.specs.declared.numbers.NameId.{NameId}
use Rattle.cil_base.specs.NamePool.{IsOnceEach, interned, interned_all, Interns}
use Rattle.cil_base.proofs.PoolLemmas.{Interns-stays}
use Rattle.type_things.specs.declared.stems.StemId.{StemId}
use Rattle.type_things.specs.declared.stems.Stems.{Stems}
use Rattle.type_things.specs.Stems.{digits_at_end, without_suffix, stem_within, stem_of}
use Rattle.type_things.specs.Units.{stems, name_stem}
use Rattle.type_things.specs.Weaving.{AreStems}

-- the first k pass, and the next one does not, if there is one
pub prefix_is : {X : Type 0} (p : X → Bool) (xs : List X) (k : ℕ) (d : X) → k ≤ length xs → ((j : ℕ) → j < k → p (get_or xs j d) ≡ true) → (k ≡ length xs) ⊎ (p (get_or xs k d) ≡ false) → prefix_len p xs ≡ k
prefix_is p [] zero d h all end = refl
prefix_is p [] (suc k) d h all end = absurd (omega (arith, h))
prefix_is p (x ∷ xs) zero d h all (inl e) = absurd (omega (arith, e))
prefix_is p (x ∷ xs) zero d h all (inr e) = ap (λ b. cond b (1 + prefix_len p xs) 0) e
prefix_is p (x ∷ xs) (suc k) d h all end =
    let rest : prefix_len p xs ≡ k = prefix_is p xs k d (omega (arith, h)) (λ j l. all (suc j) (omega (arith, l))) (elim end [ inl e ↦ inl (omega (arith, e)) | inr e ↦ inr e ]) in
    ap (λ b. cond b (1 + prefix_len p xs) 0) (all 0 (omega arith)) ∙ (let s : 1 + prefix_len p xs ≡ suc (prefix_len p xs) = omega arith in s) ∙ ap suc rest

pub digits_stop : (text : List ℕ) (k d : ℕ) → k < length text → ((j : ℕ) → j < k → is_ascii_digit (get_or text (length text - 1 - j) d) ≡ true) → is_ascii_digit (get_or text (length text - 1 - k) d) ≡ false → k ≡ digits_at_end text
digits_stop text k d h all stop = sym (prefix_is is_ascii_digit (reverse text) k d (let l = length-reverse text in omega (arith, h, l))
    (λ j l. ap is_ascii_digit (get_or-reverse text j d (omega (arith, h, l))) ∙ all j l)
    (inr (ap is_ascii_digit (get_or-reverse text k d h) ∙ stop)))

pub digits_all : (text : List ℕ) (k d : ℕ) → k ≡ length text → ((j : ℕ) → j < k → is_ascii_digit (get_or text (length text - 1 - j) d) ≡ true) → length text ≡ digits_at_end text
digits_all text k d h all = sym h ∙ sym (prefix_is is_ascii_digit (reverse text) k d (let l = length-reverse text in omega (arith, h, l))
    (λ j l. ap is_ascii_digit (get_or-reverse text j d (omega (arith, h, l))) ∙ all j l)
    (inl (h ∙ sym (length-reverse text))))

pub digits_more : (text : List ℕ) (k d : ℕ) → is_ascii_digit (get_or text (length text - 1 - k) d) ≡ true → ((j : ℕ) → j < k → is_ascii_digit (get_or text (length text - 1 - j) d) ≡ true) → (j : ℕ) → j < k + 1 → is_ascii_digit (get_or text (length text - 1 - j) d) ≡ true
digits_more text k d e all j h = elim (less_or j k) [ inl l ↦ all j l | inr l ↦ (let s : j ≡ k = omega (arith, l, h) in subst (λ n. is_ascii_digit (get_or text (length text - 1 - n) d) ≡ true) (sym s) e) ]
  where
    less_or : (a b : ℕ) → (a < b) ⊎ (b ≤ a)
    less_or a zero = inr (omega arith)
    less_or zero (suc b) = inl (omega arith)
    less_or (suc a) (suc b) = elim (less_or a b) [ inl l ↦ inl (omega (arith, l)) | inr l ↦ inr (omega (arith, l)) ]

-- one suffix less
pub stem_next : (n k : ℕ) (rest front whole : List ℕ) → k < n → without_suffix rest ≡ Some front → stem_within (n - k) rest ≡ whole → stem_within (n - (k + 1)) front ≡ whole
stem_next n k rest front whole h e f =
    let s : n - k ≡ suc (n - (k + 1)) = omega (arith, h) in
    sym (ap (λ (o : Option (List ℕ)). elim o [ None ↦ rest | Some t ↦ stem_within (n - (k + 1)) t ]) e) ∙ sym (ap (λ m. stem_within m rest) s) ∙ f

-- a text that stands once stands at its place
pub place_once : (texts : List (List ℕ)) (i : ℕ) (text : List ℕ) → IsOnceEach texts → slice_get texts i ≡ Some text → position_or_len (bytes_eq text) texts ≡ i
place_once texts i text once at = prefix_is (λ t. not (bytes_eq text t)) texts i [] (let l = there texts i text at in omega (arith, l))
    (λ j l. other j l (bytes_eq text (get_or texts j [])) refl)
    (inr (ap (λ t. not (bytes_eq text t)) (got texts i text at) ∙ ap not ((bytes_eq-Decides text text).1 refl)))
  where
    there : (xs : List (List ℕ)) (j : ℕ) (x : List ℕ) → slice_get xs j ≡ Some x → j < length xs
    there [] j x e = (let bad : ⊥ = cc in absurd bad)
    there (y ∷ xs) zero x e = omega arith
    there (y ∷ xs) (suc j) x e = (let h = there xs j x e in omega (arith, h))

    got : (xs : List (List ℕ)) (j : ℕ) (x : List ℕ) → slice_get xs j ≡ Some x → get_or xs j [] ≡ x
    got [] j x e = (let bad : ⊥ = cc in absurd bad)
    got (y ∷ xs) zero x e = (let h : y ≡ x = cc in h)
    got (y ∷ xs) (suc j) x e = got xs j x e

    some_at : (xs : List (List ℕ)) (j : ℕ) → j < length xs → slice_get xs j ≡ Some (get_or xs j [])
    some_at [] j h = absurd (omega (arith, h))
    some_at (y ∷ xs) zero h = refl
    some_at (y ∷ xs) (suc j) h = some_at xs j (omega (arith, h))

    other : (j : ℕ) → j < i → (b : Bool) → bytes_eq text (get_or texts j []) ≡ b → not (bytes_eq text (get_or texts j [])) ≡ true
    other j l false e = ap not e
    other j l true e =
        let same : text ≡ get_or texts j [] = (bytes_eq-Decides text (get_or texts j [])).0 e in
        let h = there texts i text at in
        let two : j ≡ i = once.once j i text (some_at texts j (omega (arith, l, h)) ∙ ap Some (sym same)) at in
        absurd (omega (arith, two, l))

interned_more : (texts more : List (List ℕ)) (text : List ℕ) → interned_all texts (more ++ text ∷ []) ≡ interned (interned_all texts more) text
interned_more texts [] text = refl
interned_more texts (t ∷ more) text = interned_more (interned texts t) more text

take_more : {X : Type 0} (xs : List X) (i : ℕ) (x : X) → slice_get xs i ≡ Some x → take (suc i) xs ≡ take i xs ++ x ∷ []
take_more [] i x e = (let bad : ⊥ = cc in absurd bad)
take_more (y ∷ xs) zero x e = (let s : y ≡ x = cc in ap (λ z. z ∷ []) s)
take_more (y ∷ xs) (suc i) x e = ap (λ l. y ∷ l) (take_more xs i x e)

-- one more stem is asked for
pub pool_more : (names old new : List (List ℕ)) (n k : ℕ) (text : List ℕ) → slice_get names n ≡ Some text → old ≡ interned_all [] (codes "__anon" ∷ map stem_of (take n names)) → Interns old new (stem_of text) k
    → new ≡ interned_all [] (codes "__anon" ∷ map stem_of (take (n + 1) names))
pool_more names old new n k text at e i =
    let s : n + 1 ≡ suc n = omega arith in
    let list : codes "__anon" ∷ map stem_of (take (n + 1) names) ≡ (codes "__anon" ∷ map stem_of (take n names)) ++ stem_of text ∷ [] =
    ap (λ m. codes "__anon" ∷ map stem_of (take m names)) s ∙ ap (λ l. codes "__anon" ∷ map stem_of l) (take_more names n text at) ∙ ap (λ (l : List (List ℕ)). codes "__anon" ∷ l) (map-append stem_of (take n names) (text ∷ [])) in
    i.after ∙ ap (λ l. interned l (stem_of text)) e ∙ sym (interned_more [] (codes "__anon" ∷ map stem_of (take n names)) (stem_of text)) ∙ sym (ap (interned_all []) list)

pub numbers_more : (names old new : List (List ℕ)) (os after : List ℕ) (n k : ℕ) (text : List ℕ) → slice_get names n ≡ Some text → length os ≡ n → after ≡ os ++ k ∷ [] → Interns old new (stem_of text) k
    → ((i d : ℕ) → i < n → slice_get old (get_or os i d) ≡ Some (stem_of (slice_index_or names i []))) → (i d : ℕ) → i < n + 1 → slice_get new (get_or after i d) ≡ Some (stem_of (slice_index_or names i []))
numbers_more names old new os after n k text at len e interns before i d h = elim (less_or i n) [
  | inl l ↦ ap (λ xs. slice_get new (get_or xs i d)) e ∙ ap (slice_get new) (left os i k d (omega (arith, l, len))) ∙ Interns-stays old new (stem_of text) k (get_or os i d) (stem_of (slice_index_or names i [])) interns (before i d l)
  | inr l ↦ (
      let s : i ≡ length os = omega (arith, l, h, len) in
      ap (λ xs. slice_get new (get_or xs i d)) e ∙ ap (λ j. slice_get new (get_or (os ++ k ∷ []) j d)) s ∙ ap (slice_get new) (end os k d) ∙ interns.number
      ∙ ap (λ t. Some (stem_of t)) (sym (named names i text (ap (slice_get names) (s ∙ len) ∙ at))))
]
  where
    less_or : (a b : ℕ) → (a < b) ⊎ (b ≤ a)
    less_or a zero = inr (omega arith)
    less_or zero (suc b) = inl (omega arith)
    less_or (suc a) (suc b) = elim (less_or a b) [ inl q ↦ inl (omega (arith, q)) | inr q ↦ inr (omega (arith, q)) ]

    left : (xs : List ℕ) (j y z : ℕ) → j < length xs → get_or (xs ++ y ∷ []) j z ≡ get_or xs j z
    left [] j y z q = absurd (omega (arith, q))
    left (x ∷ xs) zero y z q = refl
    left (x ∷ xs) (suc j) y z q = left xs j y z (omega (arith, q))

    end : (xs : List ℕ) (y z : ℕ) → get_or (xs ++ y ∷ []) (length xs) z ≡ y
    end [] y z = refl
    end (x ∷ xs) y z = end xs y z

    named : (xs : List (List ℕ)) (j : ℕ) (t : List ℕ) → slice_get xs j ≡ Some t → slice_index_or xs j [] ≡ t
    named [] j t q = (let bad : ⊥ = cc in absurd bad)
    named (x ∷ xs) zero t q = (let w : x ≡ t = cc in w)
    named (x ∷ xs) (suc j) t q = named xs j t q

pub count_more : (os after : List ℕ) (n k : ℕ) → after ≡ os ++ k ∷ [] → length os ≡ n → length after ≡ n + 1
count_more os after n k e h = (let l = ap length e ∙ long os in omega (arith, l, h))
  where
    long : (xs : List ℕ) → length (xs ++ k ∷ []) ≡ suc (length xs)
    long [] = refl
    long (x ∷ xs) = ap suc (long xs)

take_whole : {X : Type 0} (xs : List X) (n : ℕ) → length xs ≤ n → take n xs ≡ xs
take_whole [] zero h = refl
take_whole [] (suc n) h = refl
take_whole (x ∷ xs) zero h = absurd (omega (arith, h))
take_whole (x ∷ xs) (suc n) h = ap (λ l. x ∷ l) (take_whole xs n (omega (arith, h)))

pub are_stems : (names pool : List (List ℕ)) (s : Stems) (n : ℕ) → length names ≤ n → length s.of.items ≡ n → IsOnceEach pool → pool ≡ interned_all [] (codes "__anon" ∷ map stem_of (take n names)) → slice_get pool s.tagless.0 ≡ Some (codes "__anon")
    → ((i d : ℕ) → i < n → slice_get pool (get_or s.of.items i d) ≡ Some (stem_of (slice_index_or names i []))) → AreStems names s
are_stems names pool s n h len once e tagless each =
    let same : pool ≡ stems names = e ∙ ap (λ l. interned_all [] (codes "__anon" ∷ map stem_of l)) (take_whole names n h) in
    let number : (i : ℕ) (t : List ℕ) → slice_get pool i ≡ Some t → i ≡ position_or_len (bytes_eq t) (stems names) = λ i t at. sym (place_once pool i t once at) ∙ ap (position_or_len (bytes_eq t)) same in
    record {
      each = λ i l d. number (get_or s.of.items i d) (stem_of (slice_index_or names i [])) (each i d (omega (arith, l, len)));
      tagless = (let f : ℕ → StemId = λ k. record { 0 = k } in ap f (number s.tagless.0 (codes "__anon") tagless));
    }

pub stem_at : (names : List (List ℕ)) (s : Stems) (n : NameId) (x : ℕ) → AreStems names s → n.0 < length s.of.items → ((d : ℕ) → get_or s.of.items n.0 d ≡ x) → (let f : ℕ → StemId = λ k. record { 0 = k } in f x ≡ name_stem names n)
stem_at names s n x h l at = (let f : ℕ → StemId = λ k. record { 0 = k } in ap f (sym (at 0) ∙ h.each n.0 l 0))
