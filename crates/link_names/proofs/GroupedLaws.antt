-- Device: declarations that are put to those of their names one by one are those of each name together.
use Rattle.std.proofs.Common.{◌≡◌, ℕ, zero, suc, ◌≤◌, Bool, true, false, cond, not, List, [], ◌∷◌, ◌++◌, map, length, filter, nat_eq, refl, sym, ap, ◌∙◌, append_assoc, append-nil, arith, true≢false}
use Rattle.std.proofs.lemmas.Bool.{eqb-true, eq-eqb}
use Rattle.cil_base.specs.declared.numbers.NameId.{NameId}
use Rattle.link_names.specs.declared.names.LinkedSite.{LinkedSite}
use Rattle.link_names.specs.Linking.{Declared, Linked, same_name, once_each, said_of, grouped}
use Rattle.link_names.specs.Grouping.{with_site, added, added_all}

abbrev other : NameId → NameId → Bool
other n m = not (same_name n m)

abbrev others : NameId → List Declared → List Declared
others n ds = filter (λ d. other n d.0) ds

abbrev names : List Declared → List NameId
names ds = map (λ d. d.0) ds

same_sym : (n m : NameId) → same_name n m ≡ same_name m n
same_sym n m = by (same_name n m) (same_name m n) refl refl
  where
    by : (a b : Bool) → same_name n m ≡ a → same_name m n ≡ b → a ≡ b
    by true true p q = refl
    by false false p q = refl
    by true false p q = absurd (true≢false (sym (eq-eqb m.0 n.0 (sym (eqb-true n.0 m.0 p))) ∙ q))
    by false true p q = absurd (true≢false (sym (eq-eqb n.0 m.0 (sym (eqb-true m.0 n.0 q))) ∙ p))

-- all declarations of the first name are put behind it, and those of the others among the rest
behind : (n : NameId) (ss : List LinkedSite) (ls : List Linked) (ds : List Declared) → added_all ((n, ss) ∷ ls) ds ≡ (n, ss ++ said_of ds n) ∷ added_all ls (others n ds)
behind n ss ls [] = ap (λ ts. (n, ts) ∷ ls) (sym (append-nil ss))
behind n ss ls (d ∷ ds) = by (behind n (ss ++ d.1 ∷ []) ls ds) (behind n ss (added ls d) ds) (same_name d.0 n) (same_name n d.0) (same_sym d.0 n)
  where
    by : added_all ((n, ss ++ d.1 ∷ []) ∷ ls) ds ≡ (n, (ss ++ d.1 ∷ []) ++ said_of ds n) ∷ added_all ls (others n ds) → added_all ((n, ss) ∷ added ls d) ds ≡ (n, ss ++ said_of ds n) ∷ added_all (added ls d) (others n ds)
        → (a b : Bool) → a ≡ b
        → added_all (cond a (with_site (n, ss) d.1 ∷ ls) ((n, ss) ∷ added ls d)) ds ≡ (n, ss ++ map (λ e. e.1) (cond b (d ∷ filter (λ e. same_name n e.0) ds) (filter (λ e. same_name n e.0) ds))) ∷ added_all ls (cond (not b) (d ∷ others n ds) (others n ds))
    by same apart true true e = same ∙ ap (λ ts. (n, ts) ∷ added_all ls (others n ds)) (append_assoc ss (d.1 ∷ []) (said_of ds n))
    by same apart false false e = apart
    by same apart true false e = absurd (true≢false e)
    by same apart false true e = absurd (true≢false (sym e))

filters : {X : Type 0} (p q : X → Bool) (xs : List X) → filter p (filter q xs) ≡ filter q (filter p xs)
filters p q [] = refl
filters p q (x ∷ xs) = by (filters p q xs) (p x) (q x) refl refl
  where
    by : filter p (filter q xs) ≡ filter q (filter p xs) → (a b : Bool) → p x ≡ a → q x ≡ b → filter p (cond b (x ∷ filter q xs) (filter q xs)) ≡ filter q (cond a (x ∷ filter p xs) (filter p xs))
    by rest true true e f = ap (λ k. cond k (x ∷ filter p (filter q xs)) (filter p (filter q xs))) e ∙ ap (λ k. x ∷ k) rest ∙ ap (λ k. cond k (x ∷ filter q (filter p xs)) (filter q (filter p xs))) (sym f)
    by rest true false e f = rest ∙ ap (λ k. cond k (x ∷ filter q (filter p xs)) (filter q (filter p xs))) (sym f)
    by rest false true e f = ap (λ k. cond k (x ∷ filter p (filter q xs)) (filter p (filter q xs))) e ∙ rest
    by rest false false e f = rest

filter_implied : {X : Type 0} (p q : X → Bool) (xs : List X) → ((x : X) → p x ≡ true → q x ≡ true) → filter p (filter q xs) ≡ filter p xs
filter_implied p q [] h = refl
filter_implied p q (x ∷ xs) h = by (filter_implied p q xs h) (p x) (q x) refl refl
  where
    by : filter p (filter q xs) ≡ filter p xs → (a b : Bool) → p x ≡ a → q x ≡ b → filter p (cond b (x ∷ filter q xs) (filter q xs)) ≡ cond a (x ∷ filter p xs) (filter p xs)
    by rest true true e f = ap (λ k. cond k (x ∷ filter p (filter q xs)) (filter p (filter q xs))) e ∙ ap (λ k. x ∷ k) rest
    by rest true false e f = absurd (true≢false (sym (h x e) ∙ f))
    by rest false true e f = ap (λ k. cond k (x ∷ filter p (filter q xs)) (filter p (filter q xs))) e ∙ rest
    by rest false false e f = rest

filter_length : {X : Type 0} (p : X → Bool) (xs : List X) → length (filter p xs) ≤ length xs
filter_length p [] = omega arith
filter_length p (x ∷ xs) = by (filter_length p xs) (p x)
  where
    by : length (filter p xs) ≤ length xs → (a : Bool) → length (cond a (x ∷ filter p xs) (filter p xs)) ≤ suc (length xs)
    by rest true = omega (arith, rest)
    by rest false = omega (arith, rest)

map_filter : (p : NameId → Bool) (ds : List Declared) → names (filter (λ d. p d.0) ds) ≡ filter p (names ds)
map_filter p [] = refl
map_filter p (d ∷ ds) = by (map_filter p ds) (p d.0)
  where
    by : names (filter (λ e. p e.0) ds) ≡ filter p (names ds) → (a : Bool) → names (cond a (d ∷ filter (λ e. p e.0) ds) (filter (λ e. p e.0) ds)) ≡ cond a (d.0 ∷ filter p (names ds)) (filter p (names ds))
    by rest true = ap (λ k. d.0 ∷ k) rest
    by rest false = rest

-- a name that is not another one differs from all that the other one is
other_same : (n m k : NameId) → same_name n m ≡ true → other n k ≡ other m k
other_same n m k e = ap (λ j. not (nat_eq j k.0)) (eqb-true n.0 m.0 e)

once_filter : (n : NameId) (ns : List NameId) → once_each (filter (other n) ns) ≡ filter (other n) (once_each ns)
once_filter n [] = refl
once_filter n (m ∷ ns) = by (once_filter n ns) (same_name n m) refl
  where
    by : once_each (filter (other n) ns) ≡ filter (other n) (once_each ns) → (a : Bool) → same_name n m ≡ a
        → once_each (cond (not a) (m ∷ filter (other n) ns) (filter (other n) ns)) ≡ cond (not a) (m ∷ filter (other n) (filter (other m) (once_each ns))) (filter (other n) (filter (other m) (once_each ns)))
    by rest true e = rest ∙ sym (filter_implied (other n) (other m) (once_each ns) (λ k f. sym (other_same n m k e) ∙ f))
    by rest false e = ap (λ k. m ∷ filter (other m) k) rest ∙ ap (λ k. m ∷ k) (filters (other m) (other n) (once_each ns))

map_filtered : {X : Type 0} (p : NameId → Bool) (f g : NameId → X) (ns : List NameId) → ((n : NameId) → p n ≡ true → f n ≡ g n) → map f (filter p ns) ≡ map g (filter p ns)
map_filtered p f g [] h = refl
map_filtered p f g (n ∷ ns) h = by (map_filtered p f g ns h) (p n) refl
  where
    by : map f (filter p ns) ≡ map g (filter p ns) → (a : Bool) → p n ≡ a → map f (cond a (n ∷ filter p ns) (filter p ns)) ≡ map g (cond a (n ∷ filter p ns) (filter p ns))
    by rest true e = ap (λ x. x ∷ map f (filter p ns)) (h n e) ∙ ap (λ k. g n ∷ k) rest
    by rest false e = rest

not_same : (n m : NameId) → other n m ≡ true → same_name m n ≡ false
not_same n m e = same_sym m n ∙ by (same_name n m) e
  where
    by : (a : Bool) → not a ≡ true → a ≡ false
    by true f = cc
    by false f = refl

-- what is said of a name stands among what is not said of another one
said_others : (d : Declared) (ds : List Declared) (m : NameId) → other d.0 m ≡ true → said_of (others d.0 ds) m ≡ said_of (d ∷ ds) m
said_others d ds m e =
    ap (map (λ k. k.1)) (filter_implied (λ k. same_name m k.0) (λ k. other d.0 k.0) ds (λ k f. ap (λ j. not (nat_eq d.0.0 j)) (sym (eqb-true m.0 k.0.0 f)) ∙ e))
    ∙ ap (λ b. map (λ k. k.1) (cond b (d ∷ filter (λ k. same_name m k.0) ds) (filter (λ k. same_name m k.0) ds))) (sym (not_same d.0 m e))

said_first : (d : Declared) (ds : List Declared) → d.1 ∷ said_of ds d.0 ≡ said_of (d ∷ ds) d.0
said_first d ds = ap (λ b. map (λ k. k.1) (cond b (d ∷ filter (λ k. same_name d.0 k.0) ds) (filter (λ k. same_name d.0 k.0) ds))) (sym (eq-eqb d.0.0 d.0.0 refl))

grouped_first : (d : Declared) (ds : List Declared) → (d.0, d.1 ∷ said_of ds d.0) ∷ grouped (others d.0 ds) ≡ grouped (d ∷ ds)
grouped_first d ds =
    ap (λ k. (d.0, k) ∷ grouped (others d.0 ds)) (said_first d ds)
    ∙ ap (λ k. (d.0, said_of (d ∷ ds) d.0) ∷ map (λ n. (n, said_of (others d.0 ds) n)) k) (ap once_each (map_filter (other d.0) ds) ∙ once_filter d.0 (names ds))
    ∙ ap (λ k. (d.0, said_of (d ∷ ds) d.0) ∷ k) (map_filtered (other d.0) (λ n. (n, said_of (others d.0 ds) n)) (λ n. (n, said_of (d ∷ ds) n)) (once_each (names ds)) (λ n e. ap (λ k. (n, k)) (said_others d ds n e)))

grouped_within : (k : ℕ) (ds : List Declared) → length ds ≤ k → added_all [] ds ≡ grouped ds
grouped_within k [] h = refl
grouped_within zero (d ∷ ds) h = absurd (omega arith)
grouped_within (suc k) (d ∷ ds) h =
    behind d.0 (d.1 ∷ []) [] ds
    ∙ ap (λ ls. (d.0, d.1 ∷ said_of ds d.0) ∷ ls) (grouped_within k (others d.0 ds) (omega (arith, filter_length (λ e. other d.0 e.0) ds)))
    ∙ grouped_first d ds

pub are_grouped : (ds : List Declared) → added_all [] ds ≡ grouped ds
are_grouped ds = grouped_within (length ds) ds (omega arith)
