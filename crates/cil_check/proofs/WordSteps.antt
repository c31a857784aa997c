-- Device: steps of the loops over words and their bytes.
use Rattle.std.proofs.Common.{◌≡◌, ℕ, zero, suc, ◌<◌, ◌≤◌, Bool, true, false, ◌&&◌, ◌||◌, nat_eq, List, [], ◌∷◌, ◌++◌, length, drop, map, get_or, refl, ap, ◌∙◌, arith}
use Rattle.std.specs.Str.{bytes_eq}
use Rattle.cil_tree.specs.Names.{begins, is_among}

-- a text among words that are seen as texts, from one on
pub among_from : {A : Type 0} (see : A → List ℕ) (ws : List A) (text : List ℕ) (i : ℕ) (d : A) → i < length ws → is_among (map see (drop i ws)) text ≡ bytes_eq text (see (get_or ws i d)) || is_among (map see (drop (suc i) ws)) text
among_from see [] text i d h = absurd (omega arith)
among_from see (w ∷ ws) text zero d h = refl
among_from see (w ∷ ws) text (suc i) d h = among_from see ws text i d (omega arith)

pub begins_next : (bs cs : List ℕ) (i d e : ℕ) → i < length bs → i < length cs → begins (drop i bs) (drop i cs) ≡ nat_eq (get_or bs i d) (get_or cs i e) && begins (drop (suc i) bs) (drop (suc i) cs)
begins_next [] cs i d e h k = absurd (omega arith)
begins_next (b ∷ bs) [] i d e h k = absurd (omega arith)
begins_next (b ∷ bs) (c ∷ cs) zero d e h k = refl
begins_next (b ∷ bs) (c ∷ cs) (suc i) d e h k = begins_next bs cs i d e (omega arith) (omega arith)

none_begins : (bs : List ℕ) (i : ℕ) → i < length bs → begins (drop i bs) [] ≡ false
none_begins [] i h = absurd (omega arith)
none_begins (b ∷ bs) zero h = refl
none_begins (b ∷ bs) (suc i) h = none_begins bs i (omega arith)

pub begins_short : (bs cs : List ℕ) (i : ℕ) → i < length bs → length cs ≤ i → begins (drop i bs) (drop i cs) ≡ false
begins_short bs [] zero h k = none_begins bs 0 h
begins_short bs [] (suc i) h k = none_begins bs (suc i) h
begins_short [] (c ∷ cs) i h k = absurd (omega arith)
begins_short (b ∷ bs) (c ∷ cs) zero h k = absurd (omega arith)
begins_short (b ∷ bs) (c ∷ cs) (suc i) h k = begins_short bs cs i (omega arith) (omega arith)

all_read : (bs cs : List ℕ) (i : ℕ) → i ≡ length bs → begins (drop i bs) cs ≡ true
all_read [] cs zero h = refl
all_read [] cs (suc i) h = refl
all_read (b ∷ bs) cs zero h = absurd (omega (arith, h))
all_read (b ∷ bs) cs (suc i) h = all_read bs cs i (omega (arith, h))

pub begins_end : (bs cs : List ℕ) (i : ℕ) → i ≡ length bs → begins (drop i bs) (drop i cs) ≡ true
begins_end bs cs i h = all_read bs (drop i cs) i h

or_or : (p q r : Bool) → (p || q) || r ≡ p || (q || r)
or_or true q r = refl
or_or false q r = refl

-- a text among words of two lists
pub among_both : (xs ys : List (List ℕ)) (text : List ℕ) → is_among xs text || is_among ys text ≡ is_among (xs ++ ys) text
among_both [] ys text = refl
among_both (x ∷ xs) ys text = or_or (bytes_eq text x) (is_among xs text) (is_among ys text) ∙ ap (λ b. bytes_eq text x || b) (among_both xs ys text)
