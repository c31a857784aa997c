-- Device: the first bytes, as many as there is room for.
use Rattle.std.proofs.Common.{◌≡◌, ℕ, zero, suc, ◌+◌, ◌-◌, ◌≤◌, ◌<◌, List, [], ◌∷◌, ◌++◌, length, take, replicate, refl, sym, ap, ◌∙◌, append_assoc, length-append, arith}
use Rattle.std.proofs.lemmas.List.{length-take, take_all}

pub all_of : (bytes : List ℕ) (most : ℕ) → length bytes ≤ most → bytes ≡ take most bytes
all_of bytes most h = sym (take_all most bytes h)

pub front_fits : (held more : List ℕ) (room : ℕ) → length held ≤ room → length held + length (take (room - length held) more) ≤ room
front_fits held more room h = omega (arith, h, length-take (room - length held) more)

pub all_fit : (held more : List ℕ) (last room : ℕ) → length more < room - length held → (held ++ more) ++ last ∷ [] ≡ held ++ take (room - length held) (more ++ last ∷ [])
all_fit held more last room h = append_assoc held more (last ∷ []) ∙ ap (λ t. held ++ t) (sym (take_all (room - length held) (more ++ last ∷ []) (omega (arith, h, length-append more (last ∷ [])))))

-- what is taken of two texts, one after the other
pub taken_twice : (n : ℕ) (xs ys : List ℕ) → take n xs ++ take (n - length (take n xs)) ys ≡ take n (xs ++ ys)
taken_twice zero xs ys = refl
taken_twice (suc n) [] ys = ap (λ k. take k ys) same
  where
    same : suc n - 0 ≡ suc n
    same = omega arith
taken_twice (suc n) (x ∷ xs) ys = ap (λ t. x ∷ t) (ap (λ k. take n xs ++ take k ys) less ∙ taken_twice n xs ys)
  where
    less : suc n - suc (length (take n xs)) ≡ n - length (take n xs)
    less = omega arith

pub kept_twice : (k : ℕ) (text xs ys : List ℕ) → (text ++ take (k - length text) xs) ++ take (k - length (text ++ take (k - length text) xs)) ys ≡ text ++ take (k - length text) (xs ++ ys)
kept_twice k text xs ys =
    append_assoc text (take (k - length text) xs) (take (k - length (text ++ take (k - length text) xs)) ys)
    ∙ ap (λ t. text ++ t) (ap (λ n. take (k - length text) xs ++ take n ys) left ∙ taken_twice (k - length text) xs ys)
  where
    left : k - length (text ++ take (k - length text) xs) ≡ (k - length text) - length (take (k - length text) xs)
    left = omega (arith, length-append text (take (k - length text) xs))

-- where so many blanks follow that there is no room for more
pub taken_blanks : (n j k : ℕ) (xs ys : List ℕ) → n ≤ j → n ≤ k → take n (replicate j 32 ++ xs) ≡ take n (replicate k 32 ++ ys)
taken_blanks zero j k xs ys h g = refl
taken_blanks (suc n) zero k xs ys h g = absurd (omega (arith, h))
taken_blanks (suc n) (suc j) zero xs ys h g = absurd (omega (arith, g))
taken_blanks (suc n) (suc j) (suc k) xs ys h g = ap (λ t. 32 ∷ t) (taken_blanks n j k xs ys (omega (arith, h)) (omega (arith, g)))
