-- Texts one behind the other, and lines of the first units and of one more.
use Rattle.std.proofs.Common.{◌≡◌, ℕ, ◌+◌, List, [], ◌∷◌, ◌++◌, map, append_assoc, append-nil, ap, sym, ◌∙◌, arith}
use Rattle.std.specs.List.{concat, range_with_len}
use Rattle.std.proofs.lemmas.List.FromFn.{map-range_with_len_more}

concat_behind : (xss : List (List ℕ)) (xs : List ℕ) → concat (xss ++ xs ∷ []) ≡ concat xss ++ xs
concat_behind [] xs = append-nil xs
concat_behind (ys ∷ xss) xs = ap (λ t. ys ++ t) (concat_behind xss xs) ∙ sym (append_assoc ys (concat xss) xs)

pub one_more : (f : ℕ → List ℕ) (n : ℕ) (old now new : List ℕ) → now ≡ old ++ concat (map f (range_with_len 0 n)) → new ≡ now ++ f n → new ≡ old ++ concat (map f (range_with_len 0 (n + 1)))
one_more f n old now new first second =
    second ∙ (ap (λ t. t ++ f n) first ∙ (append_assoc old _ _ ∙ ap (λ t. old ++ t) (sym (ap concat (map-range_with_len_more f 0 n n (omega arith)) ∙ concat_behind (map f (range_with_len 0 n)) (f n)))))

pub two_behind : (old now new a b : List ℕ) → now ≡ old ++ a → new ≡ now ++ b → new ≡ old ++ (a ++ b)
two_behind old now new a b first second = second ∙ (ap (λ t. t ++ b) first ∙ append_assoc old a b)

pub three_behind : (old one two new a b c : List ℕ) → one ≡ old ++ a → two ≡ one ++ b → new ≡ two ++ c → new ≡ old ++ (a ++ (b ++ c))
three_behind old one two new a b c first second third = two_behind old one new a (b ++ c) first (two_behind one two new b c second third)

pub four_behind : (old one two three new a b c d : List ℕ) → one ≡ old ++ a → two ≡ one ++ b → three ≡ two ++ c → new ≡ three ++ d → new ≡ old ++ (a ++ (b ++ (c ++ d)))
four_behind old one two three new a b c d first second third fourth = two_behind old one new a (b ++ (c ++ d)) first (three_behind one two three new b c d second third fourth)
