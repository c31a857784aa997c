-- Texts one behind the other.
use Rattle.std.proofs.Common.{◌≡◌, ℕ, List, [], ◌∷◌, ◌++◌, append_assoc, append-nil, ap, sym, ◌∙◌}
use Rattle.std.specs.List.{concat}

pub two_behind : (old now new a b : List ℕ) → now ≡ old ++ a → new ≡ now ++ b → new ≡ old ++ (a ++ b)
two_behind old now new a b first second = second ∙ (ap (λ t. t ++ b) first ∙ append_assoc old a b)

pub three_behind : (old one two new a b c : List ℕ) → one ≡ old ++ a → two ≡ one ++ b → new ≡ two ++ c → new ≡ old ++ (a ++ (b ++ c))
three_behind old one two new a b c first second third = two_behind old one new a (b ++ c) first (two_behind one two new b c second third)

pub five_behind : (old one two three four new a b c d e : List ℕ) → one ≡ old ++ a → two ≡ one ++ b → three ≡ two ++ c → four ≡ three ++ d → new ≡ four ++ e → new ≡ old ++ (a ++ (b ++ (c ++ (d ++ e))))
five_behind old one two three four new a b c d e first second third fourth fifth =
    two_behind old one new a (b ++ (c ++ (d ++ e))) first (two_behind one two new b (c ++ (d ++ e)) second (three_behind two three four new c d e third fourth fifth))
