-- Device: heights as the code computes them, capped at the greatest number of 32 bits, and the greatest of a list.
use Rattle.std.specs.Prelude.{◌≡◌, ℕ, min, max, List, [], ◌∷◌, drop}

unfoldable pub capped : ℕ → ℕ
capped n = min n 4294967295

-- the greatest value of f in a list
abbrev pub most_of : {A : Type 0} → (A → ℕ) → List A → ℕ
most_of f [] = 0
most_of f (x ∷ xs) = max (f x) (most_of f xs)

-- the greatest value, capped, of the first i places
unfoldable pub Highest : {A : Type 0} → (A → ℕ) → List A → ℕ → ℕ → Type 0
Highest f xs i most = (n : ℕ) × (most ≡ capped n) × (max n (most_of f (drop i xs)) ≡ most_of f xs)
