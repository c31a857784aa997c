-- Device: truth values as the code computes them, kept apart from what they tell, and whether a test holds of each element of a list.
use Rattle.std.specs.Prelude.{◌≡◌, ℕ, Bool, true, ◌&&◌, List, [], ◌∷◌, drop}

unfoldable pub told : Bool → Bool
told b = b

-- the test holds of each element
abbrev pub all_of : {A : Type 0} → (A → Bool) → List A → Bool
all_of f [] = true
all_of f (x ∷ xs) = f x && all_of f xs

-- `so_far` tells whether the test holds of the first i places
unfoldable pub AllSoFar : {A : Type 0} → (A → Bool) → List A → ℕ → Bool → Type 0
AllSoFar f xs i so_far = (b : Bool) × (so_far ≡ told b) × ((b && all_of f (drop i xs)) ≡ all_of f xs)
