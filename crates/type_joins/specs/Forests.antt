-- Device: numbers in trees that lead to lesser ones, and the root of each.
use Rattle.std.specs.Prelude.{ℕ, zero, suc, ◌≤◌, cond, nat_eq, List, length, get_or}

abbrev pub parent : List ℕ → ℕ → ℕ
parent ps x = get_or ps x x

-- k steps up
abbrev pub up : List ℕ → ℕ → ℕ → ℕ
up ps zero x = x
up ps (suc k) x = up ps k (parent ps x)

abbrev pub root : List ℕ → ℕ → ℕ
root ps x = up ps (length ps) x

abbrev pub IsForest : List ℕ → Type 0
IsForest ps = (x : ℕ) → parent ps x ≤ x

-- the roots once one leads to another
abbrev pub joined : ℕ → ℕ → (ℕ → ℕ) → ℕ → ℕ
joined low high r x = cond (nat_eq (r x) high) low (r x)
