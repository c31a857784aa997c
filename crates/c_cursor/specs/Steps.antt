-- Device: what a loop of the code has done, against the whole reading.
use Rattle.std.specs.Prelude.{◌≡◌, ℕ, ◌-◌, ◌≤◌, Bool, List, [], ◌∷◌, ◌++◌, length, drop, Option, Result}
use Rattle.c_tree.specs.Spelling.{Lexeme}
use Rattle.c_cursor.specs.Readers.{Input, input, Reader, bind, pure, chain}

-- the steps of a chain that are left, from what was read so far, give the whole; at least m of them may still come
unfoldable pub Going : {A : Type 0} → (A → Option Lexeme → Bool) → (A → Reader A) → ℕ → A → Input → Result (A × Input) Input → Type 0
Going goes step m x i whole = (n : ℕ) × (m ≤ n) × (chain goes step n x i ≡ whole)

-- a list of tokens
unfoldable pub Collecting : {A : Type 0} → (List A → Option Lexeme → Bool) → Reader A → List Lexeme → ℕ → List A → Result (List A × Input) Input → Type 0
Collecting goes item all at xs whole = Going goes (λ ys. bind item (λ v. pure (ys ++ v ∷ []))) (length all - at) xs (input at (drop at all)) whole
