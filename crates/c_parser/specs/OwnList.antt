-- Device: scopes that the code has reached when it went through the first places of a list.
use Rattle.std.specs.Prelude.{◌≡◌, ℕ, List, [], ◌∷◌, drop}
use Rattle.typedef_scopes.specs.Scopes.{Scope}

-- the scopes behind a list, each of whose elements changes them so
abbrev pub folded : {A : Type 0} → (List Scope → A → List Scope) → List Scope → List A → List Scope
folded f scopes [] = scopes
folded f scopes (x ∷ xs) = folded f (f scopes x) xs

-- `now` are the scopes behind the first i places, where `start` are those in front of the list
unfoldable pub Reaches : {A : Type 0} → (List Scope → A → List Scope) → List Scope → List A → ℕ → List Scope → Type 0
Reaches f start xs i now = folded f now (drop i xs) ≡ folded f start xs
