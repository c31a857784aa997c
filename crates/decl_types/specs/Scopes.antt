-- Definition: the innermost of the open scopes is left (C11 6.2.1p4).
use Rattle.std.specs.Prelude.{◌≡◌, List, [], ◌∷◌, ◌++◌}
use Rattle.name_scopes.specs.Scopes.{Scope}

abbrev pub Leaves : {T : Type 0} → List (Scope T) → List (Scope T) → Type 0
Leaves {T} before after = (innermost : Scope T) × (before ≡ after ++ innermost ∷ [])
