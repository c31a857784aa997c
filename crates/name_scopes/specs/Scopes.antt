-- Definition: the declarations of each open scope, and what each name stands for in them (C11 6.2.1, 6.2.3).
use Rattle.std.specs.Prelude.{List, [], ◌∷◌, ◌++◌, Option, Some, None, nat_eq, if◌then◌else◌}
use Rattle.cil_base.specs.declared.numbers.NameId.{NameId}

-- the declarations of one scope in order: each name, and what it stands for
abbrev pub Scope : Type 0 → Type 0
Scope T = List (NameId × T)

-- what a name stands for behind the declarations, where `before` says it of the name in front of them: the last declaration decides
abbrev pub found_in : {T : Type 0} → NameId → Option T → Scope T → Option T
found_in n before [] = before
found_in n before (d ∷ ds) = found_in n (if nat_eq d.0.0 n.0 then Some d.1 else before) ds

-- the same for scopes from the outermost on: the innermost one that declares the name decides (6.2.1p4)
abbrev pub found_behind : {T : Type 0} → NameId → Option T → List (Scope T) → Option T
found_behind n before [] = before
found_behind n before (s ∷ ss) = found_behind n (found_in n before s) ss

-- what the name stands for where the scopes are open; nothing where it is not declared
abbrev pub found : {T : Type 0} → List (Scope T) → NameId → Option T
found scopes n = found_behind n None scopes

-- one declaration more in the innermost scope
abbrev pub declared : {T : Type 0} → NameId → T → List (Scope T) → List (Scope T)
declared n v [] = []
declared n v (s ∷ []) = (s ++ (n, v) ∷ []) ∷ []
declared n v (s ∷ t ∷ ss) = s ∷ declared n v (t ∷ ss)
