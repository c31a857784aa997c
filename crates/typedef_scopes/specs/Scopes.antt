-- Definition: the names that are declared in each open scope, and which of them are typedef names (C11 6.2.1, 6.2.3: typedef names share the name space of ordinary identifiers).
use Rattle.std.specs.Prelude.{List, [], ◌∷◌, ◌++◌, Bool, false, nat_eq, if◌then◌else◌}
use Rattle.cil_base.specs.declared.numbers.NameId.{NameId}

-- the declarations of one scope in order: each name, and whether it is declared as a typedef name
abbrev pub Scope : Type 0
Scope = List (NameId × Bool)

-- whether a name is a typedef name behind the declarations, where `before` says so of it in front of them: the last declaration decides
abbrev pub type_in : NameId → Bool → Scope → Bool
type_in n before [] = before
type_in n before (d ∷ ds) = type_in n (if nat_eq d.0.0 n.0 then d.1 else before) ds

-- the same for scopes from the outermost on: the innermost one that declares the name decides (6.2.1p4)
abbrev pub type_behind : NameId → Bool → List Scope → Bool
type_behind n before [] = before
type_behind n before (s ∷ ss) = type_behind n (type_in n before s) ss

-- whether the name is a typedef name in scope; a name that is not declared is none
abbrev pub is_type : List Scope → NameId → Bool
is_type scopes n = type_behind n false scopes

-- one declaration more in the innermost scope
abbrev pub declared : NameId → Bool → List Scope → List Scope
declared n is_typedef [] = []
declared n is_typedef (s ∷ []) = (s ++ (n, is_typedef) ∷ []) ∷ []
declared n is_typedef (s ∷ t ∷ ss) = s ∷ declared n is_typedef (t ∷ ss)
