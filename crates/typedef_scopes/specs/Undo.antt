-- Device: a log of declarations that keeps what each name was before, by which a scope is left at the cost of what it declared.
use Rattle.std.specs.Prelude.{◌≡◌, ℕ, ◌<◌, ◌≤◌, List, [], ◌∷◌, Bool, false, nat_eq, length, get_or, if◌then◌else◌}
use Rattle.cil_base.specs.declared.numbers.NameId.{NameId}
use Rattle.typedef_scopes.specs.declared.log.Declaration.{Declaration}

-- the declaration that an entry keeps
abbrev pub pair_of : Declaration → NameId × Bool
pair_of d = (d.name, d.is_typedef)

-- what names are behind an entry
abbrev pub told : (ℕ → Bool) → Declaration → ℕ → Bool
told before d n = if nat_eq d.name.0 n then d.is_typedef else before n

abbrev pub told_all : (ℕ → Bool) → List Declaration → ℕ → Bool
told_all before [] n = before n
told_all before (d ∷ ds) n = told_all (told before d) ds n

abbrev pub told_scopes : (ℕ → Bool) → List (List Declaration) → ℕ → Bool
told_scopes before [] n = before n
told_scopes before (s ∷ ss) n = told_scopes (told_all before s) ss n

-- each entry keeps what its name was before it, and its name is below the bound
abbrev pub IsLog : ℕ → (ℕ → Bool) → List Declaration → Type 0
IsLog bound before [] = Unit {0}
IsLog bound before (d ∷ ds) = (d.name.0 < bound) × (d.was_typedef ≡ before d.name.0) × IsLog bound (told before d) ds

abbrev pub AreLogs : ℕ → (ℕ → Bool) → List (List Declaration) → Type 0
AreLogs bound before [] = Unit {0}
AreLogs bound before (s ∷ ss) = IsLog bound before s × AreLogs bound (told_all before s) ss

-- the table has what names are
abbrev pub Tells : (ℕ → Bool) → List Bool → Type 0
Tells now table = (n : ℕ) → get_or table n false ≡ now n

-- the log and the table agree, with what names are in front of the log
pub record Agree (before : ℕ → Bool) (table : List Bool) (scope : List Declaration) : Type 0 where
  pub log : IsLog (length table) before scope
  pub tells : Tells (told_all before scope) table

-- no name is a typedef name in front of all declarations
abbrev pub nothing : ℕ → Bool
nothing n = false

-- the same for the declarations of all scopes
pub record InStep (table : List Bool) (outer : List (List Declaration)) (inner : List Declaration) : Type 0 where
  pub logs : AreLogs (length table) nothing outer
  pub last : Agree (told_scopes nothing outer) table inner

-- the table has grown, and has what it had
pub record Grown (old new : List Bool) : Type 0 where
  pub longer : length old ≤ length new
  pub same : (n : ℕ) → get_or new n false ≡ get_or old n false
