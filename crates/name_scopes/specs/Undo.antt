-- Device: a log of declarations that keeps what each name stood for before, by which a scope is left at the cost of what it declared.
use Rattle.std.specs.Prelude.{◌≡◌, ℕ, ◌<◌, ◌≤◌, List, [], ◌∷◌, Option, Some, None, nat_eq, length, get_or, if◌then◌else◌}
use Rattle.cil_base.specs.declared.numbers.NameId.{NameId}
use Rattle.name_scopes.specs.declared.log.Entry.{Entry}

-- the declaration that an entry keeps
abbrev pub pair_of : {T : Type 0} → Entry T → NameId × T
pair_of d = (d.name, d.value)

-- what names stand for behind an entry
abbrev pub told : {T : Type 0} → (ℕ → Option T) → Entry T → ℕ → Option T
told before d n = if nat_eq d.name.0 n then Some d.value else before n

abbrev pub told_all : {T : Type 0} → (ℕ → Option T) → List (Entry T) → ℕ → Option T
told_all before [] n = before n
told_all before (d ∷ ds) n = told_all (told before d) ds n

abbrev pub told_scopes : {T : Type 0} → (ℕ → Option T) → List (List (Entry T)) → ℕ → Option T
told_scopes before [] n = before n
told_scopes before (s ∷ ss) n = told_scopes (told_all before s) ss n

-- each entry keeps what its name stood for before it, and its name is below the bound
abbrev pub IsLog : {T : Type 0} → ℕ → (ℕ → Option T) → List (Entry T) → Type 0
IsLog bound before [] = Unit {0}
IsLog bound before (d ∷ ds) = (d.name.0 < bound) × (d.before ≡ before d.name.0) × IsLog bound (told before d) ds

abbrev pub AreLogs : {T : Type 0} → ℕ → (ℕ → Option T) → List (List (Entry T)) → Type 0
AreLogs bound before [] = Unit {0}
AreLogs bound before (s ∷ ss) = IsLog bound before s × AreLogs bound (told_all before s) ss

-- the table has what names stand for
abbrev pub Tells : {T : Type 0} → (ℕ → Option T) → List (Option T) → Type 0
Tells now table = (n : ℕ) → get_or table n None ≡ now n

-- the log and the table agree, with what names stand for in front of the log
pub record Agree {T : Type 0} (before : ℕ → Option T) (table : List (Option T)) (scope : List (Entry T)) : Type 0 where
  pub log : IsLog (length table) before scope
  pub tells : Tells (told_all before scope) table

-- no name is declared in front of all declarations
abbrev pub nothing : {T : Type 0} → ℕ → Option T
nothing n = None

-- the same for the declarations of all scopes
pub record InStep {T : Type 0} (table : List (Option T)) (outer : List (List (Entry T))) (inner : List (Entry T)) : Type 0 where
  pub logs : AreLogs (length table) nothing outer
  pub last : Agree (told_scopes nothing outer) table inner

-- the table has grown, and has what it had
pub record Grown {T : Type 0} (old new : List (Option T)) : Type 0 where
  pub longer : length old ≤ length new
  pub same : (n : ℕ) → get_or new n None ≡ get_or old n None
