-- Device: what becomes of the bytes of the first unit.
use Rattle.std.specs.Prelude.{ℕ, List, [], ◌∷◌}
use Rattle.c_meaning.specs.SourceFile.{SourceFile}

-- the file whose name is the first of the pool
abbrev pub file_in : List (List ℕ) → List ℕ → SourceFile
file_in [] unit = record { name = []; bytes = unit }
file_in (name ∷ names) unit = record { name = name; bytes = unit }

-- one name stands in the pool
abbrev pub IsAlone : List (List ℕ) → Type 0
IsAlone (name ∷ []) = Unit {0}
IsAlone _ = ⊥
