-- Definition: the bytes that files have under names, and what is read of one (own).
use Rattle.std.specs.Prelude.{◌≡◌, ℕ, ◌<◌, ◌≤◌, List, [], ◌∷◌, ◌++◌, length, Option, Some}
use Rattle.std.specs.Option.{option_and_then, option_map}
use Rattle.outside.specs.Named.{Told, find_file}

-- the bytes under a name, where the files tell them and the name is there
abbrev pub bytes_under : Option Told → List ℕ → Option (List ℕ)
bytes_under told name = option_and_then (λ t. find_file name t.names) told

-- the bytes under each of some names, where all are there
abbrev pub found_all : List (List ℕ × List ℕ) → List (List ℕ) → Option (List (List ℕ))
found_all files [] = Some []
found_all files (name ∷ names) = option_and_then (λ bytes. option_map (λ more. bytes ∷ more) (found_all files names)) (find_file name files)

abbrev pub all_under : Option Told → List (List ℕ) → Option (List (List ℕ))
all_under told names = option_and_then (λ t. found_all t.names names) told

-- what was read of a file: all of its bytes, or as many as the limit
pub record IsFrontOf (limit : ℕ) (bytes file : List ℕ) : Type 0 where
  pub rest : List ℕ
  pub parts : file ≡ bytes ++ rest
  pub within : length bytes ≤ limit
  pub end : length bytes < limit → rest ≡ []
