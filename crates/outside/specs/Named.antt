-- Definition: what files tell: the bytes under each name, and what is left of the file that is open.
use Rattle.std.specs.Prelude.{◌≡◌, ℕ, ◌≤◌, List, [], ◌∷◌, Option, Some, None, IsSome, IfSome, unwrap_or, if◌then◌else◌}
use Rattle.std.specs.Option.{option_map}
use Rattle.std.specs.Str.{bytes_eq}
use Rattle.outside.specs.Counts.{Rose}

-- the bytes under each name, and what is left of the file that is open
pub record Told : Type 0 where
  pub names : List (List ℕ × List ℕ)
  pub left : List ℕ

abbrev pub names_of : Option Told → Option (List (List ℕ × List ℕ))
names_of told = option_map (λ t. t.names) told

abbrev pub left_of : Option Told → Option (List ℕ)
left_of told = option_map (λ t. t.left) told

-- the bytes under a name: of two files with one name the first counts
abbrev pub find_file : List ℕ → List (List ℕ × List ℕ) → Option (List ℕ)
find_file name [] = None
find_file name (file ∷ files) = if bytes_eq file.0 name then Some file.1 else find_file name files

-- the same files, with these bytes left
abbrev pub with_left : List ℕ → Told → Told
with_left bytes told = record { names = told.names; left = bytes }

-- the name is there, and its bytes are left
pub record Opens (told told' : Option Told) (name : List ℕ) : Type 0 where
  pub there : IfSome told (λ t. IsSome (find_file name t.names))
  pub now : told' ≡ option_map (λ t. with_left (unwrap_or (find_file name t.names) []) t) told

-- a count of strays over one call that opens the name: it rises exactly where the name is not there
pub record Strays (told : Option Told) (name : List ℕ) (before now : ℕ) : Type 0 where
  pub later : before ≤ now
  pub stays : IfSome told (λ t. IsSome (find_file name t.names) → now ≡ before)
  pub rises : IfSome told (λ t. find_file name t.names ≡ None → Rose before now)
