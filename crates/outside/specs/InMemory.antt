-- Definition: the objects in memory as contracts see them. A call fails where its number is in `fails`.
use Rattle.std.specs.Prelude.{ℕ, zero, suc, List, [], map, slice_get, Vec, String, Option, Some, None}
use Rattle.std.specs.Option.{option_map_or}
use Rattle.std.specs.Global.{Global}
use Rattle.std.specs.String.{string_bytes}
use Rattle.outside.specs.Counts.{next_number}
use Rattle.outside.specs.Named.{Told}

-- the next number after a call with a buffer or piece of this length: with an empty one it has none
abbrev pub number_after : ℕ → ℕ → ℕ
number_after zero number = number
number_after (suc _) number = next_number number

-- the count of strays after a call that opens a name with these bytes
abbrev pub strays_after : Option (List ℕ) → ℕ → ℕ
strays_after None strays = next_number strays
strays_after (Some _) strays = strays

-- files: those under each name, what is left of the open one, and the number of the next call
pub record FilesState : Type 0 where
  pub names : List (List ℕ × List ℕ)
  pub left : List ℕ
  pub fails : List ℕ
  pub number : ℕ
  pub faults : ℕ
  pub strays : ℕ

-- the names of the files, each with its bytes
abbrev pub names_in : List (String Global × Vec ℕ Global) → List (List ℕ × List ℕ)
names_in files = map (λ file. (string_bytes file.0, file.1.items)) files

-- the bytes of the file at a place, or none where no file is there
abbrev pub file_at : List (String Global × Vec ℕ Global) → ℕ → List ℕ
file_at files place = option_map_or (λ file. file.1.items) (slice_get files place) []

-- what files in memory tell
abbrev pub files_told : FilesState → Told
files_told s = record { names = s.names; left = s.left }

-- a source: what is left, the most bytes that a call moves, and the number of the next call
pub record SourceState : Type 0 where
  pub left : List ℕ
  pub piece : ℕ
  pub fails : List ℕ
  pub number : ℕ
  pub faults : ℕ

-- a sink: what it took, the most bytes that a call moves, its room, and the number of the next call
pub record SinkState : Type 0 where
  pub taken : List ℕ
  pub piece : ℕ
  pub room : ℕ
  pub fails : List ℕ
  pub number : ℕ
  pub faults : ℕ
