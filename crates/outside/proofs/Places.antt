-- The first file of a name, found by going along the list.
use Rattle.std.proofs.Common.{◌≡◌, ℕ, zero, suc, ◌<◌, List, [], ◌∷◌, Vec, String, true, Some, drop, length, get_or, refl, arith}
use Rattle.std.specs.Global.{Global}
use Rattle.std.specs.Str.{bytes_eq}
use Rattle.std.specs.String.{string_bytes}
use Rattle.outside.specs.Named.{find_file}
use Rattle.outside.specs.InMemory.{names_in, file_at}

-- a file of that name stands first
pub found_here : (name : List ℕ) (files : List (String Global × Vec ℕ Global)) (i : ℕ) (d : String Global × Vec ℕ Global) → i < length files
    → bytes_eq (string_bytes (get_or files i d).0) name ≡ true
    → find_file name (names_in (drop i files)) ≡ Some (file_at files i)
found_here name [] i d less same = absurd (omega arith)
found_here name (file ∷ files) zero d less same = rw same refl
found_here name (file ∷ files) (suc i) d less same = found_here name files i d (omega arith) same
