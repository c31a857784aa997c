-- Definition: the names of the functions that the host gives to programs (own): those whose calls have a meaning today, then those that are reserved beside them.
use Rattle.std.specs.Prelude.{ℕ, Bool, List, [], ◌∷◌, ◌++◌, codes}
use Rattle.std.specs.List.{list_any}
use Rattle.std.specs.Str.{bytes_eq}

-- the functions whose calls have a meaning
abbrev pub called_names : List (List ℕ)
called_names = codes "getchar" ∷ codes "putchar" ∷ codes "exit" ∷ codes "abort" ∷ codes "malloc" ∷ codes "free" ∷ codes "__builtin_memset" ∷ []

-- the functions whose names are reserved
abbrev pub reserved_names : List (List ℕ)
reserved_names = codes "puts" ∷ codes "printf" ∷ codes "memcpy" ∷ codes "memset" ∷ codes "memcmp" ∷ codes "strlen" ∷ codes "strcmp" ∷ codes "calloc" ∷ codes "isdigit" ∷ codes "abs" ∷ []

abbrev pub host_names : List (List ℕ)
host_names = called_names ++ reserved_names

-- the text is a name of the host
abbrev pub is_host_name : List ℕ → Bool
is_host_name text = list_any (bytes_eq text) host_names
