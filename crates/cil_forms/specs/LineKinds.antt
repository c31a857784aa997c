-- Device: what a line is, by the code's steps.
use Rattle.std.specs.Prelude.{ℕ, Bool, true, false, List, [], ◌∷◌, Option, Some, None}
use Rattle.cil_text.specs.Words.{Word, ExternWord, StaticWord}
use Rattle.cil_text.specs.ReadTypes.{skip_one}
use Rattle.cil_text.specs.ReadAggregates.{Lines}
use Rattle.cil_text.specs.ReadGlobals.{own_name}
use Rattle.cil_scan.specs.declared.words.Word.{Word as Seen}
use Rattle.cil_scan.specs.declared.words.Word.TheVariants as word

abbrev pub is_name : Seen → Bool
is_name (word.Name text) = true
is_name _ = false

-- behind a word that is no name, and a tag behind that
abbrev pub behind_word : Seen → List Word → List Word
behind_word (word.TagWord kind) ws = skip_one ws
behind_word _ ws = ws

abbrev pub is_assign : Seen → Bool
is_assign word.Assign = true
is_assign _ = false

-- what the next line defines
abbrev pub next_name : Lines → Option (List ℕ)
next_name [] = None
next_name (line ∷ lines) = own_name line

-- whether a storage class makes a global internal, if one comes first
abbrev pub storage : List Word → Option (Bool × List Word)
storage (ExternWord ∷ ws) = Some (false, ws)
storage (StaticWord ∷ ws) = Some (true, ws)
storage _ = None
