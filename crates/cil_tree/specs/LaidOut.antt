-- Definition: which bytes are lines as a text has them, and the place at which bytes that are no CIL text are refused (own).
use Rattle.std.specs.Prelude.{ℕ, ◌+◌, ◌&&◌, ◌||◌, Bool, true, false, nat_eq, nat_lt, if◌then◌else◌, List, [], ◌∷◌, ◌++◌, codes, length}
use Rattle.std.specs.List.{list_all}
use Rattle.std.specs.Str.{bytes_eq}
use Rattle.cil_base.specs.Limits.{text_bytes}
use Rattle.cil_tree.specs.Lines.{Token, closes, open_behind, line_bytes}
use Rattle.cil_tree.specs.Declarators.{words_from}
use Rattle.cil_tree.specs.Names.{goes_on_word, is_among}

-- the lines of a file, each with its line feed; the last one may have none
abbrev pub lines_from : List ℕ → List ℕ → List (List ℕ)
lines_from [] [] = []
lines_from (c ∷ line) [] = (c ∷ line) ∷ []
lines_from line (b ∷ bytes) = if nat_eq b 10 then (line ++ b ∷ []) ∷ lines_from [] bytes else lines_from (line ++ b ∷ []) bytes

-- the punctuators of C11 6.4.6p1, in each spelling
abbrev pub punctuators : List Token
punctuators =
    codes "[" ∷ codes "]" ∷ codes "(" ∷ codes ")" ∷ codes "{" ∷ codes "}" ∷ codes "." ∷ codes "->" ∷ codes "++" ∷ codes "--" ∷ codes "&" ∷ codes "*" ∷ codes "+" ∷ codes "-" ∷ codes "~" ∷ codes "!"
    ∷ codes "/" ∷ codes "%" ∷ codes "<<" ∷ codes ">>" ∷ codes "<" ∷ codes ">" ∷ codes "<=" ∷ codes ">=" ∷ codes "==" ∷ codes "!=" ∷ codes "^" ∷ codes "|" ∷ codes "&&" ∷ codes "||"
    ∷ codes "?" ∷ codes ":" ∷ codes ";" ∷ codes "..." ∷ codes "=" ∷ codes "*=" ∷ codes "/=" ∷ codes "%=" ∷ codes "+=" ∷ codes "-=" ∷ codes "<<=" ∷ codes ">>=" ∷ codes "&=" ∷ codes "^=" ∷ codes "|="
    ∷ codes "," ∷ codes "#" ∷ codes "##" ∷ codes "<:" ∷ codes ":>" ∷ codes "<%" ∷ codes "%>" ∷ codes "%:" ∷ codes "%:%:" ∷ []

-- letters, digits and underscores
abbrev pub is_word : Token → Bool
is_word [] = false
is_word (b ∷ bytes) = list_all goes_on_word (b ∷ bytes)

abbrev pub is_token : Token → Bool
is_token token = is_word token || is_among punctuators token

-- no `}` stands where no brace is open
abbrev pub closes_open : ℕ → List Token → Bool
closes_open braces [] = true
closes_open braces (token ∷ tokens) = (if closes token then nat_lt 0 braces else true) && closes_open (open_behind braces (token ∷ [])) tokens

abbrev pub without_last : List ℕ → List ℕ
without_last [] = []
without_last (b ∷ []) = []
without_last (b ∷ c ∷ bytes) = b ∷ without_last (c ∷ bytes)

abbrev pub without_blanks : List ℕ → List ℕ
without_blanks [] = []
without_blanks (b ∷ bytes) = if nat_eq b 32 then without_blanks bytes else b ∷ bytes

-- what stands between the blanks of a line
abbrev pub pieces_of : List ℕ → List Token
pieces_of line = words_from [] (without_blanks (without_last line))

-- a line in so many braces is one or more words and punctuators as a text lays them out, and closes only what is open
abbrev pub is_laid_out : ℕ → List ℕ → Bool
is_laid_out braces line = list_all is_token (pieces_of line) && (closes_open braces (pieces_of line) && bytes_eq line (line_bytes braces (pieces_of line)))

-- the place of the first line that is not laid out, or of the end
abbrev pub first_bad : ℕ → ℕ → List (List ℕ) → ℕ
first_bad braces at [] = at
first_bad braces at (line ∷ lines) = if is_laid_out braces line then first_bad (open_behind braces (pieces_of line)) (at + length line) lines else at

-- the place that is named for bytes that are no CIL text
abbrev pub bad_place : List ℕ → ℕ
bad_place bytes = if nat_lt text_bytes (length bytes) then text_bytes else first_bad 0 0 (lines_from [] bytes)
