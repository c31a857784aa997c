-- Definition: the lines that begin with `#` (C11 6.10.4, 6.10.6, as a preprocessor leaves them; their exact form is own).
use Rattle.std.specs.Prelude.{ℕ, suc, ◌+◌, ◌-◌, ◌*◌, Bool, true, false, not, ◌&&◌, ◌||◌, ◌==◌, nat_le, nat_eq, List, [], ◌∷◌, ◌++◌, length, take, drop, Option, Some, None, if◌then◌else◌, codes}
use Rattle.std.specs.Char.{is_ascii_digit}
use Rattle.std.specs.Int.{is_in_range}
use Rattle.std.specs.List.{ends_with}
use Rattle.std.specs.Str.{bytes_eq}
use Rattle.c_lexer.specs.Bytes.{is_blank, is_word_byte}
use Rattle.c_lexer.specs.Languages.{is_nil}

abbrev pub behind_blanks : List ℕ → List ℕ
behind_blanks [] = []
behind_blanks (b ∷ bs) = if is_blank b then behind_blanks bs else b ∷ bs

-- decimal digits as a number that goes on from `value`, and what stands behind them; none above 2147483647
abbrev pub number_from : ℕ → List ℕ → Option (ℕ × List ℕ)
number_from value [] = Some (value, [])
number_from value (b ∷ bs) = if is_ascii_digit b then (if nat_le (value * 10 + (b - 48)) 2147483647 then number_from (value * 10 + (b - 48)) bs else None) else Some (value, b ∷ bs)

-- a number from 0 to 2147483647 in decimal, without a leading zero, and what stands behind it
abbrev pub number_at : List ℕ → Option (ℕ × List ℕ)
number_at [] = None
number_at (b ∷ bs) = if b == 48 then Some (0, bs) else (if is_ascii_digit b then number_from (b - 48) bs else None)

-- how many bytes stand before the quote that closes a file name, `at` of which are read; a backslash takes the byte behind it with it
abbrev pub file_len : ℕ → Bool → List ℕ → Option ℕ
file_len at escaped [] = None
file_len at escaped (b ∷ bs) = if not escaped && b == 34 then Some at else file_len (suc at) (not escaped && b == 92) bs

-- the byte, with the backslash before it if that stands for itself: `\\` stands for a backslash and `\"` for a quote
abbrev pub unescaped : Bool → ℕ → List ℕ
unescaped escaped b = if escaped then (if b == 92 || b == 34 then b ∷ [] else 92 ∷ b ∷ []) else (if b == 92 then [] else b ∷ [])

-- the file's name
abbrev pub file_of : Bool → List ℕ → List ℕ
file_of escaped [] = []
file_of escaped (b ∷ bs) = unescaped escaped b ++ file_of (not escaped && b == 92) bs

-- flags from 1 to 4, each behind a blank, up to the line's end
abbrev pub are_flags : Bool → List ℕ → Bool
are_flags blank [] = true
are_flags blank (b ∷ bs) = if b == 10 then is_nil bs else (if is_blank b then are_flags true bs else (blank && is_in_range 49 52 b) && are_flags false bs)

-- what a line says
pub data Line : Type 0 where
  Marker : (line : ℕ) (file : List ℕ) → Line
  Pragma : Line
  Pack : Line
  Bad : Line

-- behind the opening quote of a marker's file name, of which n bytes are the name
abbrev pub marker_end : ℕ → List ℕ → Option ℕ → Line
marker_end line bytes None = Bad
marker_end line bytes (Some n) = if are_flags false (drop (n + 1) bytes) then Marker line (file_of false (take n bytes)) else Bad

-- behind a marker's number and blanks
abbrev pub marker_file : ℕ → List ℕ → Line
marker_file line [] = Bad
marker_file line (b ∷ bs) = if b == 34 then marker_end line bs (file_len 0 false bs) else Bad

abbrev pub marker_rest : Option (ℕ × List ℕ) → Line
marker_rest None = Bad
marker_rest (Some found) = marker_file found.0 (behind_blanks found.1)

-- a line marker behind its `#` and blanks: a number, a file name in quotes, flags
abbrev pub marker : List ℕ → Line
marker bytes = marker_rest (number_at bytes)

abbrev pub ends_word : List ℕ → Bool
ends_word [] = true
ends_word (b ∷ bs) = not (is_word_byte b)

-- the bytes begin with the word, and it ends there
abbrev pub begins_with_word : List ℕ → List ℕ → Bool
begins_with_word word bytes = bytes_eq (take (length word) bytes) word && ends_word (drop (length word) bytes)

-- a backslash stands directly before the line's end
abbrev pub ends_with_backslash : List ℕ → Bool
ends_with_backslash bytes = ends_with nat_eq bytes (92 ∷ []) || ends_with nat_eq bytes (92 ∷ 10 ∷ [])

-- behind the word `pragma`
abbrev pub pragma : List ℕ → Line
pragma bytes = if ends_with_backslash bytes then Bad else (if begins_with_word (codes "pack") (behind_blanks bytes) then Pack else Pragma)

abbrev pub line_behind_hash : List ℕ → Line
line_behind_hash bytes = if begins_with_word (codes "pragma") bytes then pragma (drop 6 bytes) else marker bytes

-- a line from its `#` on
abbrev pub line_of : List ℕ → Line
line_of text = line_behind_hash (behind_blanks (drop 1 text))

-- the line has its line feed
abbrev pub has_line_feed : List ℕ → Bool
has_line_feed text = ends_with nat_eq text (10 ∷ [])
