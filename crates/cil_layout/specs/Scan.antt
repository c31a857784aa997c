-- Device: how lines are found laid out from left to right.
use Rattle.std.specs.Prelude.{ℕ, zero, suc, ◌*◌, ◌-◌, ◌&&◌, nat_eq, Bool, if◌then◌else◌, List, [], ◌∷◌, Option, Some, None}
use Rattle.std.specs.Option.{option_and_then}
use Rattle.cil_tree.specs.Lines.{Token, opens, closes, open_behind}
use Rattle.cil_tree.specs.Declarators.{words_from}
use Rattle.cil_tree.specs.LaidOut.{without_blanks, pieces_of, is_token, is_laid_out}

abbrev pub one_closed : ℕ → Option ℕ
one_closed zero = None
one_closed (suc braces) = Some braces

-- the braces that are open behind a token, if it may stand there
abbrev pub behind_token : ℕ → Token → Option ℕ
behind_token braces token =
    if is_token token then (if opens token then Some (suc braces) else (if closes token then one_closed braces else Some braces)) else None

abbrev pub read_words : ℕ → List Token → Option ℕ
read_words braces [] = Some braces
read_words braces (token ∷ tokens) = option_and_then (λ (b : ℕ). read_words b tokens) (behind_token braces token)

-- how many blanks stand in front
abbrev pub blanks_of : List ℕ → ℕ
blanks_of [] = 0
blanks_of (b ∷ bytes) = if nat_eq b 32 then suc (blanks_of bytes) else 0

abbrev pub less_if : Bool → ℕ → ℕ
less_if test braces = if test then braces - 1 else braces

-- the braces in which a line stands whose words are these bytes
abbrev pub seen_depth : ℕ → List ℕ → ℕ
seen_depth braces [] = braces
seen_depth braces (a ∷ []) = less_if (nat_eq a 125) braces
seen_depth braces (a ∷ b ∷ bytes) = less_if (nat_eq a 125 && nat_eq b 32) braces

-- the braces that are open behind a line without its line feed, if it is laid out
abbrev pub read_line : ℕ → List ℕ → Option ℕ
read_line braces text = if nat_eq (blanks_of text) (2 * seen_depth braces (without_blanks text)) then read_words braces (words_from [] (without_blanks text)) else None

-- the same, by the definition of lines that are laid out
abbrev pub line_state : ℕ → List ℕ → Option ℕ
line_state braces line = if is_laid_out braces line then Some (open_behind braces (pieces_of line)) else None
