-- Definition: how lines of tokens are laid out (own): each line is its tokens with one blank between two, behind two blanks for each brace that is still open, and ends with a line feed. A brace that a line begins with closes before it.
use Rattle.std.specs.Prelude.{ℕ, suc, ◌*◌, ◌-◌, Bool, if◌then◌else◌, List, [], ◌∷◌, ◌++◌, replicate, codes}
use Rattle.std.specs.List.{join_with_byte}
use Rattle.std.specs.Str.{bytes_eq}

-- a token by its bytes
abbrev pub Token : Type 0
Token = List ℕ

abbrev pub Line : Type 0
Line = List Token

abbrev pub opens : Token → Bool
opens token = bytes_eq token (codes "{")

abbrev pub closes : Token → Bool
closes token = bytes_eq token (codes "}")

-- how many braces are open behind the tokens, if so many were before
abbrev pub open_behind : ℕ → List Token → ℕ
open_behind braces [] = braces
open_behind braces (token ∷ tokens) =
    if opens token then open_behind (suc braces) tokens
    else (if closes token then open_behind (braces - 1) tokens
    else open_behind braces tokens)

-- the braces in which a line stands
abbrev pub depth_of : ℕ → Line → ℕ
depth_of braces [] = braces
depth_of braces (token ∷ tokens) = if closes token then braces - 1 else braces

abbrev pub line_bytes : ℕ → Line → List ℕ
line_bytes braces line = replicate (2 * depth_of braces line) 32 ++ (join_with_byte 32 line ++ 10 ∷ [])

-- the bytes of lines, where so many braces are open before the first
abbrev pub lines_bytes : ℕ → List Line → List ℕ
lines_bytes braces [] = []
lines_bytes braces (line ∷ lines) = line_bytes braces line ++ lines_bytes (open_behind braces line) lines
