-- Device: what a function of the code gives, against a reading of the tokens in front of it.
use Rattle.std.specs.Prelude.{◌≡◌, ℕ, List, Option, Some, None}
use Rattle.c_tree.specs.Spelling.{Lexeme}
use Rattle.c_cursor.specs.Given.{IsValue}

-- what begins so is found with the text by which the next token is told
abbrev pub IsStartNext : {A : Type 0} → Option A → Option (A × List ℕ) → Option Lexeme → Type 0
IsStartNext None found o = found ≡ None
IsStartNext (Some a) found o = (text : List ℕ) → IsValue text o → found ≡ Some (a, text)
