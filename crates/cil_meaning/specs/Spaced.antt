-- Device: tokens with one blank behind each. This goes through lists of tokens piece by piece, as the text of a line does not.
use Rattle.std.specs.Prelude.{ℕ, List, [], ◌∷◌, ◌++◌, codes}

abbrev pub spaced : List (List ℕ) → List ℕ
spaced [] = []
spaced (token ∷ tokens) = token ++ 32 ∷ spaced tokens

-- what stands in a text in front of the expression's tokens
abbrev pub text_front : List ℕ
text_front = codes "int main ( void ) ;\nint main ( void ) {\n  return "

-- what stands in a text behind the expression's tokens and their blanks
abbrev pub text_back : List ℕ
text_back = codes ";\n}\n"
