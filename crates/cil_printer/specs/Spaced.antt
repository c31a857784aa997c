-- Device: tokens with one blank behind each. This goes through lists of tokens piece by piece, as the text of a line does not.
use Rattle.std.specs.Prelude.{ℕ, List, [], ◌∷◌, ◌++◌}
use Rattle.cil_tree.specs.Lines.{Token}

abbrev pub spaced : List Token → List ℕ
spaced [] = []
spaced (token ∷ tokens) = token ++ 32 ∷ spaced tokens
