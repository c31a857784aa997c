-- Device: worked rows of the place at which bytes that are no CIL text are refused.
use Rattle.std.proofs.Common.{◌≡◌, ℕ, List, [], ◌∷◌, ◌++◌, refl}
use Rattle.std.specs.Prelude.{codes, map, take}
use Rattle.cil_tree.specs.LaidOut.{bad_place}

abbrev text : List ℕ
text = codes "int main ( void ) ;\nint main ( void ) {\n  return ( 2 + 3 ) ;\n}\n"

-- the text, cut behind each number of bytes
cuts : map (λ j. bad_place (take j text)) (1 ∷ 19 ∷ 20 ∷ 30 ∷ 39 ∷ 40 ∷ 41 ∷ 60 ∷ 61 ∷ 62 ∷ 63 ∷ []) ≡ 0 ∷ 0 ∷ 20 ∷ 20 ∷ 20 ∷ 40 ∷ 40 ∷ 40 ∷ 61 ∷ 61 ∷ 63 ∷ []
cuts = refl

-- a second line feed, another word, two blanks, none, a tab, blanks before the end of a line, an indentation of one, a brace too many, a sign that C has not, a digraph
others : map bad_place (
    (text ++ codes "\n")
    ∷ codes "int main ( voit ) ;\nint main ( void ) {\n  return ( 2 + 3 ) ;\n}\n"
    ∷ codes "int  main ;\n" ∷ codes "int main;\n" ∷ codes "int\tmain ;\n" ∷ codes "int main ; \n" ∷ codes "{\n break ;\n}\n" ∷ codes "}\n" ∷ codes "int x ;\n@ ;\n" ∷ codes "<% ;\nx ;\n" ∷ codes "{ } } ;\n" ∷ [])
    ≡ 63 ∷ 63 ∷ 0 ∷ 0 ∷ 0 ∷ 0 ∷ 2 ∷ 0 ∷ 8 ∷ 9 ∷ 0 ∷ []
others = refl
