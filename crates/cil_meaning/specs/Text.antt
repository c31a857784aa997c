-- Definition: the text of a CIL program. Each line is its tokens with one blank between two, behind two blanks for each brace that is still open (a brace that it begins with closes one), and ends with a line feed (own).
use Rattle.std.specs.Prelude.{◌≡◌, ℕ, ◌*◌, ◌≤◌, List, [], ◌∷◌, ◌++◌, length, codes, decimal, replicate}
use Rattle.std.specs.List.{join_with_byte}
use Rattle.cil_base.specs.Limits.{text_bytes}
use Rattle.cil_base.specs.Operators.{operator_spelling}
use Rattle.cil_meaning.specs.Program.{Exp, Const, Bin, IsProgram}

-- a line inside so many braces
abbrev pub line : ℕ → List (List ℕ) → List ℕ
line braces tokens = replicate (2 * braces) 32 ++ (join_with_byte 32 tokens ++ 10 ∷ [])

-- the tokens of an expression: a constant in decimal digits, each binary operator in parentheses of its own
abbrev pub exp_tokens : Exp → List (List ℕ)
exp_tokens (Const value) = decimal value ∷ []
exp_tokens (Bin op left right) = codes "(" ∷ (exp_tokens left ++ (operator_spelling op ∷ (exp_tokens right ++ codes ")" ∷ [])))

-- the declarator of main, without what ends its line
abbrev pub main_tokens : List (List ℕ)
main_tokens = codes "int" ∷ codes "main" ∷ codes "(" ∷ codes "void" ∷ codes ")" ∷ []

-- the text of the program whose main returns the expression
abbrev pub Text : Exp → List ℕ
Text p =
    line 0 (main_tokens ++ codes ";" ∷ [])
    ++ (line 0 (main_tokens ++ codes "{" ∷ [])
    ++ (line 1 (codes "return" ∷ (exp_tokens p ++ codes ";" ∷ []))
    ++ line 0 (codes "}" ∷ [])))

-- the bytes are the CIL text of the program whose main returns the expression: a text has at most 268,435,456 bytes (own)
pub record IsTextOf (bytes : List ℕ) (p : Exp) : Type 0 where
  pub program : IsProgram p
  pub text : bytes ≡ Text p
  pub short : length bytes ≤ text_bytes
