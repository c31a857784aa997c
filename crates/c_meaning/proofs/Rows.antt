-- Device: the reading on worked rows.
use Rattle.std.proofs.Common.{◌≡◌, refl, ℕ, zero, suc, List, [], ◌∷◌, ◌++◌, Option, Some, None, codes, replicate, map, is_some, true, false}
use Rattle.std.specs.Fmt.{digits}
use Rattle.cil_base.specs.declared.operators.BinOp.TheVariants.{Add, Sub}
use Rattle.c_meaning.specs.Grammar.{Expression, Constant, Parentheses, Binary}
use Rattle.c_meaning.specs.SourceFile.{spelled_in}
use Rattle.c_meaning.specs.Reading.{number_terminal, name_terminal, reading}
use Rattle.c_lexer.specs.Tokens.{Answer, Whole, Refused, read, begun, meaning_of_text, number_meaning, character_meaning, literal_meaning}
use Rattle.c_lexer.specs.Words.{word_meaning, words_with}
use Rattle.c_lexer.specs.Automaton.{pieces, one_byte_sign, begins_sign, begins, behind_dot, behind_minus, behind_plus, behind_ampersand, behind_bar, behind_slash, behind_percent, behind_less, behind_greater, only, behind_punctuator, behind_sign, in_literal, behind_prefix, in_comment, behind, accepts, piece}

-- the expression of a file with these bytes
abbrev answered : List ℕ → Answer → Option Expression
answered bytes (Whole entries end names) = reading (spelled_in bytes entries)
answered bytes (Refused refusal names) = None

abbrev expression_in : List ℕ → Option Expression
expression_in bytes = answered bytes (read (pieces 0 true bytes) (begun (record { 0 = 0 }) (record { 0 = 0 }) (codes "a.c" ∷ [])))

-- the unit whose main returns the expression that is written so
abbrev returning : List ℕ → List ℕ
returning text = codes "int main(void) { return " ++ (text ++ codes "; }")

-- the same with the bytes between the tokens
abbrev spaced : List ℕ → List ℕ
spaced blanks = codes "int" ++ (blanks ++ (codes "main(void)" ++ (blanks ++ (codes "{return" ++ (blanks ++ codes "1;}")))))

abbrev one : Option Expression
one = Some (Constant 1)

sums : map expression_in (codes "int main(void) { return 2 + 3; }" ∷ returning (codes "1-1-1") ∷ returning (codes "1- -1") ∷ returning (codes "1- (-1)") ∷ returning (codes "1-(1-1)") ∷ [])
    ≡ Some (Binary Add (Constant 2) (Constant 3))
    ∷ Some (Binary Sub (Binary Sub (Constant 1) (Constant 1)) (Constant 1))
    ∷ None ∷ None
    ∷ Some (Binary Sub (Constant 1) (Parentheses (Binary Sub (Constant 1) (Constant 1)))) ∷ []
unfolding number_terminal name_terminal digits words_with word_meaning number_meaning meaning_of_text character_meaning literal_meaning one_byte_sign begins_sign begins behind_dot behind_minus behind_plus behind_ampersand behind_bar behind_slash behind_percent behind_less behind_greater only behind_punctuator behind_sign in_literal behind_prefix in_comment behind accepts piece
sums = refl

-- the longest token is taken, so that `--`, `++`, `+=` and `->` are no signs
signs : map expression_in (returning (codes "1--1") ∷ returning (codes "1++1") ∷ returning (codes "1+=1") ∷ returning (codes "1->1") ∷ returning (codes "1-=1") ∷ []) ≡ None ∷ None ∷ None ∷ None ∷ None ∷ []
unfolding number_terminal name_terminal digits words_with word_meaning number_meaning meaning_of_text character_meaning literal_meaning one_byte_sign begins_sign begins behind_dot behind_minus behind_plus behind_ampersand behind_bar behind_slash behind_percent behind_less behind_greater only behind_punctuator behind_sign in_literal behind_prefix in_comment behind accepts piece
signs = refl

constants : map expression_in (returning (codes "0") ∷ returning (codes "2147483647") ∷ returning (codes "2147483648") ∷ returning (codes "4294967296") ∷ returning (codes "007") ∷ returning (codes "00") ∷ returning (codes "1 2") ∷ returning (codes "2.")
    ∷ returning (codes ".2") ∷ returning (codes "2u") ∷ returning (codes "0x1") ∷ returning (codes "2e+3") ∷ [])
    ≡ Some (Constant 0) ∷ Some (Constant 2147483647) ∷ None ∷ None ∷ None ∷ None ∷ None ∷ None ∷ None ∷ None ∷ None ∷ None ∷ []
unfolding number_terminal name_terminal digits words_with word_meaning number_meaning meaning_of_text character_meaning literal_meaning one_byte_sign begins_sign begins behind_dot behind_minus behind_plus behind_ampersand behind_bar behind_slash behind_percent behind_less behind_greater only behind_punctuator behind_sign in_literal behind_prefix in_comment behind accepts piece
constants = refl

-- the digraphs, no blanks at all, and blanks of each kind
spellings : map expression_in (codes "int main(void) <% return (2); %>" ∷ codes "int main(void)<%return 1;%>" ∷ codes "int main(void){return 1;}" ∷ spaced (9 ∷ 10 ∷ 11 ∷ 12 ∷ 13 ∷ 32 ∷ []) ∷ (spaced (10 ∷ []) ++ (10 ∷ [])) ∷ [])
    ≡ Some (Parentheses (Constant 2)) ∷ one ∷ one ∷ one ∷ one ∷ []
unfolding number_terminal name_terminal digits words_with word_meaning number_meaning meaning_of_text character_meaning literal_meaning one_byte_sign begins_sign begins behind_dot behind_minus behind_plus behind_ampersand behind_bar behind_slash behind_percent behind_less behind_greater only behind_punctuator behind_sign in_literal behind_prefix in_comment behind accepts piece
spellings = refl

-- comments, line markers, pragmas and skipped words are no tokens
passed : map expression_in (codes "/**/ int main(void){return 1;}" ∷ codes "int main(void){return 1;}//" ∷ spaced (codes "/* { */") ∷ (codes "# 1 \"a.c\"" ++ (10 ∷ codes "int main(void){return 1;}")) ∷ (codes "#pragma once" ++ (10 ∷ codes "__extension__ int main(void){return 1;}")) ∷ [])
    ≡ one ∷ one ∷ one ∷ one ∷ one ∷ []
unfolding number_terminal name_terminal digits words_with word_meaning number_meaning meaning_of_text character_meaning literal_meaning one_byte_sign begins_sign begins behind_dot behind_minus behind_plus behind_ampersand behind_bar behind_slash behind_percent behind_less behind_greater only behind_punctuator behind_sign in_literal behind_prefix in_comment behind accepts piece
passed = refl

others : map expression_in ([] ∷ codes "intmain(void){return 1;}" ∷ codes "int main(void){return1;}" ∷ codes "int main(){return 1;}" ∷ codes "int main(void){return 1;" ∷ codes "int main(void){return 1;}}" ∷ codes "int main(void){return ;}" ∷ codes "int main(void){return (1;}" ∷ codes "int main(void){return 1);}"
    ∷ codes "int main(void){return 1;};" ∷ (codes "# 1" ++ (10 ∷ codes "int main(void){return 1;}")) ∷ codes "int main(void){return 'a';}" ∷ spaced (0 ∷ []) ∷ spaced (255 ∷ []) ∷ [])
    ≡ replicate 14 None
unfolding number_terminal name_terminal digits words_with word_meaning number_meaning meaning_of_text character_meaning literal_meaning one_byte_sign begins_sign begins behind_dot behind_minus behind_plus behind_ampersand behind_bar behind_slash behind_percent behind_less behind_greater only behind_punctuator behind_sign in_literal behind_prefix in_comment behind accepts piece
others = refl

-- pairs of parentheses around a constant
abbrev nested : ℕ → List ℕ
nested pairs = returning (replicate pairs 40 ++ (codes "1" ++ replicate pairs 41))

-- a sum of one constant more than there are operators
abbrev chain : ℕ → List ℕ
chain zero = codes "1"
chain (suc operators) = codes "1+" ++ chain operators

-- the expression is at most 509 high: each pair of parentheses, and each further operator in a row, makes it one higher
deepest : map (λ text. is_some (expression_in text)) (nested 508 ∷ nested 509 ∷ returning (chain 508) ∷ returning (chain 509) ∷ returning (replicate 600 40) ∷ [])
    ≡ true ∷ false ∷ true ∷ false ∷ false ∷ []
unfolding number_terminal name_terminal digits words_with word_meaning number_meaning meaning_of_text character_meaning literal_meaning one_byte_sign begins_sign begins behind_dot behind_minus behind_plus behind_ampersand behind_bar behind_slash behind_percent behind_less behind_greater only behind_punctuator behind_sign in_literal behind_prefix in_comment behind accepts piece
deepest = refl
