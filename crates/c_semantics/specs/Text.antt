-- Device: runs of translation units that are given as texts, for rows.
use Rattle.std.specs.Prelude.{ℕ, suc, true, false, List, [], ◌∷◌, Option, Some, None, map, codes}
use Rattle.std.specs.Option.{option_map, option_and_then}
use Rattle.cil_base.specs.declared.kinds.Abi.{Abi}
use Rattle.cil_base.specs.declared.kinds.Mode.{Mode}
use Rattle.cil_base.specs.declared.runs.Outcome.{Outcome}
use Rattle.c_tree.specs.Units.{UnitTree}
use Rattle.c_lexer.specs.Automaton.{pieces, one_byte_sign, begins_sign, begins, behind_dot, behind_minus, behind_plus, behind_ampersand, behind_bar, behind_slash, behind_percent, behind_less, behind_greater, only, behind_punctuator, behind_sign, in_literal, behind_prefix, in_comment, behind, accepts, piece}
use Rattle.c_lexer.specs.Tokens.{Answer, Whole, Refused, read, begun, number_meaning, meaning_of_text, character_meaning, literal_meaning}
use Rattle.c_lexer.specs.Words.{words_with, word_meaning}
use Rattle.c_cursor.specs.Lexemes.{lexeme_of}
use Rattle.c_cursor.specs.Readers.{input}
use Rattle.c_exprs.specs.Reading.{below}
use Rattle.c_parser.specs.UnitReading.{lower, unit}
use Rattle.c_typing_rows.specs.Text.{tree_of}
use Rattle.c_semantics.specs.Units.{RunC}

-- a unit, and the texts of names behind it
abbrev pub parsed_of : List ℕ → Answer → Option (UnitTree × List (List ℕ))
parsed_of text (Whole entries end names) = option_map (λ (tree : UnitTree). (tree, names)) (tree_of (unit (input 0 (map (lexeme_of text) entries))))
parsed_of text (Refused refusal names) = None

unfoldable pub parsed : ℕ → List (List ℕ) → List ℕ → Option (UnitTree × List (List ℕ))
unfolding one_byte_sign begins_sign begins behind_dot behind_minus behind_plus behind_ampersand behind_bar behind_slash behind_percent behind_less behind_greater only behind_punctuator behind_sign in_literal behind_prefix in_comment behind accepts piece number_meaning meaning_of_text character_meaning literal_meaning words_with word_meaning below lower
parsed n names text = parsed_of text (read (pieces 0 true text) (begun (record { 0 = n }) (record { 0 = 0 }) names))

-- units in order, whose names have one pool of texts
unfoldable pub parsed_all : ℕ → List (List ℕ) → List (List ℕ) → Option (List UnitTree × List (List ℕ))
unfolding parsed
parsed_all n names [] = Some ([], names)
parsed_all n names (t ∷ ts) = option_and_then (λ (x : UnitTree × List (List ℕ)). option_map (λ (y : List UnitTree × List (List ℕ)). (x.0 ∷ y.0, y.1)) (parsed_all (suc n) x.1 ts)) (parsed n names t)

abbrev pub ran : Mode → List (List ℕ) → List ℕ → ℕ → List UnitTree × List (List ℕ) → Outcome
ran mode words bytes n x = RunC x.1 x.0 mode words bytes n

-- the outcome of units in a mode, with words, an input and a bound; none where they are no units
unfoldable pub runs_in : Mode → List (List ℕ) → List (List ℕ) → List ℕ → ℕ → Option Outcome
unfolding parsed_all
runs_in mode texts words bytes n = option_map (ran mode words bytes n) (parsed_all 0 (codes "a.c" ∷ []) texts)

unfoldable pub runs_with : Abi → List (List ℕ) → List (List ℕ) → List ℕ → ℕ → Option Outcome
unfolding runs_in
runs_with abi texts words bytes n = runs_in (record { common = false; abi = abi }) texts words bytes n
