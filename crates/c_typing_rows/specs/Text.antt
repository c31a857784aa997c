-- Device: the first fault of a translation unit that is given as text, for rows.
use Rattle.std.specs.Prelude.{ℕ, true, List, [], ◌∷◌, Option, Some, None, map, codes, Result, Ok, Err}
use Rattle.std.specs.Option.{option_map, option_and_then}
use Rattle.cil_base.specs.declared.kinds.Abi.{Abi}
use Rattle.cil_base.specs.declared.kinds.Abi.TheVariants.{Lp64}
use Rattle.cil_base.specs.declared.faults.Fault.{Fault}
use Rattle.c_tree.specs.Units.{ExternalTree, UnitTree}
use Rattle.c_lexer.specs.Automaton.{pieces, one_byte_sign, begins_sign, begins, behind_dot, behind_minus, behind_plus, behind_ampersand, behind_bar, behind_slash, behind_percent, behind_less, behind_greater, only, behind_punctuator, behind_sign, in_literal, behind_prefix, in_comment, behind, accepts, piece}
use Rattle.c_lexer.specs.Tokens.{Answer, Whole, Refused, read, begun, number_meaning, meaning_of_text, character_meaning, literal_meaning}
use Rattle.c_lexer.specs.Words.{words_with, word_meaning}
use Rattle.c_cursor.specs.Lexemes.{lexeme_of}
use Rattle.c_cursor.specs.Readers.{Input, input}
use Rattle.c_exprs.specs.Subs.{In}
use Rattle.c_exprs.specs.Reading.{below}
use Rattle.c_parser.specs.Externals.{file_scope, greatest_height}
use Rattle.c_parser.specs.UnitReading.{lower, more_externals}
use Rattle.c_typing.specs.Faults.{first_fault}

abbrev pub tree_of : Result (In (List ExternalTree) × Input) Input → Option UnitTree
tree_of (Ok x) = Some x.0.0
tree_of (Err i) = None

-- nothing of a text that is no translation unit; else its first fault, if it has one
abbrev pub outcome_of : Abi → List ℕ → Answer → Option (Option (Fault × ℕ))
outcome_of abi text (Whole entries end names) = option_map (first_fault names abi) (tree_of (more_externals greatest_height ([], file_scope) (input 0 (map (lexeme_of text) entries))))
outcome_of abi text (Refused refusal names) = None

unfoldable pub outcome_in : Abi → List ℕ → Option (Option (Fault × ℕ))
unfolding one_byte_sign begins_sign begins behind_dot behind_minus behind_plus behind_ampersand behind_bar behind_slash behind_percent behind_less behind_greater only behind_punctuator behind_sign in_literal behind_prefix in_comment behind accepts piece number_meaning meaning_of_text character_meaning literal_meaning words_with word_meaning below lower
outcome_in abi text = outcome_of abi text (read (pieces 0 true text) (begun (record { 0 = 0 }) (record { 0 = 0 }) (codes "a.c" ∷ [])))

unfoldable pub outcome : List ℕ → Option (Option (Fault × ℕ))
unfolding outcome_in
outcome text = outcome_in Lp64 text

-- the first fault of the walk, and its token
unfoldable pub first_in : Abi → List ℕ → Option (Fault × ℕ)
first_in abi text = option_and_then (λ (x : Option (Fault × ℕ)). x) (outcome_in abi text)

unfoldable pub first : List ℕ → Option (Fault × ℕ)
first text = option_and_then (λ (x : Option (Fault × ℕ)). x) (outcome text)
