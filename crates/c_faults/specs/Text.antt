-- Device: the first refusal of units that are given as texts, for rows: of files a.c, b.c and c.c.
use Rattle.std.specs.Prelude.{ℕ, suc, Bool, List, [], ◌∷◌, Option, Some, None, codes}
use Rattle.cil_base.specs.declared.kinds.Abi.{Abi}
use Rattle.cil_base.specs.declared.kinds.Abi.TheVariants.{Lp64, Ilp32}
use Rattle.cil_base.specs.declared.faults.Refusal.{Refusal}
use Rattle.c_lexer.specs.Automaton.{one_byte_sign, begins_sign, begins, behind_dot, behind_minus, behind_plus, behind_ampersand, behind_bar, behind_slash, behind_percent, behind_less, behind_greater, only, behind_punctuator, behind_sign, in_literal, behind_prefix, in_comment, behind, accepts, piece}
use Rattle.c_lexer.specs.Tokens.{number_meaning, meaning_of_text, character_meaning, literal_meaning}
use Rattle.c_lexer.specs.Words.{words_with, word_meaning}
use Rattle.c_exprs.specs.Reading.{below}
use Rattle.c_parser.specs.UnitReading.{lower}
use Rattle.c_faults.specs.Reading.{Source}
use Rattle.c_faults.specs.FirstRefusal.{Findings, AllWhole, OneRefused, OneStops, OneLost, findings, refusal_of}

-- the file of a unit has its number among the names
abbrev pub sources : ℕ → List (List ℕ) → List Source
sources n [] = []
sources n (t ∷ ts) = record { bytes = t; unit = record { 0 = n }; file = record { 0 = n } } ∷ sources (suc n) ts

-- nothing of a fault without a place
abbrev pub told : Bool → Findings → Option (Option Refusal)
told common (AllWhole reads) = Some (refusal_of common (AllWhole reads))
told common (OneRefused refusal) = Some (Some refusal)
told common (OneStops t start stop refusal) = Some (Some refusal)
told common OneLost = None

-- in a data model
unfoldable pub refusal_by : Abi → Bool → List (List ℕ) → Option (Option Refusal)
unfolding one_byte_sign begins_sign begins behind_dot behind_minus behind_plus behind_ampersand behind_bar behind_slash behind_percent behind_less behind_greater only behind_punctuator behind_sign in_literal behind_prefix in_comment behind accepts piece number_meaning meaning_of_text character_meaning literal_meaning words_with word_meaning below lower
refusal_by abi common texts = told common (findings abi 0 (codes "a.c" ∷ codes "b.c" ∷ codes "c.c" ∷ []) (sources 0 texts))

-- what is found of them
unfoldable pub found_by : Abi → List (List ℕ) → Findings
unfolding one_byte_sign begins_sign begins behind_dot behind_minus behind_plus behind_ampersand behind_bar behind_slash behind_percent behind_less behind_greater only behind_punctuator behind_sign in_literal behind_prefix in_comment behind accepts piece number_meaning meaning_of_text character_meaning literal_meaning words_with word_meaning below lower
found_by abi texts = findings abi 0 (codes "a.c" ∷ codes "b.c" ∷ codes "c.c" ∷ []) (sources 0 texts)

-- in LP64
unfoldable pub refusal_in : Bool → List (List ℕ) → Option (Option Refusal)
unfolding refusal_by
refusal_in common texts = refusal_by Lp64 common texts

-- in each data model
unfoldable pub refusals_in : Bool → List (List ℕ) → Option (Option Refusal) × Option (Option Refusal)
unfolding refusal_by
refusals_in common texts = (refusal_by Lp64 common texts, refusal_by Ilp32 common texts)
