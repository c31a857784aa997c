-- Definition: what a translation unit is refused for on its way to a CIL program, as the layer that finds it says, and where.
use Rattle.std.specs.Prelude.{◌≡◌, ℕ, ◌<◌, ◌≤◌, List, length, Some, None, IfSome, slice_get}
use Rattle.cil_base.specs.Limits.{unit_bytes}
use Rattle.cil_base.specs.declared.numbers.UnitNo.{UnitNo}
use Rattle.cil_base.specs.declared.numbers.NameId.{NameId}
use Rattle.cil_base.specs.declared.faults.Fault.{Fault}
use Rattle.cil_base.specs.declared.faults.Fault.TheVariants.{Lexical, Excluded, Syntax, Constraint, Limit}
use Rattle.cil_base.specs.declared.faults.What.TheVariants.{UnitBytes}
use Rattle.cil_base.specs.declared.faults.Place.{Place}
use Rattle.cil_base.specs.declared.faults.Refusal.{Refusal}
use Rattle.c_lexer.specs.Lexed.{Lexed, place_of}
use Rattle.c_lexer.specs.Tokens.{IsAnswer, Whole, Refused}
use Rattle.c_tree.specs.Units.{UnitTree}
use Rattle.c_cursor.specs.Lexemes.{lexemes}
use Rattle.c_parser.specs.UnitAnswers.{ReadsUnit, IsSyntaxFault}
use Rattle.cast_insert.specs.Refusals.{IsCheckedRefusal}

-- a translation unit as it is read: its bytes, its number, the number of its file's name, and the names that had numbers before
pub record Source : Type 0 where
  pub bytes : List ℕ
  pub unit : UnitNo
  pub file : NameId
  pub names : List (List ℕ)

-- the tokens of a unit, which has at most 4,194,304 bytes (own)
pub record HasTokens (s : Source) (t : Lexed) : Type 0 where
  pub small : length s.bytes ≤ unit_bytes
  pub source : t.source ≡ s.bytes
  pub unit : t.unit ≡ s.unit
  pub names : List (List ℕ)
  pub lexed : IsAnswer s.unit s.file s.names s.bytes (Whole t.entries t.end names)

-- a grammatical unit (C11 6.9) spells these tokens
abbrev pub AreGrammatical : Lexed → Type 0
AreGrammatical t = (tree : UnitTree) × ReadsUnit (lexemes t) tree

-- the tokens of the unit are spelled by a grammatical unit
pub record IsGrammatical (s : Source) : Type 0 where
  pub tokens : Lexed
  pub are : HasTokens s tokens
  pub spelled : AreGrammatical tokens

-- why a unit of these tokens is refused: no grammatical unit spells them, or behind its grammar
pub data IsTokensRefusal (t : Lexed) : Refusal → Type 0 where
  OfGrammar : (refusal : Refusal) → IsSyntaxFault t refusal → IsTokensRefusal t refusal
  OfCheck : (refusal : Refusal) → AreGrammatical t → IsCheckedRefusal t refusal → IsTokensRefusal t refusal

-- the refusal of a unit with too many bytes
abbrev pub too_large : UnitNo → NameId → Refusal
too_large unit file = record { fault = Limit UnitBytes; at = place_of unit 0 file 1; other = None }

-- the file of a place has the same text in a pool as among the names that the tokens of its unit have
abbrev pub KeepsFile : List (List ℕ) → List (List ℕ) → Place → Type 0
KeepsFile names pool place = (text : List ℕ) × (slice_get names place.file.0 ≡ Some text) × (slice_get pool place.file.0 ≡ Some text)

-- so have the files of all places of a refusal
pub record KeepsFiles (names pool : List (List ℕ)) (refusal : Refusal) : Type 0 where
  pub at : KeepsFile names pool refusal.at
  pub other : IfSome refusal.other (KeepsFile names pool)

-- why a unit is refused, with the pool that the files of the places are numbers in then: it has too many bytes (own), a token of it is refused, or for its tokens
pub data IsFrontRefusal (s : Source) (pool : List (List ℕ)) : Refusal → Type 0 where
  Large : unit_bytes < length s.bytes → KeepsFiles s.names pool (too_large s.unit s.file) → IsFrontRefusal s pool (too_large s.unit s.file)
  OfToken : (refusal : Refusal) (names : List (List ℕ)) → length s.bytes ≤ unit_bytes → IsAnswer s.unit s.file s.names s.bytes (Refused refusal names) → KeepsFiles names pool refusal → IsFrontRefusal s pool refusal
  OfTokens : (refusal : Refusal) (t : Lexed) (are : HasTokens s t) → IsTokensRefusal t refusal → KeepsFiles are.names pool refusal → IsFrontRefusal s pool refusal

-- the faults of one unit: of its bytes, of its tokens, of its grammar, and behind that
abbrev pub IsFrontFault : Fault → Type 0
IsFrontFault Lexical = Unit {0}
IsFrontFault (Excluded feature) = Unit {0}
IsFrontFault Syntax = Unit {0}
IsFrontFault (Constraint code) = Unit {0}
IsFrontFault (Limit what) = Unit {0}
IsFrontFault _ = ⊥

-- a refusal for such a fault, which stands in the unit of a number
pub record IsInUnit (u : UnitNo) (refusal : Refusal) : Type 0 where
  pub fault : IsFrontFault refusal.fault
  pub unit : refusal.at.unit ≡ u
