-- Definition: a source file and the tokens that it has (C11 5.1.1.1, 6.4).
use Rattle.std.specs.Prelude.{◌≡◌, ℕ, ◌≤◌, List, [], ◌∷◌, length, map}
use Rattle.cil_base.specs.Limits.{unit_bytes}
use Rattle.cil_base.specs.declared.numbers.UnitNo.{UnitNo}
use Rattle.cil_base.specs.declared.numbers.NameId.{NameId}
use Rattle.cil_base.specs.declared.tokens.TokenKind.{TokenKind}
use Rattle.cil_base.specs.declared.tokens.TokenKind.TheVariants.{Name, Keyword as KeywordToken, Integer, Character, Literal, Punctuator as PunctuatorToken}
use Rattle.cil_base.specs.declared.tokens.Keyword.{Keyword}
use Rattle.cil_base.specs.declared.tokens.Punctuator.{Punctuator}
use Rattle.c_lexer.specs.declared.entries.Entry.{Entry}
use Rattle.c_lexer.specs.declared.entries.Spot.{Spot}
use Rattle.c_lexer.specs.Lexed.{text_of}
use Rattle.c_lexer.specs.Tokens.{Answer, IsAnswer, Whole}

-- the name of a file, which is its presumed name up to the first line marker (6.10.4), and its bytes
pub record SourceFile : Type 0 where
  pub name : List ℕ
  pub bytes : List ℕ

-- the answer of the lexer for the first translation unit, with the names that were asked for until then; the file's own is the first
abbrev pub IsLexed : SourceFile → Answer → Type 0
IsLexed file answer = IsAnswer (record { 0 = 0 }) (record { 0 = 0 }) (file.name ∷ []) file.bytes answer

-- a token as the grammar sees it: keywords and punctuators in whichever spelling, the others by their text
pub data Spelled : Type 0 where
  Word : (keyword : Keyword) → Spelled
  Sign : (punctuator : Punctuator) → Spelled
  Identifier : (text : List ℕ) → Spelled
  Constant : (text : List ℕ) → Spelled
  CharacterConstant : (text : List ℕ) → Spelled
  StringLiteral : (text : List ℕ) → Spelled

abbrev pub spelled : TokenKind → List ℕ → Spelled
spelled (Name n) text = Identifier text
spelled (KeywordToken keyword) text = Word keyword
spelled Integer text = Constant text
spelled Character text = CharacterConstant text
spelled Literal text = StringLiteral text
spelled (PunctuatorToken punctuator) text = Sign punctuator

-- the tokens in a source
abbrev pub spelled_in : List ℕ → List Entry → List Spelled
spelled_in source entries = map (λ (e : Entry). spelled e.token.kind (text_of source e)) entries

-- a file of at most 4,194,304 bytes (own) with these tokens
pub record HasTokens (file : SourceFile) (tokens : List Spelled) : Type 0 where
  pub small : length file.bytes ≤ unit_bytes
  pub entries : List Entry
  pub end : Spot
  pub names : List (List ℕ)
  pub lexed : IsLexed file (Whole entries end names)
  pub are : spelled_in file.bytes entries ≡ tokens
