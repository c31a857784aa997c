-- Definition: the tokens of a file as the lexer gives them, and the files whose tokens a grammatical unit spells (C11 6.9).
use Rattle.std.specs.Prelude.{◌≡◌, ℕ, ◌≤◌, List, length}
use Rattle.cil_base.specs.Limits.{unit_bytes}
use Rattle.c_lexer.specs.Lexed.{Lexed}
use Rattle.c_lexer.specs.Tokens.{Whole}
use Rattle.c_meaning.specs.SourceFile.{SourceFile, IsLexed}
use Rattle.c_tree.specs.Units.{UnitTree}
use Rattle.c_cursor.specs.Lexemes.{lexemes}
use Rattle.c_parser.specs.UnitAnswers.{ReadsUnit}

-- a file of at most 4,194,304 bytes (own), which is the first unit, and its tokens, with the names that were asked for
pub record AreTokens (file : SourceFile) (t : Lexed) (names : List (List ℕ)) : Type 0 where
  pub small : length file.bytes ≤ unit_bytes
  pub source : t.source ≡ file.bytes
  pub unit : t.unit ≡ record { 0 = 0 }
  pub lexed : IsLexed file (Whole t.entries t.end names)

-- a grammatical unit spells the tokens of the file
pub record IsGrammatical (file : SourceFile) : Type 0 where
  pub tokens : Lexed
  pub names : List (List ℕ)
  pub are : AreTokens file tokens names
  pub tree : UnitTree
  pub reads : ReadsUnit (lexemes tokens) tree
