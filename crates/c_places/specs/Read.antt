-- Definition: the translation unit that the tokens of a file spell (C11 6.9).
use Rattle.std.specs.Prelude.{◌≡◌, true}
use Rattle.c_lexer.specs.Lexed.{Lexed}
use Rattle.c_cursor.specs.Lexemes.{lexemes}
use Rattle.c_tree.specs.Grammatical.{is_grammatical}
use Rattle.c_tree.specs.Units.{UnitTree}
use Rattle.c_tree.specs.UnitSpelling.{spell_unit}

-- a grammatical unit whose tokens are those of the file, each at its number
pub record IsUnitOf (t : Lexed) (u : UnitTree) : Type 0 where
  pub grammatical : is_grammatical u ≡ true
  pub spelled : spell_unit u ≡ lexemes t
