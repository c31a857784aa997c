-- Definition: the tokens of a unit as the grammar compares them, and where a cursor stands among them.
use Rattle.std.specs.Prelude.{◌≡◌, ℕ, ◌≤◌, List, [], map, drop, if◌then◌else◌}
use Rattle.c_lexer.specs.declared.entries.Entry.{Entry}
use Rattle.c_lexer.specs.Lexed.{Lexed, text_of}
use Rattle.c_tree.specs.Spelling.{Lexeme}
use Rattle.c_cursor.specs.Readers.{Input, input}
use Rattle.c_cursor.specs.Classes.{has_text}

-- by its kind and, of a constant or literal alone, by its text
abbrev pub lexeme_of : List ℕ → Entry → Lexeme
lexeme_of source e = record { kind = e.token.kind; value = if has_text e.token.kind then text_of source e else [] }

abbrev pub lexemes : Lexed → List Lexeme
lexemes t = map (lexeme_of t.source) t.entries

-- all tokens of a list, and the number of the token before which a cursor stands
pub record Standing : Type 0 where
  pub all : List Lexeme
  pub at : ℕ

-- the tokens that are left
abbrev pub ahead : Standing → Input
ahead c = input c.at (drop c.at c.all)

-- the cursor has gone on among the same tokens, or stands where it stood
pub record Onward (before after : Standing) : Type 0 where
  pub same : after.all ≡ before.all
  pub onward : before.at ≤ after.at
