-- Definition: the declarations, statements and external declarations that stand at a place between others, with the scopes behind them and the tokens that they spell; and what goes on behind each.
use Rattle.std.specs.Prelude.{◌≡◌, ℕ, Bool, true, false, ◌&&◌, List, Option}
use Rattle.cil_base.specs.declared.tokens.TokenKind.{TokenKind}
use Rattle.cil_base.specs.declared.tokens.TokenKind.TheVariants.{Keyword as IsKeyword}
use Rattle.cil_base.specs.declared.tokens.Keyword.TheVariants.{Else as ElseWord}
use Rattle.typedef_scopes.specs.Scopes.{Scope}
use Rattle.c_tree.specs.Units.{DeclarationTree, StmtTree, ExternalTree}
use Rattle.c_tree.specs.Spelling.{Lexeme}
use Rattle.c_tree.specs.UnitSpelling.{spell_declaration, spell_stmt, spell_external}
use Rattle.c_tree.specs.Levels.{takes_else}
use Rattle.c_tree.specs.Scoped.{after_declaration, after_stmt, after_external}
use Rattle.c_cursor.specs.Classes.{next_is}
use Rattle.c_exprs.specs.Subs.{In}
use Rattle.c_parser.specs.Externals.{grammatical_declaration, grammatical_statement, grammatical_external}

-- a declaration (6.7)
pub record IsDeclaration (scopes : List Scope) (height : ℕ) (x : In DeclarationTree) (n : ℕ) (text : List Lexeme) : Type 0 where
  pub grammatical : grammatical_declaration scopes height n x.0 ≡ true
  pub after : x.1 ≡ after_declaration scopes x.0
  pub spelled : text ≡ spell_declaration x.0

-- a statement (6.8)
pub record IsStatement (scopes : List Scope) (height : ℕ) (x : In StmtTree) (n : ℕ) (text : List Lexeme) : Type 0 where
  pub grammatical : grammatical_statement scopes height n x.0 ≡ true
  pub after : x.1 ≡ after_stmt scopes x.0
  pub spelled : text ≡ spell_stmt x.0

abbrev pub is_else_word : TokenKind → Bool
is_else_word (IsKeyword ElseWord) = true
is_else_word _ = false

-- an else behind a statement that ends in an if without else goes on (6.8.4.1p3)
abbrev pub statement_goes : In StmtTree → Option Lexeme → Bool
statement_goes x o = takes_else x.0 && next_is is_else_word o

-- an external declaration (6.9)
pub record IsExternal (scopes : List Scope) (height : ℕ) (x : In ExternalTree) (n : ℕ) (text : List Lexeme) : Type 0 where
  pub grammatical : grammatical_external scopes height n x.0 ≡ true
  pub after : x.1 ≡ after_external scopes x.0
  pub spelled : text ≡ spell_external x.0

-- nothing goes on behind a declaration or an external declaration, which ends with its own last token
abbrev pub never_goes : {A : Type 0} → In A → Option Lexeme → Bool
never_goes x o = false
