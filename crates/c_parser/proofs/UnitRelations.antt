-- Device: what tokens each declaration, statement and body has where it stands: the relations that the readings are held to. `Low` bounds the height.
use Rattle.std.proofs.Common.{◌≡◌, ℕ, ◌+◌, length, Bool, true, false, ◌&&◌, List, ◌∷◌, ◌++◌, [], Option}
use Rattle.cil_base.specs.declared.tokens.Punctuator.{Punctuator}
use Rattle.cil_base.specs.declared.tokens.Punctuator.TheVariants.{LeftParen, RightParen}
use Rattle.typedef_scopes.specs.Scopes.{Scope}
use Rattle.c_tree.specs.Syntax.{ExprTree, DeclaratorTree, InitTree}
use Rattle.c_tree.specs.Units.{DeclarationTree, StmtTree, BlockItem, Declaring, Doing, BlockItems, ExternalTree}
use Rattle.c_tree.specs.Spelling.{Lexeme, sign, in_parens, in_braces, spell_expr}
use Rattle.c_tree.specs.UnitSpelling.{spell_maybe, spell_declaration, spell_stmt, spell_block_item, spell_block, spell_external}
use Rattle.c_tree.specs.Height.{maybe_height, declaration_height, stmt_height, item_of_block_height, block_height, external_height}
use Rattle.c_tree.specs.Levels.{levelled_maybe, levelled_declaration, levelled_stmt, levelled_block_item, levelled_block, levelled_external, takes_else}
use Rattle.c_tree.specs.Placed.{placed_maybe, placed_declaration, placed_stmt, placed_block_item, placed_block, placed_external}
use Rattle.c_tree.specs.Scoped.{scoped_maybe, scoped_declaration, scoped_stmt, scoped_block_item, scoped_block, scoped_external, after_maybe, after_declaration, after_stmt, after_block_item, after_external}
use Rattle.c_cursor.specs.Classes.{next_is}
use Rattle.c_exprs.specs.Subs.{In}
use Rattle.c_exprs.proofs.Laws.{Lawful, Any, Anywhere}
use Rattle.c_exprs.proofs.Relations.{LawfulSubs, Below}
use Rattle.c_exprs.proofs.InitLaws.{InitIs, EndsInit}
use Rattle.c_parser.specs.UnitForms.{is_else_word}
use Rattle.c_parser.specs.Parts.{Parts}

-- an expression or none

pub record MaybeIs (Low : ℕ → Type 0) (ds : List Scope) (x : In (Option ExprTree)) (n : ℕ) (text : List Lexeme) : Type 0 where
  pub levelled : levelled_maybe x.0 ≡ true
  pub placed : placed_maybe n x.0 ≡ true
  pub scoped : scoped_maybe ds x.0 ≡ true
  pub low : Low (maybe_height x.0)
  pub after : x.1 ≡ after_maybe ds x.0
  pub spelled : text ≡ spell_maybe x.0

-- declarations

pub record DeclarationIs (Low : ℕ → Type 0) (ds : List Scope) (x : In DeclarationTree) (n : ℕ) (text : List Lexeme) : Type 0 where
  pub levelled : levelled_declaration x.0 ≡ true
  pub placed : placed_declaration n x.0 ≡ true
  pub scoped : scoped_declaration ds x.0 ≡ true
  pub low : Low (declaration_height x.0)
  pub after : x.1 ≡ after_declaration ds x.0
  pub spelled : text ≡ spell_declaration x.0

-- statements

pub record StatementIs (Low : ℕ → Type 0) (ds : List Scope) (x : In StmtTree) (n : ℕ) (text : List Lexeme) : Type 0 where
  pub levelled : levelled_stmt x.0 ≡ true
  pub placed : placed_stmt n x.0 ≡ true
  pub scoped : scoped_stmt ds x.0 ≡ true
  pub low : Low (stmt_height x.0)
  pub after : x.1 ≡ after_stmt ds x.0
  pub spelled : text ≡ spell_stmt x.0

-- an else does not stand behind a statement that would take it
abbrev pub EndsStatement : StmtTree → Option Lexeme → Type 0
EndsStatement s o = (takes_else s && next_is is_else_word o) ≡ false

-- items of a block

pub record ItemIs (Low : ℕ → Type 0) (ds : List Scope) (x : In BlockItem) (n : ℕ) (text : List Lexeme) : Type 0 where
  pub levelled : levelled_block_item x.0 ≡ true
  pub placed : placed_block_item n x.0 ≡ true
  pub scoped : scoped_block_item ds x.0 ≡ true
  pub low : Low (item_of_block_height x.0)
  pub after : x.1 ≡ after_block_item ds x.0
  pub spelled : text ≡ spell_block_item x.0

abbrev pub EndsItem : BlockItem → Option Lexeme → Type 0
EndsItem (Declaring d) o = Unit {0}
EndsItem (Doing s) o = EndsStatement s o

-- the body of a function, with its braces
pub record BodyIs (Low : ℕ → Type 0) (ds : List Scope) (b : BlockItems) (n : ℕ) (text : List Lexeme) : Type 0 where
  pub levelled : levelled_block b ≡ true
  pub placed : placed_block (n + 1) b ≡ true
  pub scoped : scoped_block ds b ≡ true
  pub low : Low (1 + block_height b)
  pub spelled : text ≡ in_braces (spell_block b)

-- external declarations

pub record ExternalIs (Low : ℕ → Type 0) (ds : List Scope) (x : In ExternalTree) (n : ℕ) (text : List Lexeme) : Type 0 where
  pub levelled : levelled_external x.0 ≡ true
  pub placed : placed_external n x.0 ≡ true
  pub scoped : scoped_external ds x.0 ≡ true
  pub low : Low (external_height x.0)
  pub after : x.1 ≡ after_external ds x.0
  pub spelled : text ≡ spell_external x.0

-- the readings of parts give exactly those that are low
pub record LawfulParts (h : ℕ) (p : Parts) : Type 0 where
  pub trees : LawfulSubs (Below h) p.trees
  pub init : (ds : List Scope) → Lawful Any (p.init ds) (InitIs (Below h) ds) EndsInit
  pub declaration : (ds : List Scope) → Lawful Any (p.declaration ds) (DeclarationIs (Below h) ds) Anywhere
  pub statement : (ds : List Scope) → Lawful Any (p.statement ds) (StatementIs (Below h) ds) (λ x. EndsStatement x.0)
  pub body : (ds : List Scope) → Lawful Any (p.body ds) (BodyIs (Below h) ds) Anywhere
