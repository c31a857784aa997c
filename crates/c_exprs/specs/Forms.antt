-- Definition: the trees of each form that a call reads, with the scopes behind them and the tokens that they spell; and what goes on behind each.
use Rattle.std.specs.Prelude.{◌≡◌, ℕ, Bool, true, false, List, Option}
use Rattle.typedef_scopes.specs.Scopes.{Scope}
use Rattle.c_tree.specs.declared.level.Level.{Level}
use Rattle.c_tree.specs.declared.level.Level.TheVariants.{Assignment}
use Rattle.c_tree.specs.Syntax.{ExprTree, TypeName, SpecifierTrees, DeclaratorTree, InitTree}
use Rattle.c_tree.specs.Spelling.{Lexeme, spell_expr, spell_type_name, spell_specifiers, spell_declarator, spell_init}
use Rattle.c_tree.specs.Levels.{has_names}
use Rattle.c_tree.specs.Scoped.{after_expr, after_specifiers, after_declarator, after_type_name, after_init, has_type_specifier}
use Rattle.c_tree.specs.Grammatical.{grammatical_expr, grammatical_type_name, grammatical_specifiers, grammatical_declarator, grammatical_init}
use Rattle.c_exprs.specs.declared.words.DeclaratorForm.TheVariants.{Definition as InDefinition, Member as InMember}
use Rattle.c_exprs.specs.GoesOn.{goes_on_expr, goes_on_specifiers, goes_on_type_name, goes_on_declarator}
use Rattle.c_exprs.specs.Subs.{In}

-- an expression of that level
pub record IsExpr (scopes : List Scope) (level : Level) (height : ℕ) (x : In ExprTree) (n : ℕ) (text : List Lexeme) : Type 0 where
  pub grammatical : grammatical_expr scopes level height n x.0 ≡ true
  pub after : x.1 ≡ after_expr scopes x.0
  pub spelled : text ≡ spell_expr x.0

abbrev pub expr_goes : Level → In ExprTree → Option Lexeme → Bool
expr_goes level x o = goes_on_expr level o

-- a type name (6.7.7)
pub record IsTypeName (scopes : List Scope) (height : ℕ) (x : In (SpecifierTrees × DeclaratorTree)) (n : ℕ) (text : List Lexeme) : Type 0 where
  pub grammatical : grammatical_type_name scopes height n (TypeName x.0.0 x.0.1) ≡ true
  pub after : x.1 ≡ after_type_name scopes (TypeName x.0.0 x.0.1)
  pub spelled : text ≡ spell_type_name (TypeName x.0.0 x.0.1)

abbrev pub type_name_goes : In (SpecifierTrees × DeclaratorTree) → Option Lexeme → Bool
type_name_goes x o = goes_on_type_name (has_type_specifier x.0.0) x.1 o

-- specifiers of a declaration (6.7)
pub record IsSpecifiers (scopes : List Scope) (height : ℕ) (x : In SpecifierTrees) (n : ℕ) (text : List Lexeme) : Type 0 where
  pub grammatical : grammatical_specifiers scopes height n x.0 ≡ true
  pub after : x.1 ≡ after_specifiers scopes x.0
  pub spelled : text ≡ spell_specifiers x.0

abbrev pub specifiers_goes : In SpecifierTrees → Option Lexeme → Bool
specifiers_goes x o = goes_on_specifiers (has_type_specifier x.0) x.1 o

-- a declarator of a declaration or of a function's definition (6.7.6, 6.9.1)
pub record IsDeclarator (scopes : List Scope) (height : ℕ) (x : In DeclaratorTree) (n : ℕ) (text : List Lexeme) : Type 0 where
  pub grammatical : grammatical_declarator scopes height n x.0 ≡ true
  pub after : x.1 ≡ after_declarator scopes x.0
  pub spelled : text ≡ spell_declarator x.0

abbrev pub declarator_goes : In DeclaratorTree → Option Lexeme → Bool
declarator_goes x o = goes_on_declarator InDefinition o

-- a declarator that declares a name and has no identifier list (6.7.6, 6.7.6.3p3)
pub record IsNamedDeclarator (scopes : List Scope) (height : ℕ) (x : In DeclaratorTree) (n : ℕ) (text : List Lexeme) : Type 0 where
  pub is : IsDeclarator scopes height x n text
  pub no_names : has_names x.0 ≡ false

abbrev pub named_declarator_goes : In DeclaratorTree → Option Lexeme → Bool
named_declarator_goes x o = goes_on_declarator InMember o

-- an initialiser (6.7.9)
pub record IsInit (scopes : List Scope) (height : ℕ) (x : In InitTree) (n : ℕ) (text : List Lexeme) : Type 0 where
  pub grammatical : grammatical_init scopes height n x.0 ≡ true
  pub after : x.1 ≡ after_init scopes x.0
  pub spelled : text ≡ spell_init x.0

abbrev pub init_goes : In InitTree → Option Lexeme → Bool
init_goes x o = goes_on_expr Assignment o
