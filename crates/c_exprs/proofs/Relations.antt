-- Device: what tokens each part of a tree has where it stands: the relations that the readings are held to. `Low` bounds the height.
use Rattle.std.proofs.Common.{◌≡◌, ℕ, ◌+◌, ◌<◌, max, length, Bool, true, false, not, ◌&&◌, ◌||◌, List, ◌∷◌, ◌++◌, Option}
use Rattle.cil_base.specs.declared.tokens.Punctuator.TheVariants.{LeftParen, RightBrace, Star as StarSign}
use Rattle.typedef_scopes.specs.Scopes.{Scope}
use Rattle.c_tree.specs.declared.level.Level.{Level}
use Rattle.c_tree.specs.declared.level.Level.TheVariants.{Unary as UnaryLevel, Assignment}
use Rattle.c_tree.specs.declared.words.UnaryOp.TheVariants.{Indirection}
use Rattle.c_tree.specs.Syntax.{ExprTree, Parentheses, Index, Call, Member, Arrow, Postfix, CompoundLiteral, Unary, Binary, Logical, Conditional, Assign, Comma, TypeName, SpecifierTrees, DeclaratorTree, ItemTrees}
use Rattle.c_tree.specs.Spelling.{Lexeme, sign, in_parens, with_commas, last_comma, spell_expr, spell_specifiers, spell_declarator, spell_items}
use Rattle.c_tree.specs.Height.{expr_height, specifiers_height, declarator_height, items_height}
use Rattle.c_tree.specs.Levels.{is_within, levelled, levelled_specifiers, levelled_declarator, levelled_items, has_specifier, has_item, are_specifier_qualifiers, is_type_name, declares, has_names, has_other_names}
use Rattle.c_tree.specs.Placed.{placed_expr, placed_specifiers, placed_declarator, placed_items}
use Rattle.c_tree.specs.Scoped.{scoped_expr, scoped_specifiers, scoped_declarator, scoped_type_name, scoped_items, after_expr, after_specifiers, after_declarator, after_type_name, after_items, has_type_specifier, takes_typedef_names}
use Rattle.c_exprs.specs.declared.words.SpecifierForm.{SpecifierForm}
use Rattle.c_exprs.specs.declared.words.DeclaratorForm.{DeclaratorForm}
use Rattle.c_exprs.specs.declared.words.DeclaratorForm.TheVariants.{Definition as InDefinition, Member as InMember, Abstract as InAbstract, Parameter as InParameter}
use Rattle.c_cursor.specs.Classes.{is_sign, next_is}
use Rattle.c_exprs.specs.Classes.{in_type_name}
use Rattle.c_exprs.specs.GoesOn.{goes_on_expr, goes_on_specifiers, goes_on_declarator}
use Rattle.c_exprs.specs.Subs.{In, Subs, comma_ahead}
use Rattle.c_exprs.proofs.Laws.{Lawful, Any, At}

abbrev pub Below : ℕ → ℕ → Type 0
Below h n = n < h

abbrev pub Unbounded : ℕ → Type 0
Unbounded n = Unit {0}

-- expressions

pub record GoodExpr (Low : ℕ → Type 0) (ds : List Scope) (n : ℕ) (x : In ExprTree) : Type 0 where
  pub levelled : levelled x.0 ≡ true
  pub placed : placed_expr n x.0 ≡ true
  pub scoped : scoped_expr ds x.0 ≡ true
  pub low : Low (expr_height x.0)
  pub after : x.1 ≡ after_expr ds x.0

pub record ExprIs (Low : ℕ → Type 0) (level : Level) (ds : List Scope) (x : In ExprTree) (n : ℕ) (text : List Lexeme) : Type 0 where
  pub good : GoodExpr Low ds n x
  pub within : is_within level x.0 ≡ true
  pub spelled : text ≡ spell_expr x.0

abbrev pub EndsExpr : Level → In ExprTree → Option Lexeme → Type 0
EndsExpr level x o = goes_on_expr level o ≡ false

-- what stands first in an expression: its leftmost operand that has no operand before it
abbrev pub base_of : ExprTree → ExprTree
base_of (Index at e i) = base_of e
base_of (Call at e es) = base_of e
base_of (Member at e n) = base_of e
base_of (Arrow at e n) = base_of e
base_of (Postfix at e op) = base_of e
base_of (Binary at op l r) = base_of l
base_of (Logical at op l r) = base_of l
base_of (Conditional at c a b) = base_of c
base_of (Assign at op l r) = base_of l
base_of (Comma at l r) = base_of l
base_of e = e

-- type names

pub record GoodType (Low : ℕ → Type 0) (ds : List Scope) (n : ℕ) (t : In (SpecifierTrees × DeclaratorTree)) : Type 0 where
  pub type_name : is_type_name t.0.0 t.0.1 ≡ true
  pub specifiers : levelled_specifiers t.0.0 ≡ true
  pub declarator : levelled_declarator t.0.1 ≡ true
  pub specifiers_placed : placed_specifiers n t.0.0 ≡ true
  pub declarator_placed : placed_declarator (n + length (spell_specifiers t.0.0)) t.0.1 ≡ true
  pub scoped : scoped_type_name ds (TypeName t.0.0 t.0.1) ≡ true
  pub low : Low (max (specifiers_height t.0.0) (declarator_height t.0.1))
  pub after : t.1 ≡ after_type_name ds (TypeName t.0.0 t.0.1)

abbrev pub type_text : SpecifierTrees × DeclaratorTree → List Lexeme
type_text t = spell_specifiers t.0 ++ spell_declarator t.1

pub record TypeIs (Low : ℕ → Type 0) (ds : List Scope) (t : In (SpecifierTrees × DeclaratorTree)) (n : ℕ) (text : List Lexeme) : Type 0 where
  pub good : GoodType Low ds n t
  pub spelled : text ≡ type_text t.0

-- items of an initialiser in braces

pub record ItemsIs (Low : ℕ → Type 0) (ds : List Scope) (x : In (ItemTrees × Bool)) (n : ℕ) (text : List Lexeme) : Type 0 where
  pub some : has_item x.0.0 ≡ true
  pub levelled : levelled_items x.0.0 ≡ true
  pub placed : placed_items n x.0.0 ≡ true
  pub scoped : scoped_items ds x.0.0 ≡ true
  pub low : Low (items_height x.0.0)
  pub after : x.1 ≡ after_items ds x.0.0
  pub spelled : text ≡ with_commas (spell_items x.0.0) ++ last_comma x.0.1

abbrev pub EndsList : Bool → Option Lexeme → Type 0
EndsList false o = (goes_on_expr Assignment o ≡ false) × (comma_ahead o ≡ false)
EndsList true o = next_is (is_sign RightBrace) o ≡ true

abbrev pub EndsItems : In (ItemTrees × Bool) → Option Lexeme → Type 0
EndsItems x o = EndsList x.0.1 o

-- specifiers

pub record SpecifiersIs (Low : ℕ → Type 0) (form : SpecifierForm) (ds : List Scope) (x : In SpecifierTrees) (n : ℕ) (text : List Lexeme) : Type 0 where
  pub some : has_specifier x.0 ≡ true
  pub of_form : (not (in_type_name form) || are_specifier_qualifiers x.0) ≡ true
  pub levelled : levelled_specifiers x.0 ≡ true
  pub placed : placed_specifiers n x.0 ≡ true
  pub scoped : scoped_specifiers false ds x.0 ≡ true
  pub low : Low (specifiers_height x.0)
  pub after : x.1 ≡ after_specifiers ds x.0
  pub spelled : text ≡ spell_specifiers x.0

abbrev pub EndsSpecifiers : In SpecifierTrees → Option Lexeme → Type 0
EndsSpecifiers x o = goes_on_specifiers (has_type_specifier x.0) x.1 o ≡ false

-- declarators

abbrev pub is_of_form : DeclaratorForm → List Scope → DeclaratorTree → Bool
is_of_form InDefinition ds d = declares d && not (has_other_names d)
is_of_form InMember ds d = declares d && not (has_names d)
is_of_form InAbstract ds d = not (declares d || has_names d)
is_of_form InParameter ds d = not (has_names d) && takes_typedef_names ds d

pub record DeclaratorIs (Low : ℕ → Type 0) (form : DeclaratorForm) (ds : List Scope) (x : In DeclaratorTree) (n : ℕ) (text : List Lexeme) : Type 0 where
  pub of_form : is_of_form form ds x.0 ≡ true
  pub levelled : levelled_declarator x.0 ≡ true
  pub placed : placed_declarator n x.0 ≡ true
  pub scoped : scoped_declarator ds x.0 ≡ true
  pub low : Low (declarator_height x.0)
  pub after : x.1 ≡ after_declarator ds x.0
  pub spelled : text ≡ spell_declarator x.0

abbrev pub EndsDeclarator : DeclaratorForm → In DeclaratorTree → Option Lexeme → Type 0
EndsDeclarator form x o = goes_on_declarator form o ≡ false

-- expressions of which the first tokens were taken

pub record ParenthesisedIs (Low : ℕ → Type 0) (at : ℕ) (ds : List Scope) (x : In ExprTree) (n : ℕ) (text : List Lexeme) : Type 0 where
  pub inner : ExprTree
  pub base : base_of x.0 ≡ Parentheses at inner
  pub number : n ≡ at + 1
  pub whole : ExprIs Low UnaryLevel ds x at (sign LeftParen ∷ text)

pub record StarredIs (Low : ℕ → Type 0) (at : ℕ) (ds : List Scope) (x : In ExprTree) (n : ℕ) (text : List Lexeme) : Type 0 where
  pub inner : ExprTree
  pub base : base_of x.0 ≡ Unary at Indirection inner
  pub number : n ≡ at + 1
  pub whole : ExprIs Low Assignment ds x at (sign StarSign ∷ text)

pub record LiteralIs (Low : ℕ → Type 0) (at : ℕ) (ds : List Scope) (t : In (SpecifierTrees × DeclaratorTree)) (x : In ExprTree) (n : ℕ) (text : List Lexeme) : Type 0 where
  pub items : ItemTrees
  pub comma : Bool
  pub base : base_of x.0 ≡ CompoundLiteral at (TypeName t.0.0 t.0.1) items comma
  pub number : n ≡ at + length (in_parens (type_text t.0))
  pub whole : ExprIs Low UnaryLevel ds x at (in_parens (type_text t.0) ++ text)

-- the readings of parts give exactly those that are low
pub record LawfulSubs (Low : ℕ → Type 0) (sub : Subs) : Type 0 where
  pub expr : (level : Level) (ds : List Scope) → Lawful Any (sub.expr level ds) (ExprIs Low level ds) (EndsExpr level)
  pub parenthesised : (at : ℕ) (ds : List Scope) → Lawful (At (at + 1)) (sub.parenthesised at ds) (ParenthesisedIs Low at ds) (EndsExpr UnaryLevel)
  pub starred : (at : ℕ) (ds : List Scope) → Lawful (At (at + 1)) (sub.starred at ds) (StarredIs Low at ds) (EndsExpr Assignment)
  pub literal : (at : ℕ) (ds : List Scope) (t : In (SpecifierTrees × DeclaratorTree)) → GoodType Unbounded ds (at + 1) t →
      Lawful (At (at + length (in_parens (type_text t.0)))) (sub.literal at t) (LiteralIs Low at ds t) (EndsExpr UnaryLevel)
  pub specifiers : (form : SpecifierForm) (ds : List Scope) → Lawful Any (sub.specifiers form ds) (SpecifiersIs Low form ds) EndsSpecifiers
  pub declarator : (form : DeclaratorForm) (ds : List Scope) → Lawful Any (sub.declarator form ds) (DeclaratorIs Low form ds) (EndsDeclarator form)
  pub items : (ds : List Scope) → Lawful Any (sub.items ds) (ItemsIs Low ds) EndsItems
