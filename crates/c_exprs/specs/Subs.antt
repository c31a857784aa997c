-- Device, but for `In`, a tree with the scopes behind it, of which definitions speak: the readings of parts, which a reading of the grammar takes from one height below; and forms of reading that several productions share.
use Rattle.std.specs.Prelude.{ℕ, Bool, true, false, not, ◌&&◌, List, [], ◌∷◌, ◌++◌, Option}
use Rattle.typedef_scopes.specs.Scopes.{Scope}
use Rattle.c_tree.specs.declared.level.Level.{Level}
use Rattle.c_tree.specs.Syntax.{ExprTree, SpecifierTrees, DeclaratorTree, ItemTrees}
use Rattle.c_tree.specs.Spelling.{Lexeme}
use Rattle.cil_base.specs.declared.tokens.Punctuator.TheVariants.{Comma as CommaSign}
use Rattle.c_exprs.specs.declared.words.SpecifierForm.{SpecifierForm}
use Rattle.c_exprs.specs.declared.words.DeclaratorForm.{DeclaratorForm}
use Rattle.c_cursor.specs.Readers.{Reader, pure, fail, bind, when, many}
use Rattle.c_cursor.specs.Classes.{is_sign, next_is, take}

-- what was read, and the scopes behind it
abbrev pub In : Type 0 → Type 0
In A = A × List Scope

pub record Subs : Type 0 where
  -- an expression of a level
  pub expr : Level → List Scope → Reader (In ExprTree)
  -- a unary expression that begins with a parenthesised expression, behind its `(` of that number
  pub parenthesised : ℕ → List Scope → Reader (In ExprTree)
  -- an assignment expression that begins with a unary `*`, behind that token of that number
  pub starred : ℕ → List Scope → Reader (In ExprTree)
  -- a unary expression that begins with a compound literal, behind `( type-name )`; the `(` has that number
  pub literal : ℕ → In (SpecifierTrees × DeclaratorTree) → Reader (In ExprTree)
  pub specifiers : SpecifierForm → List Scope → Reader (In SpecifierTrees)
  pub declarator : DeclaratorForm → List Scope → Reader (In DeclaratorTree)
  -- the items of an initialiser in braces, and whether a comma stands behind the last
  pub items : List Scope → Reader (In (ItemTrees × Bool))

-- no part can be so low
abbrev pub nothing : Subs
nothing = record {
  expr = λ level ds. fail;
  parenthesised = λ at ds. fail;
  starred = λ at ds. fail;
  literal = λ at t. fail;
  specifiers = λ form ds. fail;
  declarator = λ form ds. fail;
  items = λ ds. fail;
}

-- what was read, where no token stands next that goes on
abbrev pub stopped : {A : Type 0} → (Option Lexeme → Bool) → A → Reader A
stopped test a = when test fail (pure a)

-- one more at the end of a list, read in the scopes behind it
abbrev pub grow : {A : Type 0} → (List Scope → Reader (In A)) → In (List A) → Reader (In (List A))
grow item x = bind (item x.1) (λ y. pure (x.0 ++ y.0 ∷ [], y.1))

-- a list with commas between its items

abbrev pub behind_comma : {A : Type 0} → (List Scope → Reader (In A)) → List Scope → Reader (In A)
behind_comma item ds = bind (take (is_sign CommaSign)) (λ c. item ds)

abbrev pub comma_ahead : Option Lexeme → Bool
comma_ahead o = next_is (is_sign CommaSign) o

abbrev pub more_listed : {A : Type 0} → (List Scope → Reader (In A)) → In (List A) → Reader (In (List A))
more_listed item x = many (λ y. comma_ahead) (grow (behind_comma item)) x

abbrev pub listed : {A : Type 0} → (List Scope → Reader (In A)) → List Scope → Reader (In (List A))
listed item ds = bind (item ds) (λ y. more_listed item (y.0 ∷ [], y.1))

-- the same where something may stand behind a last comma: the token that `ends` knows; `final` takes it. Whether it was there is told beside the list.

abbrev pub one_more_or_end : {A : Type 0} → (Option Lexeme → Bool) → Reader (Unit {0}) → (List Scope → Reader (In A)) → In (List A × Bool) → Reader (In (List A × Bool))
one_more_or_end ends final item x = when ends (bind final (λ c. pure ((x.0.0, true), x.1))) (bind (item x.1) (λ y. pure ((x.0.0 ++ y.0 ∷ [], false), y.1)))

abbrev pub more_or_end : {A : Type 0} → (Option Lexeme → Bool) → Reader (Unit {0}) → (List Scope → Reader (In A)) → In (List A × Bool) → Reader (In (List A × Bool))
more_or_end ends final item x = bind (take (is_sign CommaSign)) (λ c. one_more_or_end ends final item x)

abbrev pub more_listed_to : {A : Type 0} → (Option Lexeme → Bool) → Reader (Unit {0}) → (List Scope → Reader (In A)) → In (List A × Bool) → Reader (In (List A × Bool))
more_listed_to ends final item x = many (λ y o. not y.0.1 && comma_ahead o) (more_or_end ends final item) x

abbrev pub listed_to : {A : Type 0} → (Option Lexeme → Bool) → Reader (Unit {0}) → (List Scope → Reader (In A)) → List Scope → Reader (In (List A × Bool))
listed_to ends final item ds = bind (item ds) (λ y. more_listed_to ends final item ((y.0 ∷ [], false), y.1))
