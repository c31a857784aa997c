-- Device: the reading of declarations (6.7) and static assertions (6.7.10).
use Rattle.std.specs.Prelude.{ℕ, Bool, List, [], ◌∷◌, Option, Some, None}
use Rattle.cil_base.specs.declared.tokens.Punctuator.TheVariants.{LeftParen, RightParen, Semicolon, Comma as CommaSign, Equal}
use Rattle.typedef_scopes.specs.Scopes.{Scope}
use Rattle.c_tree.specs.declared.level.Level.TheVariants.{Conditional as ConditionalLevel}
use Rattle.c_tree.specs.Syntax.{ExprTree, SpecifierTrees, DeclaratorTree, InitTree}
use Rattle.c_tree.specs.Units.{DeclarationTree, Declares, Asserts}
use Rattle.c_tree.specs.Scoped.{name_of, has_typedef, declared_if}
use Rattle.c_exprs.specs.declared.words.SpecifierForm.TheVariants.{Declaration as InDeclaration}
use Rattle.c_exprs.specs.declared.words.DeclaratorForm.TheVariants.{Member as InMember}
use Rattle.c_cursor.specs.Readers.{Reader, pure, here, bind, when}
use Rattle.c_cursor.specs.Classes.{is_sign, is_assert_word, next_is, take}
use Rattle.c_exprs.specs.Subs.{In, listed}
use Rattle.c_cursor.specs.Literals.{some_literals}
use Rattle.c_parser.specs.Parts.{Parts}

-- `, message ) ;`
abbrev pub assert_end : ℕ → In ExprTree → Reader (In DeclarationTree)
assert_end at e = bind (take (is_sign CommaSign)) (λ c. bind here (λ m. bind some_literals (λ texts. bind (take (is_sign RightParen)) (λ c. bind (take (is_sign Semicolon)) (λ c. pure (Asserts at e.0 m texts, e.1))))))

abbrev pub static_assert : Parts → List Scope → ℕ → Reader (In DeclarationTree)
static_assert p ds at = bind (take is_assert_word) (λ c. bind (take (is_sign LeftParen)) (λ c. bind (p.trees.expr ConditionalLevel ds) (λ e. assert_end at e)))

-- behind a declarator, whose name is declared already (6.2.1p7)

-- `= initialiser`
abbrev pub initialised : Parts → DeclaratorTree → List Scope → Reader (In (DeclaratorTree × Option InitTree))
initialised p d ds = bind (take (is_sign Equal)) (λ c. bind (p.init ds) (λ i. pure ((d, Some i.0), i.1)))

abbrev pub behind_declarator : Parts → In DeclaratorTree → Reader (In (DeclaratorTree × Option InitTree))
behind_declarator p d = when (next_is (is_sign Equal)) (initialised p d.0 d.1) (pure ((d.0, None), d.1))

-- the declarator's name is declared behind it; `typedef`: as a typedef name
abbrev pub naming : Bool → In DeclaratorTree → In DeclaratorTree
naming typedef d = (d.0, declared_if (name_of d.0) typedef d.1)

-- such a declarator has no identifier list, as a member's
abbrev pub init_declarator : Parts → Bool → List Scope → Reader (In (DeclaratorTree × Option InitTree))
init_declarator p typedef ds = bind (p.trees.declarator InMember ds) (λ d. behind_declarator p (naming typedef d))

abbrev pub init_declarators : Parts → In SpecifierTrees → Reader (In (List (DeclaratorTree × Option InitTree)))
init_declarators p ss = when (next_is (is_sign Semicolon)) (pure ([], ss.1)) (listed (init_declarator p (has_typedef ss.0)) ss.1)

-- `declarators ;`
abbrev pub behind_specifiers : Parts → ℕ → In SpecifierTrees → Reader (In DeclarationTree)
behind_specifiers p at ss = bind (init_declarators p ss) (λ x. bind (take (is_sign Semicolon)) (λ c. pure (Declares at ss.0 x.0, x.1)))

abbrev pub specified : Parts → List Scope → ℕ → Reader (In DeclarationTree)
specified p ds at = bind (p.trees.specifiers InDeclaration ds) (λ ss. behind_specifiers p at ss)

abbrev pub declaration_at : Parts → List Scope → ℕ → Reader (In DeclarationTree)
declaration_at p ds at = when (next_is is_assert_word) (static_assert p ds at) (specified p ds at)

abbrev pub declaration : Parts → List Scope → Reader (In DeclarationTree)
declaration p ds = bind here (λ at. declaration_at p ds at)
