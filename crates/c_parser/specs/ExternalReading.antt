-- Device: the reading of external declarations (6.9).
use Rattle.std.specs.Prelude.{ℕ, Bool, true, false, ◌||◌, List, [], ◌∷◌, Option}
use Rattle.cil_base.specs.declared.tokens.Punctuator.TheVariants.{LeftBrace, Semicolon}
use Rattle.typedef_scopes.specs.Scopes.{Scope}
use Rattle.c_tree.specs.Syntax.{SpecifierTrees, DeclaratorTree, InitTree}
use Rattle.c_tree.specs.Spelling.{Lexeme}
use Rattle.c_tree.specs.Units.{DeclarationTree, Declares, ExternalTree, Definition, External}
use Rattle.c_tree.specs.Levels.{has_own_names}
use Rattle.c_tree.specs.Scoped.{entered, has_typedef, after_own_list}
use Rattle.c_exprs.specs.declared.words.SpecifierForm.TheVariants.{Declaration as InDeclaration}
use Rattle.c_exprs.specs.declared.words.DeclaratorForm.TheVariants.{Definition as InDefinition}
use Rattle.c_cursor.specs.Readers.{Reader, pure, here, bind, when, pick, many}
use Rattle.c_cursor.specs.Classes.{is_sign, is_assert_word, next_is, take}
use Rattle.c_exprs.specs.Subs.{In, grow, more_listed}
use Rattle.c_parser.specs.StatementWords.{begins_declaration}
use Rattle.c_parser.specs.Parts.{Parts}
use Rattle.c_parser.specs.DeclarationReading.{static_assert, behind_declarator, init_declarator, naming}

-- declarations of the identifiers of a list, each in the scopes behind those before it (6.9.1p6)
abbrev pub declarations : Parts → List Scope → Reader (In (List DeclarationTree))
declarations p ds = many (λ y. next_is (begins_declaration y.1)) (grow p.declaration) ([], ds)

-- they stand only behind an identifier list
abbrev pub own_declarations : Bool → Parts → List Scope → Reader (In (List DeclarationTree))
own_declarations named p ds = pick named (declarations p ds) (pure ([], ds))

-- what stands behind the declarator `d` of a function's definition; its name is declared in the scopes in front of the body

abbrev pub body_behind : Parts → ℕ → SpecifierTrees → In DeclaratorTree → In (List DeclarationTree) → Reader (In ExternalTree)
body_behind p at ss d xs = bind here (λ b. bind (p.body xs.1) (λ is. pure (Definition at ss d.0 xs.0 b is, d.1)))

abbrev pub definition : Parts → ℕ → SpecifierTrees → In DeclaratorTree → Reader (In ExternalTree)
definition p at ss d = bind (own_declarations (has_own_names d.0) p (after_own_list (entered d.1) d.0)) (λ xs. body_behind p at ss d xs)

-- of a declaration, whose first declarator is `d`

abbrev pub more_declarators : Parts → ℕ → SpecifierTrees → In (DeclaratorTree × Option InitTree) → Reader (In ExternalTree)
more_declarators p at ss x = bind (more_listed (init_declarator p (has_typedef ss)) (x.0 ∷ [], x.1)) (λ xs. bind (take (is_sign Semicolon)) (λ c. pure (External (Declares at ss xs.0), xs.1)))

abbrev pub declared : Parts → ℕ → SpecifierTrees → In DeclaratorTree → Reader (In ExternalTree)
declared p at ss d = bind (behind_declarator p d) (λ x. more_declarators p at ss x)

-- the declarator is that of a definition
abbrev pub defines : DeclaratorTree → Option Lexeme → Bool
defines d o = has_own_names d || next_is (is_sign LeftBrace) o

abbrev pub defined_or_declared : Parts → ℕ → SpecifierTrees → In DeclaratorTree → Reader (In ExternalTree)
defined_or_declared p at ss d = when (defines d.0) (definition p at ss d) (declared p at ss d)

abbrev pub first_declarator : Parts → ℕ → In SpecifierTrees → Reader (In ExternalTree)
first_declarator p at ss = bind (p.trees.declarator InDefinition ss.1) (λ d. defined_or_declared p at ss.0 (naming (has_typedef ss.0) d))

-- `;`
abbrev pub no_declarator : ℕ → In SpecifierTrees → Reader (In ExternalTree)
no_declarator at ss = bind (take (is_sign Semicolon)) (λ c. pure (External (Declares at ss.0 []), ss.1))

abbrev pub behind_specifiers : Parts → ℕ → In SpecifierTrees → Reader (In ExternalTree)
behind_specifiers p at ss = when (next_is (is_sign Semicolon)) (no_declarator at ss) (first_declarator p at ss)

abbrev pub specified : Parts → List Scope → ℕ → Reader (In ExternalTree)
specified p ds at = bind (p.trees.specifiers InDeclaration ds) (λ ss. behind_specifiers p at ss)

abbrev pub asserted : Parts → List Scope → ℕ → Reader (In ExternalTree)
asserted p ds at = bind (static_assert p ds at) (λ d. pure (External d.0, d.1))

abbrev pub external_at : Parts → List Scope → ℕ → Reader (In ExternalTree)
external_at p ds at = when (next_is is_assert_word) (asserted p ds at) (specified p ds at)

abbrev pub external : Parts → List Scope → Reader (In ExternalTree)
external p ds = bind here (λ at. external_at p ds at)
