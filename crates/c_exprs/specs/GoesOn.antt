-- Definition: the tokens that go on behind a tree: where one of them stands next, nothing ends there. They are told by their kind, and a typedef name by the scopes `ds` that stand behind what was read.
use Rattle.std.specs.Prelude.{Bool, true, false, not, ◌&&◌, ◌||◌, nat_le, List, [], Option, Some, None}
use Rattle.cil_base.specs.declared.tokens.TokenKind.{TokenKind}
use Rattle.cil_base.specs.declared.tokens.TokenKind.TheVariants.{Name as IsName, Keyword as IsKeyword, Integer as IsInteger, Character as IsCharacter, Literal as IsLiteral, Punctuator as IsPunctuator}
use Rattle.typedef_scopes.specs.Scopes.{Scope, is_type}
use Rattle.c_tree.specs.declared.level.Level.{Level}
use Rattle.c_tree.specs.declared.level.Level.TheVariants.{Postfix as PostfixLevel}
use Rattle.c_tree.specs.Levels.{rank}
use Rattle.cil_base.specs.declared.tokens.Punctuator.TheVariants.{LeftBrace, LeftParen, LeftBracket, Star as StarSign}
use Rattle.c_tree.specs.Spelling.{Lexeme}
use Rattle.c_exprs.specs.declared.words.Operator.{Operator}
use Rattle.c_exprs.specs.declared.words.DeclaratorForm.{DeclaratorForm}
use Rattle.c_exprs.specs.declared.words.DeclaratorForm.TheVariants.{Definition as InDefinition, Member as InMember, Abstract as InAbstract, Parameter as InParameter}
use Rattle.c_cursor.specs.Classes.{is_sign, is_name, next_is}
use Rattle.c_exprs.specs.Classes.{is_some_of, operator_level, operator_sign, piece_word}

-- an operator of 6.5.2, or one that the level or a tighter one has
abbrev pub goes_on_by : Level → Option Operator → Bool
goes_on_by level None = false
goes_on_by level (Some op) = nat_le (rank (operator_level op)) (rank PostfixLevel) || nat_le (rank (operator_level op)) (rank level)

-- behind an expression: operators, and `{` and string literals, which no production takes there
abbrev pub goes_on_level : Level → TokenKind → Bool
goes_on_level level (IsName n) = false
goes_on_level level (IsKeyword k) = false
goes_on_level level IsInteger = false
goes_on_level level IsCharacter = false
goes_on_level level IsLiteral = true
goes_on_level level (IsPunctuator p) = is_sign LeftBrace (IsPunctuator p) || goes_on_by level (operator_sign p)

abbrev pub goes_on_expr : Level → Option Lexeme → Bool
goes_on_expr level o = next_is (goes_on_level level) o

-- behind specifiers: each keyword that can stand among them, `{`, and a typedef name in scope where no type specifier was read
abbrev pub goes_on_typed : Bool → List Scope → TokenKind → Bool
goes_on_typed typed ds (IsName n) = not typed && is_type ds n
goes_on_typed typed ds (IsKeyword k) = is_some_of (piece_word k)
goes_on_typed typed ds IsInteger = false
goes_on_typed typed ds IsCharacter = false
goes_on_typed typed ds IsLiteral = false
goes_on_typed typed ds (IsPunctuator p) = is_sign LeftBrace (IsPunctuator p)

abbrev pub goes_on_specifiers : Bool → List Scope → Option Lexeme → Bool
goes_on_specifiers typed ds o = next_is (goes_on_typed typed ds) o

-- behind a declarator that declares a name
abbrev pub goes_on_name : TokenKind → Bool
goes_on_name k = is_sign LeftParen k || is_sign LeftBracket k

-- behind one that may declare none: also what can stand before it
abbrev pub goes_on_absent : TokenKind → Bool
goes_on_absent k = (goes_on_name k || is_sign StarSign k) || goes_on_typed true ([]) k

abbrev pub goes_on_kind : DeclaratorForm → TokenKind → Bool
goes_on_kind InDefinition k = goes_on_name k
goes_on_kind InMember k = goes_on_name k
goes_on_kind InAbstract k = goes_on_absent k
goes_on_kind InParameter k = goes_on_absent k || is_name k

abbrev pub goes_on_declarator : DeclaratorForm → Option Lexeme → Bool
goes_on_declarator form o = next_is (goes_on_kind form) o

-- behind a type name
abbrev pub goes_on_type : Bool → List Scope → TokenKind → Bool
goes_on_type typed ds k = goes_on_typed typed ds k || (is_sign StarSign k || goes_on_name k)

abbrev pub goes_on_type_name : Bool → List Scope → Option Lexeme → Bool
goes_on_type_name typed ds o = next_is (goes_on_type typed ds) o
