-- Device: classes of tokens, by which the readings of declarations and statements decide.
use Rattle.std.specs.Prelude.{Bool, true, false, ◌&&◌, ◌||◌, List, [], ◌∷◌, Option, Some, None}
use Rattle.cil_base.specs.declared.tokens.TokenKind.{TokenKind}
use Rattle.cil_base.specs.declared.tokens.TokenKind.TheVariants.{Name as IsName, Keyword as IsKeyword, Integer as IsInteger, Character as IsCharacter, Literal as IsLiteral, Punctuator as IsPunctuator}
use Rattle.cil_base.specs.declared.tokens.Keyword.{Keyword}
use Rattle.cil_base.specs.declared.tokens.Keyword.TheVariants.{Break as BreakWord, Case as CaseWord, Continue as ContinueWord, Default as DefaultWord, Do as DoWord, For as ForWord, Goto as GotoWord, If as IfWord, Return as ReturnWord, Switch as SwitchWord, While as WhileWord}
use Rattle.cil_base.specs.declared.tokens.Punctuator.{Punctuator}
use Rattle.cil_base.specs.declared.tokens.Punctuator.TheVariants.{LeftBrace, Colon}
use Rattle.typedef_scopes.specs.Scopes.{Scope, is_type}
use Rattle.c_tree.specs.Spelling.{Lexeme}
use Rattle.c_cursor.specs.Readers.{Reader, head, pick}
use Rattle.c_cursor.specs.Classes.{is_sign, is_assert_word, next_is, plain, if_so, fitting, a_name}
use Rattle.c_exprs.specs.Classes.{is_some_of, begins_parameter}
use Rattle.c_parser.specs.declared.words.StatementWord.{StatementWord}
use Rattle.c_parser.specs.declared.words.StatementWord.TheVariants.{Case, Default, Block, If, Switch, While, Do, For, Goto, Continue, Break, Return}

-- the words and the brace that begin a statement (6.8)

abbrev pub statement_word : Keyword → Option StatementWord
statement_word CaseWord = Some Case
statement_word DefaultWord = Some Default
statement_word IfWord = Some If
statement_word SwitchWord = Some Switch
statement_word WhileWord = Some While
statement_word DoWord = Some Do
statement_word ForWord = Some For
statement_word GotoWord = Some Goto
statement_word ContinueWord = Some Continue
statement_word BreakWord = Some Break
statement_word ReturnWord = Some Return
statement_word _ = None

abbrev pub statement_sign : Punctuator → Option StatementWord
statement_sign LeftBrace = Some Block
statement_sign _ = None

abbrev pub statement_kind : TokenKind → Option StatementWord
statement_kind (IsName n) = None
statement_kind (IsKeyword k) = statement_word k
statement_kind IsInteger = None
statement_kind IsCharacter = None
statement_kind IsLiteral = None
statement_kind (IsPunctuator p) = statement_sign p

abbrev pub a_statement_word : Lexeme → Option StatementWord
a_statement_word u = plain statement_kind u

abbrev pub begins_by_word : TokenKind → Bool
begins_by_word k = is_some_of (statement_kind k)

abbrev pub is_while_word : TokenKind → Bool
is_while_word (IsKeyword WhileWord) = true
is_while_word _ = false

-- the next token is an identifier
abbrev pub name_ahead : Option Lexeme → Bool
name_ahead None = false
name_ahead (Some u) = is_some_of (a_name u)

-- a typedef name in scope
abbrev pub type_ahead : List Scope → Option Lexeme → Bool
type_ahead ds None = false
type_ahead ds (Some u) = is_some_of (fitting (is_type ds) (a_name u))

-- there is a next token
abbrev pub token_ahead : Option Lexeme → Bool
token_ahead None = false
token_ahead (Some u) = true

-- the token begins a declaration: a specifier, or `_Static_assert`
abbrev pub begins_declaration : List Scope → TokenKind → Bool
begins_declaration ds k = is_assert_word k || begins_parameter ds k

-- an identifier and a colon: a label (6.8.1), which may be a typedef name, as labels have a name space of their own (6.2.3)
abbrev pub label_ahead : List Lexeme → Bool
label_ahead [] = false
label_ahead (u ∷ us) = is_some_of (a_name u) && next_is (is_sign Colon) (head us)

-- by the two tokens that begin a label
abbrev pub when_label : {A : Type 0} → Reader A → Reader A → Reader A
when_label met unmet i = pick (label_ahead i.rest) met unmet i
