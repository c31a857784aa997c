-- Device: an executable reading of a unit's tokens: a shift-reduce automaton. The law `reading_is_exact` says that it finds the expression of each unit of the form, and of no other.
use Rattle.std.specs.Prelude.{ℕ, ◌+◌, ◌^◌, ◌&&◌, nat_lt, max, List, [], ◌∷◌, length, codes, decimal, Option, Some, None, option_map, option_and_then, if◌then◌else◌}
use Rattle.std.specs.Str.{bytes_eq}
use Rattle.std.specs.Str.Parse.{digits_value}
use Rattle.cil_base.specs.declared.operators.BinOp.{BinOp}
use Rattle.cil_base.specs.declared.operators.BinOp.TheVariants.{Add, Sub}
use Rattle.cil_base.specs.declared.tokens.Keyword.{Keyword}
use Rattle.cil_base.specs.declared.tokens.Keyword.TheVariants.{Int, Void, Return}
use Rattle.cil_base.specs.declared.tokens.Punctuator.{Punctuator}
use Rattle.cil_base.specs.declared.tokens.Punctuator.TheVariants.{LeftParen, RightParen, LeftBrace, RightBrace, Semicolon as SemicolonSign, Plus as PlusSign, Minus as MinusSign}
use Rattle.c_meaning.specs.SourceFile.{Spelled, Word, Sign, Identifier, Constant as Digits, CharacterConstant, StringLiteral}
use Rattle.c_meaning.specs.Grammar.{Expression, Constant, Parentheses, Binary}

-- the tokens that a unit of the form can have
pub data Terminal : Type 0 where
  IntWord : Terminal
  MainWord : Terminal
  VoidWord : Terminal
  ReturnWord : Terminal
  Number : (value : ℕ) → Terminal
  OpenParen : Terminal
  CloseParen : Terminal
  OpenBrace : Terminal
  CloseBrace : Terminal
  Semicolon : Terminal
  Plus : Terminal
  Minus : Terminal

-- the token as the grammar sees it
abbrev pub token_of : Terminal → Spelled
token_of IntWord = Word Int
token_of MainWord = Identifier (codes "main")
token_of VoidWord = Word Void
token_of ReturnWord = Word Return
token_of (Number value) = Digits (decimal value)
token_of OpenParen = Sign LeftParen
token_of CloseParen = Sign RightParen
token_of OpenBrace = Sign LeftBrace
token_of CloseBrace = Sign RightBrace
token_of Semicolon = Sign SemicolonSign
token_of Plus = Sign PlusSign
token_of Minus = Sign MinusSign

abbrev pub word_terminal : Keyword → Option Terminal
word_terminal Int = Some IntWord
word_terminal Void = Some VoidWord
word_terminal Return = Some ReturnWord
word_terminal _ = None

abbrev pub sign_terminal : Punctuator → Option Terminal
sign_terminal LeftParen = Some OpenParen
sign_terminal RightParen = Some CloseParen
sign_terminal LeftBrace = Some OpenBrace
sign_terminal RightBrace = Some CloseBrace
sign_terminal SemicolonSign = Some Semicolon
sign_terminal PlusSign = Some Plus
sign_terminal MinusSign = Some Minus
sign_terminal _ = None

-- an integer constant that is decimal digits of a number below 2^31
unfoldable pub number_terminal : List ℕ → Option Terminal
number_terminal text = if nat_lt (digits_value 10 text) (2 ^ 31) && bytes_eq text (decimal (digits_value 10 text)) then Some (Number (digits_value 10 text)) else None

unfoldable pub name_terminal : List ℕ → Option Terminal
name_terminal text = if bytes_eq text (codes "main") then Some MainWord else None

-- the token of the form that a token is
abbrev pub terminal_of : Spelled → Option Terminal
terminal_of (Word keyword) = word_terminal keyword
terminal_of (Sign punctuator) = sign_terminal punctuator
terminal_of (Identifier text) = name_terminal text
terminal_of (Digits text) = number_terminal text
terminal_of (CharacterConstant text) = None
terminal_of (StringLiteral text) = None

-- what is awaited before the expression
pub data Place : Type 0 where
  AtType : Place
  AtName : Place
  AtList : Place
  AtVoid : Place
  AtListEnd : Place
  AtBody : Place
  AtReturn : Place

-- where an operand is awaited: at the beginning of an expression, or behind an operator, with its left operand and the height of that
pub data Context : Type 0 where
  Beginning : Context
  Behind : (op : BinOp) (left : Expression) (left_height : ℕ) → Context

-- what was read last. A whole expression stands with its height
pub data State : Type 0 where
  Front : (place : Place) → State
  Operand : (context : Context) → State
  Whole : (e : Expression) (its_height : ℕ) → State
  Returned : (e : Expression) → State
  Done : (e : Expression) → State

abbrev pub passed : Place → Terminal → Option State
passed AtType IntWord = Some (Front AtName)
passed AtName MainWord = Some (Front AtList)
passed AtList OpenParen = Some (Front AtVoid)
passed AtVoid VoidWord = Some (Front AtListEnd)
passed AtListEnd CloseParen = Some (Front AtBody)
passed AtBody OpenBrace = Some (Front AtReturn)
passed AtReturn ReturnWord = Some (Operand Beginning)
passed _ _ = None

-- an operand is put where it was awaited; nothing higher than the limit is built
abbrev pub placed : ℕ → Context → Expression → ℕ → Option State
placed limit Beginning e its_height = Some (Whole e its_height)
placed limit (Behind op left left_height) e its_height =
    if nat_lt (max left_height its_height) limit then Some (Whole (Binary op left e) (1 + max left_height its_height)) else None

-- a parenthesis begins; around `open` of them nothing within the limit can stand if there are too many
abbrev pub opened : ℕ → Context → List Context → Option (State × List Context)
opened limit context below = if nat_lt (1 + length below) limit then Some (Operand Beginning, context ∷ below) else None

-- a parenthesis ends
abbrev pub closed : ℕ → Expression → ℕ → List Context → Option (State × List Context)
closed limit e its_height [] = None
closed limit e its_height (context ∷ below) =
    if nat_lt its_height limit then option_map (λ state. (state, below)) (placed limit context (Parentheses e) (1 + its_height)) else None

abbrev pub ended : Expression → List Context → Option (State × List Context)
ended e [] = Some (Returned e, [])
ended e (context ∷ below) = None

-- one token more; `below` has what is awaited around each open parenthesis, the innermost first
abbrev pub fed : ℕ → Terminal → State → List Context → Option (State × List Context)
fed limit token (Front place) below = option_map (λ state. (state, below)) (passed place token)
fed limit (Number value) (Operand context) below = option_map (λ state. (state, below)) (placed limit context (Constant value) 1)
fed limit OpenParen (Operand context) below = opened limit context below
fed limit Plus (Whole e its_height) below = Some (Operand (Behind Add e its_height), below)
fed limit Minus (Whole e its_height) below = Some (Operand (Behind Sub e its_height), below)
fed limit CloseParen (Whole e its_height) below = closed limit e its_height below
fed limit Semicolon (Whole e its_height) below = ended e below
fed limit CloseBrace (Returned e) below = Some (Done e, below)
fed limit _ _ _ = None

abbrev pub result_of : State → Option Expression
result_of (Done e) = Some e
result_of _ = None

-- the expression of the unit whose remaining tokens these are
abbrev pub run : ℕ → List Terminal → State → List Context → Option Expression
run limit [] state below = result_of state
run limit (token ∷ tokens) state below = option_and_then (λ next. run limit tokens next.0 next.1) (fed limit token state below)

-- the same from the remaining tokens of a unit, or none where another token than those of the form is among them before it ends
abbrev pub read_on : ℕ → List Spelled → State → List Context → Option Expression
read_on limit [] state below = result_of state
read_on limit (t ∷ ts) state below = option_and_then (λ (next : State × List Context). read_on limit ts next.0 next.1) (option_and_then (λ token. fed limit token state below) (terminal_of t))

-- the expression that the main of the unit returns; of 512 levels three stand around it
abbrev pub reading : List Spelled → Option Expression
reading tokens = read_on 509 tokens (Front AtType) []
