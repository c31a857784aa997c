-- Definition: classes of tokens, told by their kind; and readers that take one token of a class.
use Rattle.std.specs.Prelude.{ℕ, Bool, true, false, not, nat_eq, List, [], ◌∷◌, Option, Some, None}
use Rattle.cil_base.specs.declared.numbers.NameId.{NameId}
use Rattle.cil_base.specs.declared.tokens.TokenKind.{TokenKind}
use Rattle.cil_base.specs.declared.tokens.TokenKind.TheVariants.{Name as IsName, Keyword as IsKeyword, Integer as IsInteger, Character as IsCharacter, Literal as IsLiteral, Punctuator as IsPunctuator}
use Rattle.cil_base.specs.declared.tokens.Keyword.TheVariants.{Static as StaticWord, StaticAssert as StaticAssertWord}
use Rattle.cil_base.specs.declared.tokens.Punctuator.{Punctuator}
use Rattle.cil_base.specs.declared.tokens.Punctuator.TheVariants.{LeftBracket, RightBracket, LeftParen, RightParen, LeftBrace, RightBrace, Dot, Arrow as ArrowSign, PlusPlus, MinusMinus, Ampersand, Star as StarSign, Plus, Minus, Tilde, Exclamation, Slash, Percent, LeftShift, RightShift, Less, Greater, LessEqual, GreaterEqual, EqualEqual, ExclamationEqual, Caret, Bar, AmpersandAmpersand, BarBar, Question, Colon, Semicolon, Ellipsis, Equal, StarEqual, SlashEqual, PercentEqual, PlusEqual, MinusEqual, LeftShiftEqual, RightShiftEqual, AmpersandEqual, CaretEqual, BarEqual, Comma as CommaSign}
use Rattle.c_tree.specs.Spelling.{Lexeme}
use Rattle.c_cursor.specs.Readers.{Reader, one}

-- a number for each punctuator, in the order of their declaration
abbrev pub sign_number : Punctuator → ℕ
sign_number LeftBracket = 0
sign_number RightBracket = 1
sign_number LeftParen = 2
sign_number RightParen = 3
sign_number LeftBrace = 4
sign_number RightBrace = 5
sign_number Dot = 6
sign_number ArrowSign = 7
sign_number PlusPlus = 8
sign_number MinusMinus = 9
sign_number Ampersand = 10
sign_number StarSign = 11
sign_number Plus = 12
sign_number Minus = 13
sign_number Tilde = 14
sign_number Exclamation = 15
sign_number Slash = 16
sign_number Percent = 17
sign_number LeftShift = 18
sign_number RightShift = 19
sign_number Less = 20
sign_number Greater = 21
sign_number LessEqual = 22
sign_number GreaterEqual = 23
sign_number EqualEqual = 24
sign_number ExclamationEqual = 25
sign_number Caret = 26
sign_number Bar = 27
sign_number AmpersandAmpersand = 28
sign_number BarBar = 29
sign_number Question = 30
sign_number Colon = 31
sign_number Semicolon = 32
sign_number Ellipsis = 33
sign_number Equal = 34
sign_number StarEqual = 35
sign_number SlashEqual = 36
sign_number PercentEqual = 37
sign_number PlusEqual = 38
sign_number MinusEqual = 39
sign_number LeftShiftEqual = 40
sign_number RightShiftEqual = 41
sign_number AmpersandEqual = 42
sign_number CaretEqual = 43
sign_number BarEqual = 44
sign_number CommaSign = 45

-- that punctuator
abbrev pub is_sign : Punctuator → TokenKind → Bool
is_sign p (IsName n) = false
is_sign p (IsKeyword k) = false
is_sign p IsInteger = false
is_sign p IsCharacter = false
is_sign p IsLiteral = false
is_sign p (IsPunctuator q) = nat_eq (sign_number p) (sign_number q)

abbrev pub is_static_word : TokenKind → Bool
is_static_word (IsKeyword StaticWord) = true
is_static_word _ = false

abbrev pub is_assert_word : TokenKind → Bool
is_assert_word (IsKeyword StaticAssertWord) = true
is_assert_word _ = false

abbrev pub is_name : TokenKind → Bool
is_name (IsName n) = true
is_name _ = false

abbrev pub is_literal : TokenKind → Bool
is_literal IsLiteral = true
is_literal _ = false

-- the next token is of the class
abbrev pub next_is : (TokenKind → Bool) → Option Lexeme → Bool
next_is test None = false
next_is test (Some u) = test u.kind

-- there is a next token, and it is not that punctuator
abbrev pub next_is_not : Punctuator → Option Lexeme → Bool
next_is_not p None = false
next_is_not p (Some u) = not (is_sign p u.kind)

-- keywords, punctuators and identifiers have no text of their own
abbrev pub of_kind : {A : Type 0} → (TokenKind → Option A) → List ℕ → TokenKind → Option A
of_kind f [] k = f k
of_kind f (v ∷ vs) k = None

abbrev pub plain : {A : Type 0} → (TokenKind → Option A) → Lexeme → Option A
plain f u = of_kind f u.value u.kind

abbrev pub if_so : {A : Type 0} → Bool → A → Option A
if_so true a = Some a
if_so false a = None

-- one of the class, where it fits
abbrev pub fitting : {A : Type 0} → (A → Bool) → Option A → Option A
fitting fits None = None
fitting fits (Some a) = if_so (fits a) a

abbrev pub take : (TokenKind → Bool) → Reader (Unit {0})
take test = one (plain (λ k. if_so (test k) tt))

abbrev pub name_kind : TokenKind → Option NameId
name_kind (IsName n) = Some n
name_kind _ = None

-- an identifier
abbrev pub a_name : Lexeme → Option NameId
a_name u = plain name_kind u

-- a string literal
abbrev pub a_literal : Lexeme → Option (List ℕ)
a_literal u = if_so (is_literal u.kind) u.value

-- constants and literals alone have a text
abbrev pub has_text : TokenKind → Bool
has_text IsInteger = true
has_text IsCharacter = true
has_text IsLiteral = true
has_text _ = false
