-- Device: the words of a CIL text, as its reader tells them apart: a token by its bytes is a sign, a reserved word, a number or a name.
use Rattle.std.specs.Prelude.{ℕ, ◌+◌, ◌*◌, ◌-◌, ◌^◌, nat_lt, if◌then◌else◌, List, [], ◌∷◌, Option, Some, None, codes}
use Rattle.std.specs.Str.{bytes_eq}
use Rattle.std.specs.Char.{is_ascii_digit}
use Rattle.cil_base.specs.declared.kinds.IntKind.{IntKind}
use Rattle.cil_base.specs.declared.kinds.IntKind.TheVariants.{Int, UInt, Long, ULong, LLong, ULLong}
use Rattle.cil_base.specs.declared.operators.BinOp.{BinOp}
use Rattle.cil_base.specs.declared.operators.BinOp.TheVariants.{Mul, Div, Rem, Add, Sub, Shl, Shr, Lt, Gt, Le, Ge, Eq, Ne, And, Xor, Or}
use Rattle.type_graph.specs.declared.aggregates.AggKind.{AggKind}
use Rattle.type_graph.specs.declared.aggregates.AggKind.TheVariants.{Struct, Union, Enum}
use Rattle.cil_tree.specs.Lines.{Token}

pub data Word : Type 0 where
  LeftParen : Word
  RightParen : Word
  LeftBracket : Word
  RightBracket : Word
  LeftBrace : Word
  RightBrace : Word
  Dot : Word
  Comma : Word
  Semicolon : Word
  Colon : Word
  Assign : Word
  Ellipsis : Word
  Tilde : Word
  Bang : Word
  Operator : (op : BinOp) → Word
  VoidWord : Word
  BoolWord : Word
  CharWord : Word
  ShortWord : Word
  IntWord : Word
  LongWord : Word
  SignedWord : Word
  UnsignedWord : Word
  TagWord : (kind : AggKind) → Word
  ExternWord : Word
  StaticWord : Word
  IfWord : Word
  ElseWord : Word
  SwitchWord : Word
  WhileWord : Word
  CaseWord : Word
  DefaultWord : Word
  GotoWord : Word
  BreakWord : Word
  ReturnWord : Word
  Number : (kind : IntKind) (value : ℕ) → Word
  Name : (text : List ℕ) → Word
  Other : Word

-- what a table has for a text
abbrev pub look_up : {A : Type 0} → List (Token × A) → Token → Option A
look_up [] token = None
look_up (e ∷ es) token = if bytes_eq token e.0 then Some e.1 else look_up es token

-- the punctuators of CIL
abbrev pub signs : List (Token × Word)
signs =
    (codes "(", LeftParen) ∷ (codes ")", RightParen) ∷ (codes ";", Semicolon) ∷ (codes "*", Operator Mul) ∷ (codes ",", Comma) ∷ (codes "[", LeftBracket) ∷ (codes "]", RightBracket)
    ∷ (codes "{", LeftBrace) ∷ (codes "}", RightBrace) ∷ (codes ".", Dot) ∷ (codes ":", Colon) ∷ (codes "=", Assign) ∷ (codes "...", Ellipsis) ∷ (codes "~", Tilde) ∷ (codes "!", Bang)
    ∷ (codes "/", Operator Div) ∷ (codes "%", Operator Rem) ∷ (codes "+", Operator Add) ∷ (codes "-", Operator Sub) ∷ (codes "<<", Operator Shl) ∷ (codes ">>", Operator Shr)
    ∷ (codes "<", Operator Lt) ∷ (codes ">", Operator Gt) ∷ (codes "<=", Operator Le) ∷ (codes ">=", Operator Ge) ∷ (codes "==", Operator Eq) ∷ (codes "!=", Operator Ne)
    ∷ (codes "&", Operator And) ∷ (codes "^", Operator Xor) ∷ (codes "|", Operator Or) ∷ []

-- the keywords of CIL
abbrev pub reserved : List (Token × Word)
reserved =
    (codes "void", VoidWord) ∷ (codes "_Bool", BoolWord) ∷ (codes "char", CharWord) ∷ (codes "short", ShortWord) ∷ (codes "int", IntWord) ∷ (codes "long", LongWord)
    ∷ (codes "signed", SignedWord) ∷ (codes "unsigned", UnsignedWord) ∷ (codes "struct", TagWord Struct) ∷ (codes "union", TagWord Union) ∷ (codes "enum", TagWord Enum)
    ∷ (codes "extern", ExternWord) ∷ (codes "static", StaticWord) ∷ (codes "if", IfWord) ∷ (codes "else", ElseWord) ∷ (codes "switch", SwitchWord) ∷ (codes "while", WhileWord)
    ∷ (codes "case", CaseWord) ∷ (codes "default", DefaultWord) ∷ (codes "goto", GotoWord) ∷ (codes "break", BreakWord) ∷ (codes "return", ReturnWord) ∷ []

-- the kinds of constants by their suffixes (C11 6.4.4.1), in the data model whose long has 8 bytes
abbrev pub suffixes : List (Token × IntKind)
suffixes = ([], Int) ∷ (codes "U", UInt) ∷ (codes "L", Long) ∷ (codes "UL", ULong) ∷ (codes "LL", LLong) ∷ (codes "ULL", ULLong) ∷ []

abbrev pub number_or_other : ℕ → Option IntKind → Word
number_or_other n None = Other
number_or_other n (Some kind) = Number kind n

-- digits behind those of n, and a suffix; a number has at most 64 bits
abbrev pub number_from : ℕ → List ℕ → Word
number_from n [] = Number Int n
number_from n (b ∷ bytes) =
    if is_ascii_digit b
    then (if nat_lt (n * 10 + (b - 48)) (2 ^ 64) then number_from (n * 10 + (b - 48)) bytes else Other)
    else number_or_other n (look_up suffixes (b ∷ bytes))

abbrev pub free_word : Token → Word
free_word [] = Other
free_word (b ∷ bytes) = if is_ascii_digit b then number_from 0 (b ∷ bytes) else Name (b ∷ bytes)

abbrev pub first_of : Option Word → Option Word → Word → Word
first_of (Some w) _ _ = w
first_of None (Some w) _ = w
first_of None None w = w

-- a token as a word
unfoldable pub word_of : Token → Word
word_of token = first_of (look_up signs token) (look_up reserved token) (free_word token)

-- tokens as words, in front of others
abbrev pub onto : List Token → List Word → List Word
onto [] rest = rest
onto (token ∷ tokens) rest = word_of token ∷ onto tokens rest
