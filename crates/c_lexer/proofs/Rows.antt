-- The definitions and the reading on worked rows.
use Rattle.std.proofs.Common.{◌≡◌, refl, ℕ, true, List, [], ◌∷◌, ◌++◌, codes, replicate, map}
use Rattle.cil_base.specs.declared.numbers.UnitNo.{UnitNo}
use Rattle.cil_base.specs.declared.numbers.NameId.{NameId}
use Rattle.cil_base.specs.declared.tokens.Keyword.TheVariants.{Int as IntWord, Noreturn, Restrict, Inline, Const, Signed, Alignof, Bool as BoolWord, StaticAssert, Void, Return as ReturnWord}
use Rattle.cil_base.specs.declared.tokens.Punctuator.TheVariants.{LeftBracket, LeftBrace, RightBrace, Dot, PlusPlus, MinusMinus, Plus, Greater, RightShift, LeftShiftEqual, RightShiftEqual, Ellipsis, Colon, Slash, PercentEqual, LeftParen, RightParen, Semicolon}
use Rattle.cil_base.specs.declared.tokens.TokenKind.{TokenKind}
use Rattle.cil_base.specs.declared.tokens.TokenKind.TheVariants.{Name, Keyword, Integer, Character as CharacterToken, Literal, Punctuator}
use Rattle.cil_base.specs.declared.faults.Fault.{Fault}
use Rattle.cil_base.specs.declared.faults.Fault.TheVariants.{Lexical, Excluded, Limit}
use Rattle.cil_base.specs.declared.faults.Feature.TheVariants.{Floating, Volatile, Complex, Atomic, ThreadLocal, Alignas, Generic, Jump, Assembly, Varargs, Prefixed, MultiChar, Universal, Pack, Int128, FuncName, Typeof, Attribute}
use Rattle.cil_base.specs.declared.faults.What.TheVariants.{NameBytes}
use Rattle.c_lexer.specs.declared.entries.Entry.{Entry}
use Rattle.c_lexer.specs.Words.{words_with, word_meaning}
use Rattle.c_lexer.specs.Tokens.{number_meaning, meaning_of_text, character_meaning, literal_meaning, Answer, Whole, Refused, read, begun}
use Rattle.c_lexer.specs.Automaton.{one_byte_sign, begins_sign, begins, behind_dot, behind_minus, behind_plus, behind_ampersand, behind_bar, behind_slash, behind_percent, behind_less, behind_greater, only, behind_punctuator, behind_sign, in_literal, behind_prefix, in_comment, behind, accepts, piece, pieces}

-- what an answer shows: the tokens with their lines, and the end's line; or the fault with its token's number and its line
data Seen : Type 0 where
  Tokens : List (TokenKind × ℕ) → (end : ℕ) → Seen
  Fails : (fault : Fault) (token line : ℕ) → Seen

abbrev token_seen : Entry → TokenKind × ℕ
token_seen e = (e.token.kind, e.line)

abbrev answer_seen : Answer → Seen
answer_seen (Whole entries end names) = Tokens (map token_seen entries) end.line
answer_seen (Refused refusal names) = Fails refusal.fault refusal.at.token refusal.at.line

abbrev unit : UnitNo
unit = record { 0 = 0 }

abbrev file : NameId
file = record { 0 = 0 }

abbrev name : ℕ → TokenKind
name n = Name (record { 0 = n })

-- of a unit in the file a.c
abbrev answer : List ℕ → Answer
answer bytes = read (pieces 0 true bytes) (begun unit file (codes "a.c" ∷ []))

abbrev seen : List ℕ → Seen
seen bytes = answer_seen (answer bytes)

-- the kinds of tokens of a text of one line
abbrev kinds : List TokenKind → Seen
kinds ks = Tokens (map (λ k. (k, 1)) ks) 1

abbrev fails : Fault → ℕ → Seen
fails fault token = Fails fault token 1

abbrev lf : List ℕ
lf = 10 ∷ []

abbrev quoted : List ℕ → List ℕ
quoted text = 34 ∷ (text ++ 34 ∷ [])

-- units whose answers are known
worked : map seen (
    (105 ∷ 110 ∷ 116 ∷ 32 ∷ 97 ∷ 59 ∷ 10 ∷ 99 ∷ 104 ∷ 97 ∷ 114 ∷ 32 ∷ 42 ∷ 115 ∷ 32 ∷ 61 ∷ 32 ∷ 34 ∷ 97 ∷ 98 ∷ [])
    ∷ codes "double x;"
    ∷ codes "int x = 08;"
    ∷ codes "int x = 1.5;"
    ∷ codes ""
    ∷ (10 ∷ [])
    ∷ codes "int"
    ∷ (120 ∷ 10 ∷ []) ∷ [])
    ≡ Fails Lexical 7 2
    ∷ fails (Excluded Floating) 0
    ∷ fails Lexical 3
    ∷ fails (Excluded Floating) 3
    ∷ Tokens [] 1
    ∷ Tokens [] 2
    ∷ Tokens ((Keyword IntWord, 1) ∷ []) 1
    ∷ Tokens ((name 1, 1) ∷ []) 2 ∷ []
unfolding words_with word_meaning number_meaning meaning_of_text character_meaning literal_meaning one_byte_sign begins_sign begins behind_dot behind_minus behind_plus behind_ampersand behind_bar behind_slash behind_percent behind_less behind_greater only behind_punctuator behind_sign in_literal behind_prefix in_comment behind accepts piece
worked = refl

-- a unit whose first line is a marker: its name y is token 7, on line 13 of the marker's file
marked_unit : seen (codes "# 12 " ++ (quoted (codes "dir/x.h") ++ (codes " 1" ++ (lf ++ (codes "int main(void)" ++ (lf ++ codes "{ return y; }"))))))
    ≡ Tokens ((Keyword IntWord, 12) ∷ (name 2, 12) ∷ (Punctuator LeftParen, 12) ∷ (Keyword Void, 12) ∷ (Punctuator RightParen, 12) ∷ (Punctuator LeftBrace, 13) ∷ (Keyword ReturnWord, 13) ∷ (name 3, 13) ∷ (Punctuator Semicolon, 13) ∷ (Punctuator RightBrace, 13) ∷ []) 13
unfolding words_with word_meaning number_meaning meaning_of_text character_meaning literal_meaning one_byte_sign begins_sign begins behind_dot behind_minus behind_plus behind_ampersand behind_bar behind_slash behind_percent behind_less behind_greater only behind_punctuator behind_sign in_literal behind_prefix in_comment behind accepts piece
marked_unit = refl

-- longest matches
longest : map seen (
    codes "a+++++b"
    ∷ codes "x-->y"
    ∷ codes "..."
    ∷ codes ".."
    ∷ codes "....."
    ∷ codes "<::"
    ∷ codes "<%%>"
    ∷ codes "%:"
    ∷ codes "a %:%: b"
    ∷ codes "a %:%"
    ∷ codes "a%=b"
    ∷ codes "<<=>>="
    ∷ codes "a>>b"
    ∷ codes "a/*x*/++b"
    ∷ codes "a//b"
    ∷ codes "a/b"
    ∷ codes "/**/a"
    ∷ codes "/***/a"
    ∷ codes "a /* b"
    ∷ codes "/*/"
    ∷ codes "a # b"
    ∷ codes "a @"
    ∷ codes "a$"
    ∷ codes "`"
    ∷ (97 ∷ 32 ∷ 92 ∷ [])
    ∷ (128 ∷ [])
    ∷ (0 ∷ [])
    ∷ (97 ∷ 92 ∷ 10 ∷ 98 ∷ [])
    ∷ (9 ∷ 11 ∷ 12 ∷ 13 ∷ 32 ∷ 97 ∷ []) ∷ [])
    ≡ kinds (name 1 ∷ Punctuator PlusPlus ∷ Punctuator PlusPlus ∷ Punctuator Plus ∷ name 2 ∷ [])
    ∷ kinds (name 1 ∷ Punctuator MinusMinus ∷ Punctuator Greater ∷ name 2 ∷ [])
    ∷ kinds (Punctuator Ellipsis ∷ [])
    ∷ kinds (Punctuator Dot ∷ Punctuator Dot ∷ [])
    ∷ kinds (Punctuator Ellipsis ∷ Punctuator Dot ∷ Punctuator Dot ∷ [])
    ∷ kinds (Punctuator LeftBracket ∷ Punctuator Colon ∷ [])
    ∷ kinds (Punctuator LeftBrace ∷ Punctuator RightBrace ∷ [])
    ∷ fails Lexical 0
    ∷ fails Lexical 1
    ∷ fails Lexical 1
    ∷ kinds (name 1 ∷ Punctuator PercentEqual ∷ name 2 ∷ [])
    ∷ kinds (Punctuator LeftShiftEqual ∷ Punctuator RightShiftEqual ∷ [])
    ∷ kinds (name 1 ∷ Punctuator RightShift ∷ name 2 ∷ [])
    ∷ kinds (name 1 ∷ Punctuator PlusPlus ∷ name 2 ∷ [])
    ∷ kinds (name 1 ∷ [])
    ∷ kinds (name 1 ∷ Punctuator Slash ∷ name 2 ∷ [])
    ∷ kinds (name 1 ∷ [])
    ∷ kinds (name 1 ∷ [])
    ∷ fails Lexical 1
    ∷ fails Lexical 0
    ∷ fails Lexical 1
    ∷ fails Lexical 1
    ∷ fails Lexical 1
    ∷ fails Lexical 0
    ∷ fails Lexical 1
    ∷ fails Lexical 0
    ∷ fails Lexical 0
    ∷ fails Lexical 1
    ∷ kinds (name 1 ∷ []) ∷ []
unfolding words_with word_meaning number_meaning meaning_of_text character_meaning literal_meaning one_byte_sign begins_sign begins behind_dot behind_minus behind_plus behind_ampersand behind_bar behind_slash behind_percent behind_less behind_greater only behind_punctuator behind_sign in_literal behind_prefix in_comment behind accepts piece
longest = refl

-- preprocessing numbers: integer constants, floating ones, and others
numbers : map seen (
    codes "0 00 07 0x1F 0XaB 1 10 1u 1U 1l 1L 1ul 1Lu 1ll 1LL 1llU 1uLL 0x1ULL"
    ∷ codes "08"
    ∷ codes "1lL"
    ∷ codes "1uu"
    ∷ codes "1lul"
    ∷ codes "0x"
    ∷ codes "0xg"
    ∷ codes "0b1"
    ∷ codes "1a"
    ∷ codes "0x1.8"
    ∷ codes "0x1e+1"
    ∷ (49 ∷ 92 ∷ 117 ∷ 48 ∷ 48 ∷ 52 ∷ 49 ∷ [])
    ∷ codes "1.2.3"
    ∷ codes "1e"
    ∷ codes "0x1p"
    ∷ codes "1."
    ∷ codes ".5"
    ∷ codes "1e5"
    ∷ codes "1.5e-3L"
    ∷ codes "08.5"
    ∷ codes "0x1p3"
    ∷ codes "0x.8p-1f"
    ∷ codes "09e1"
    ∷ codes "1+1"
    ∷ codes "1e+x" ∷ [])
    ≡ kinds (Integer ∷ Integer ∷ Integer ∷ Integer ∷ Integer ∷ Integer ∷ Integer ∷ Integer ∷ Integer ∷ Integer ∷ Integer ∷ Integer ∷ Integer ∷ Integer ∷ Integer ∷ Integer ∷ Integer ∷ Integer ∷ [])
    ∷ fails Lexical 0
    ∷ fails Lexical 0
    ∷ fails Lexical 0
    ∷ fails Lexical 0
    ∷ fails Lexical 0
    ∷ fails Lexical 0
    ∷ fails Lexical 0
    ∷ fails Lexical 0
    ∷ fails Lexical 0
    ∷ fails Lexical 0
    ∷ fails Lexical 0
    ∷ fails Lexical 0
    ∷ fails Lexical 0
    ∷ fails Lexical 0
    ∷ fails (Excluded Floating) 0
    ∷ fails (Excluded Floating) 0
    ∷ fails (Excluded Floating) 0
    ∷ fails (Excluded Floating) 0
    ∷ fails (Excluded Floating) 0
    ∷ fails (Excluded Floating) 0
    ∷ fails (Excluded Floating) 0
    ∷ fails (Excluded Floating) 0
    ∷ kinds (Integer ∷ Punctuator Plus ∷ Integer ∷ [])
    ∷ fails Lexical 0 ∷ []
unfolding words_with word_meaning number_meaning meaning_of_text character_meaning literal_meaning one_byte_sign begins_sign begins behind_dot behind_minus behind_plus behind_ampersand behind_bar behind_slash behind_percent behind_less behind_greater only behind_punctuator behind_sign in_literal behind_prefix in_comment behind accepts piece
numbers = refl

-- character constants and string literals
literals : map seen (
    (39 ∷ 97 ∷ 39 ∷ 32 ∷ 39 ∷ 92 ∷ 110 ∷ 39 ∷ 32 ∷ 39 ∷ 92 ∷ 48 ∷ 39 ∷ 32 ∷ 39 ∷ 92 ∷ 51 ∷ 55 ∷ 55 ∷ 39 ∷ 32 ∷ 39 ∷ 92 ∷ 120 ∷ 102 ∷ 102 ∷ 39 ∷ 32 ∷ 39 ∷ 92 ∷ 39 ∷ 39 ∷ 32 ∷ 39 ∷ 34 ∷ 39 ∷ [])
    ∷ (34 ∷ 34 ∷ 32 ∷ 34 ∷ 97 ∷ 92 ∷ 34 ∷ 98 ∷ 34 ∷ 32 ∷ 34 ∷ 92 ∷ 120 ∷ 49 ∷ 34 ∷ 32 ∷ 34 ∷ 39 ∷ 34 ∷ [])
    ∷ codes "''"
    ∷ codes "L''"
    ∷ codes "'ab'"
    ∷ (39 ∷ 92 ∷ 49 ∷ 50 ∷ 51 ∷ 52 ∷ 39 ∷ [])
    ∷ (39 ∷ 92 ∷ 120 ∷ 102 ∷ 102 ∷ 102 ∷ 39 ∷ [])
    ∷ (39 ∷ 92 ∷ 92 ∷ 110 ∷ 39 ∷ [])
    ∷ codes "L'a'"
    ∷ codes "u'ab'"
    ∷ (85 ∷ 34 ∷ 97 ∷ 34 ∷ [])
    ∷ (117 ∷ 56 ∷ 34 ∷ 97 ∷ 34 ∷ [])
    ∷ codes "u8'a'"
    ∷ (76 ∷ 32 ∷ 34 ∷ 97 ∷ 34 ∷ [])
    ∷ (39 ∷ 92 ∷ 117 ∷ 48 ∷ 48 ∷ 52 ∷ 49 ∷ 39 ∷ [])
    ∷ (34 ∷ 92 ∷ 85 ∷ 48 ∷ 48 ∷ 48 ∷ 48 ∷ 48 ∷ 48 ∷ 52 ∷ 49 ∷ 34 ∷ [])
    ∷ (39 ∷ 97 ∷ 92 ∷ 117 ∷ 48 ∷ 48 ∷ 52 ∷ 49 ∷ 39 ∷ [])
    ∷ (34 ∷ 92 ∷ 92 ∷ 117 ∷ 34 ∷ [])
    ∷ (34 ∷ 92 ∷ 117 ∷ 49 ∷ 50 ∷ 34 ∷ [])
    ∷ (34 ∷ 92 ∷ 101 ∷ 34 ∷ [])
    ∷ (39 ∷ 92 ∷ 56 ∷ 39 ∷ [])
    ∷ (34 ∷ 92 ∷ 120 ∷ 34 ∷ [])
    ∷ (34 ∷ 97 ∷ 10 ∷ 98 ∷ 34 ∷ [])
    ∷ (76 ∷ 34 ∷ 97 ∷ [])
    ∷ codes "a 'b"
    ∷ (34 ∷ 255 ∷ 0 ∷ 13 ∷ 34 ∷ [])
    ∷ (39 ∷ 255 ∷ 39 ∷ [])
    ∷ (34 ∷ 63 ∷ 63 ∷ 47 ∷ 34 ∷ []) ∷ [])
    ≡ kinds (CharacterToken ∷ CharacterToken ∷ CharacterToken ∷ CharacterToken ∷ CharacterToken ∷ CharacterToken ∷ CharacterToken ∷ [])
    ∷ kinds (Literal ∷ Literal ∷ Literal ∷ Literal ∷ [])
    ∷ fails Lexical 0
    ∷ fails Lexical 0
    ∷ fails (Excluded MultiChar) 0
    ∷ fails (Excluded MultiChar) 0
    ∷ kinds (CharacterToken ∷ [])
    ∷ fails (Excluded MultiChar) 0
    ∷ fails (Excluded Prefixed) 0
    ∷ fails (Excluded Prefixed) 0
    ∷ fails (Excluded Prefixed) 0
    ∷ fails (Excluded Prefixed) 0
    ∷ kinds (name 1 ∷ CharacterToken ∷ [])
    ∷ kinds (name 1 ∷ Literal ∷ [])
    ∷ fails (Excluded Universal) 0
    ∷ fails (Excluded Universal) 0
    ∷ fails (Excluded MultiChar) 0
    ∷ kinds (Literal ∷ [])
    ∷ fails Lexical 0
    ∷ fails Lexical 0
    ∷ fails Lexical 0
    ∷ fails Lexical 0
    ∷ fails Lexical 0
    ∷ fails Lexical 0
    ∷ fails Lexical 1
    ∷ kinds (Literal ∷ [])
    ∷ kinds (CharacterToken ∷ [])
    ∷ kinds (Literal ∷ []) ∷ []
unfolding words_with word_meaning number_meaning meaning_of_text character_meaning literal_meaning one_byte_sign begins_sign begins behind_dot behind_minus behind_plus behind_ampersand behind_bar behind_slash behind_percent behind_less behind_greater only behind_punctuator behind_sign in_literal behind_prefix in_comment behind accepts piece
literals = refl

-- words: keywords, other spellings, skipped and excluded ones
words : map seen (
    codes "int Int _Noreturn _Bool _Alignof _Static_assert"
    ∷ codes "__restrict __restrict__ __inline __inline__ __const __signed__"
    ∷ codes "__extension__ int"
    ∷ (92 ∷ 117 ∷ 48 ∷ 48 ∷ 52 ∷ 49 ∷ 32 ∷ 97 ∷ [])
    ∷ (97 ∷ 92 ∷ 117 ∷ 48 ∷ 48 ∷ 101 ∷ 52 ∷ 98 ∷ [])
    ∷ (97 ∷ 92 ∷ 117 ∷ 49 ∷ 50 ∷ [])
    ∷ codes "a b a"
    ∷ codes "asmx" ∷ [])
    ≡ kinds (Keyword IntWord ∷ name 1 ∷ Keyword Noreturn ∷ Keyword BoolWord ∷ Keyword Alignof ∷ Keyword StaticAssert ∷ [])
    ∷ kinds (Keyword Restrict ∷ Keyword Restrict ∷ Keyword Inline ∷ Keyword Inline ∷ Keyword Const ∷ Keyword Signed ∷ [])
    ∷ kinds (Keyword IntWord ∷ [])
    ∷ fails (Excluded Universal) 0
    ∷ fails (Excluded Universal) 0
    ∷ fails Lexical 1
    ∷ kinds (name 1 ∷ name 2 ∷ name 1 ∷ [])
    ∷ kinds (name 1 ∷ []) ∷ []
unfolding words_with word_meaning number_meaning meaning_of_text character_meaning literal_meaning one_byte_sign begins_sign begins behind_dot behind_minus behind_plus behind_ampersand behind_bar behind_slash behind_percent behind_less behind_greater only behind_punctuator behind_sign in_literal behind_prefix in_comment behind accepts piece
words = refl

-- words that are excluded
excluded : map seen (
    codes "float"
    ∷ codes "double"
    ∷ codes "volatile"
    ∷ codes "__volatile"
    ∷ codes "__volatile__"
    ∷ codes "_Complex"
    ∷ codes "_Imaginary"
    ∷ codes "_Atomic"
    ∷ codes "_Thread_local"
    ∷ codes "__thread"
    ∷ codes "_Alignas"
    ∷ codes "_Generic"
    ∷ codes "setjmp"
    ∷ codes "longjmp"
    ∷ codes "asm"
    ∷ codes "__asm"
    ∷ codes "__asm__"
    ∷ codes "__builtin_va_list"
    ∷ codes "__builtin_va_start"
    ∷ codes "__builtin_va_arg"
    ∷ codes "__builtin_va_end"
    ∷ codes "__builtin_va_copy"
    ∷ codes "__int128"
    ∷ codes "__int128_t"
    ∷ codes "__uint128_t"
    ∷ codes "__func__"
    ∷ codes "__FUNCTION__"
    ∷ codes "typeof"
    ∷ codes "__typeof"
    ∷ codes "__typeof__"
    ∷ codes "__auto_type" ∷ [])
    ≡ fails (Excluded Floating) 0
    ∷ fails (Excluded Floating) 0
    ∷ fails (Excluded Volatile) 0
    ∷ fails (Excluded Volatile) 0
    ∷ fails (Excluded Volatile) 0
    ∷ fails (Excluded Complex) 0
    ∷ fails (Excluded Complex) 0
    ∷ fails (Excluded Atomic) 0
    ∷ fails (Excluded ThreadLocal) 0
    ∷ fails (Excluded ThreadLocal) 0
    ∷ fails (Excluded Alignas) 0
    ∷ fails (Excluded Generic) 0
    ∷ fails (Excluded Jump) 0
    ∷ fails (Excluded Jump) 0
    ∷ fails (Excluded Assembly) 0
    ∷ fails (Excluded Assembly) 0
    ∷ fails (Excluded Assembly) 0
    ∷ fails (Excluded Varargs) 0
    ∷ fails (Excluded Varargs) 0
    ∷ fails (Excluded Varargs) 0
    ∷ fails (Excluded Varargs) 0
    ∷ fails (Excluded Varargs) 0
    ∷ fails (Excluded Int128) 0
    ∷ fails (Excluded Int128) 0
    ∷ fails (Excluded Int128) 0
    ∷ fails (Excluded FuncName) 0
    ∷ fails (Excluded FuncName) 0
    ∷ fails (Excluded Typeof) 0
    ∷ fails (Excluded Typeof) 0
    ∷ fails (Excluded Typeof) 0
    ∷ fails (Excluded Typeof) 0 ∷ []
unfolding words_with word_meaning number_meaning meaning_of_text character_meaning literal_meaning one_byte_sign begins_sign begins behind_dot behind_minus behind_plus behind_ampersand behind_bar behind_slash behind_percent behind_less behind_greater only behind_punctuator behind_sign in_literal behind_prefix in_comment behind accepts piece
excluded = refl

-- line markers, pragmas and other lines that begin with a number sign
markers : map seen (
    (35 ∷ 32 ∷ 53 ∷ 32 ∷ 34 ∷ 98 ∷ 46 ∷ 99 ∷ 34 ∷ 10 ∷ 120 ∷ [])
    ∷ (120 ∷ 10 ∷ 32 ∷ 35 ∷ 32 ∷ 55 ∷ 32 ∷ 34 ∷ 98 ∷ 46 ∷ 99 ∷ 34 ∷ 32 ∷ 49 ∷ 32 ∷ 51 ∷ 10 ∷ 121 ∷ 10 ∷ 122 ∷ [])
    ∷ (120 ∷ 32 ∷ 47 ∷ 42 ∷ 32 ∷ 10 ∷ 10 ∷ 32 ∷ 42 ∷ 47 ∷ 32 ∷ 121 ∷ [])
    ∷ (120 ∷ 10 ∷ 35 ∷ 32 ∷ 57 ∷ 32 ∷ 34 ∷ 98 ∷ 46 ∷ 99 ∷ 34 ∷ [])
    ∷ (35 ∷ 32 ∷ 57 ∷ 32 ∷ 34 ∷ 98 ∷ 46 ∷ 99 ∷ 34 ∷ 10 ∷ [])
    ∷ (35 ∷ 57 ∷ 34 ∷ 98 ∷ 46 ∷ 99 ∷ 34 ∷ 10 ∷ 120 ∷ [])
    ∷ (120 ∷ 10 ∷ 35 ∷ 32 ∷ 48 ∷ 53 ∷ 32 ∷ 34 ∷ 98 ∷ 34 ∷ 10 ∷ [])
    ∷ (35 ∷ 32 ∷ 53 ∷ 10 ∷ [])
    ∷ (35 ∷ 108 ∷ 105 ∷ 110 ∷ 101 ∷ 32 ∷ 53 ∷ 32 ∷ 34 ∷ 98 ∷ 34 ∷ 10 ∷ [])
    ∷ (35 ∷ 10 ∷ [])
    ∷ (35 ∷ 32 ∷ 53 ∷ 32 ∷ 34 ∷ 98 ∷ 34 ∷ 49 ∷ 10 ∷ [])
    ∷ (35 ∷ 32 ∷ 53 ∷ 32 ∷ 34 ∷ 98 ∷ 34 ∷ 32 ∷ 53 ∷ 10 ∷ [])
    ∷ (35 ∷ 32 ∷ 53 ∷ 32 ∷ 34 ∷ 98 ∷ 34 ∷ 32 ∷ 49 ∷ 32 ∷ 50 ∷ 10 ∷ [])
    ∷ (35 ∷ 32 ∷ 53 ∷ 32 ∷ 34 ∷ 98 ∷ 10 ∷ [])
    ∷ (35 ∷ 32 ∷ 50 ∷ 49 ∷ 52 ∷ 55 ∷ 52 ∷ 56 ∷ 51 ∷ 54 ∷ 52 ∷ 55 ∷ 32 ∷ 34 ∷ 34 ∷ 10 ∷ 120 ∷ [])
    ∷ (35 ∷ 32 ∷ 50 ∷ 49 ∷ 52 ∷ 55 ∷ 52 ∷ 56 ∷ 51 ∷ 54 ∷ 52 ∷ 56 ∷ 32 ∷ 34 ∷ 98 ∷ 34 ∷ 10 ∷ [])
    ∷ (35 ∷ 32 ∷ 48 ∷ 32 ∷ 34 ∷ 98 ∷ 34 ∷ 10 ∷ 120 ∷ [])
    ∷ (47 ∷ 42 ∷ 32 ∷ 42 ∷ 47 ∷ 32 ∷ 35 ∷ 32 ∷ 49 ∷ 32 ∷ 34 ∷ 102 ∷ 34 ∷ 10 ∷ [])
    ∷ (35 ∷ 32 ∷ 49 ∷ 32 ∷ 47 ∷ 42 ∷ 42 ∷ 47 ∷ 32 ∷ 34 ∷ 102 ∷ 34 ∷ 10 ∷ [])
    ∷ (35 ∷ 112 ∷ 114 ∷ 97 ∷ 103 ∷ 109 ∷ 97 ∷ 32 ∷ 111 ∷ 110 ∷ 99 ∷ 101 ∷ 32 ∷ 34 ∷ 32 ∷ 47 ∷ 42 ∷ 32 ∷ 39 ∷ 10 ∷ 120 ∷ [])
    ∷ (35 ∷ 112 ∷ 114 ∷ 97 ∷ 103 ∷ 109 ∷ 97 ∷ 10 ∷ 120 ∷ [])
    ∷ (35 ∷ 112 ∷ 114 ∷ 97 ∷ 103 ∷ 109 ∷ 97 ∷ 116 ∷ 105 ∷ 99 ∷ 10 ∷ [])
    ∷ (120 ∷ 10 ∷ 35 ∷ 32 ∷ 112 ∷ 114 ∷ 97 ∷ 103 ∷ 109 ∷ 97 ∷ 32 ∷ 112 ∷ 97 ∷ 99 ∷ 107 ∷ 40 ∷ 49 ∷ 41 ∷ 10 ∷ [])
    ∷ (35 ∷ 112 ∷ 114 ∷ 97 ∷ 103 ∷ 109 ∷ 97 ∷ 32 ∷ 112 ∷ 97 ∷ 99 ∷ 107 ∷ 101 ∷ 100 ∷ 10 ∷ [])
    ∷ (35 ∷ 112 ∷ 114 ∷ 97 ∷ 103 ∷ 109 ∷ 97 ∷ 32 ∷ 97 ∷ 92 ∷ 10 ∷ [])
    ∷ (35 ∷ 112 ∷ 114 ∷ 97 ∷ 103 ∷ 109 ∷ 97 ∷ 32 ∷ 97 ∷ 92 ∷ 32 ∷ 10 ∷ [])
    ∷ codes "x = y # 1" ∷ [])
    ≡ Tokens ((name 2, 5) ∷ []) 5
    ∷ Tokens ((name 1, 1) ∷ (name 3, 7) ∷ (name 4, 8) ∷ []) 8
    ∷ Tokens ((name 1, 1) ∷ (name 2, 3) ∷ []) 3
    ∷ Tokens ((name 1, 1) ∷ []) 2
    ∷ Tokens [] 9
    ∷ Tokens ((name 2, 9) ∷ []) 9
    ∷ Fails Lexical 1 2
    ∷ fails Lexical 0
    ∷ fails Lexical 0
    ∷ fails Lexical 0
    ∷ fails Lexical 0
    ∷ fails Lexical 0
    ∷ Tokens [] 5
    ∷ fails Lexical 0
    ∷ Tokens ((name 2, 2147483647) ∷ []) 2147483647
    ∷ fails Lexical 0
    ∷ Tokens ((name 2, 0) ∷ []) 0
    ∷ fails Lexical 0
    ∷ fails Lexical 0
    ∷ Tokens ((name 1, 2) ∷ []) 2
    ∷ Tokens ((name 1, 2) ∷ []) 2
    ∷ fails Lexical 0
    ∷ Fails (Excluded Pack) 1 2
    ∷ Tokens [] 2
    ∷ fails Lexical 0
    ∷ Tokens [] 2
    ∷ Fails Lexical 3 1 ∷ []
unfolding words_with word_meaning number_meaning meaning_of_text character_meaning literal_meaning one_byte_sign begins_sign begins behind_dot behind_minus behind_plus behind_ampersand behind_bar behind_slash behind_percent behind_less behind_greater only behind_punctuator behind_sign in_literal behind_prefix in_comment behind accepts piece
markers = refl

-- attributes: skipped ones, others, and what is none
attributes : map seen (
    codes "int __attribute__((unused)) x"
    ∷ codes "__attribute((__noreturn__, format(printf, 1, 2), const)) x"
    ∷ codes "__attribute__((format([{<:%>}]))) x"
    ∷ codes "__attribute__((format([{<:a:>}](1.5)))) x"
    ∷ codes "__attribute__((packed)) x"
    ∷ codes "x __attribute__((unused, packed, const))"
    ∷ codes "__attribute__(unused) x"
    ∷ codes "__attribute__(()) x"
    ∷ codes "__attribute__((unused,)) x"
    ∷ codes "__attribute__((unused(1)(2))) x"
    ∷ codes "__attribute__((unused"
    ∷ codes "x __attribute__((format(08)))"
    ∷ codes "x __attribute__((format(08)), packed)"
    ∷ (95 ∷ 95 ∷ 97 ∷ 116 ∷ 116 ∷ 114 ∷ 105 ∷ 98 ∷ 117 ∷ 116 ∷ 101 ∷ 95 ∷ 95 ∷ 40 ∷ 40 ∷ 102 ∷ 111 ∷ 114 ∷ 109 ∷ 97 ∷ 116 ∷ 40 ∷ 100 ∷ 111 ∷ 117 ∷ 98 ∷ 108 ∷ 101 ∷ 44 ∷ 32 ∷ 49 ∷ 46 ∷ 53 ∷ 44 ∷ 32 ∷ 39 ∷ 97 ∷ 98 ∷ 39 ∷ 44 ∷ 32 ∷ 76 ∷ 34 ∷ 34 ∷ 41 ∷ 41 ∷ 41 ∷ 32 ∷ 120 ∷ [])
    ∷ codes "__attribute__((format(#)))"
    ∷ codes "__attribute__"
    ∷ (95 ∷ 95 ∷ 97 ∷ 116 ∷ 116 ∷ 114 ∷ 105 ∷ 98 ∷ 117 ∷ 116 ∷ 101 ∷ 95 ∷ 95 ∷ 40 ∷ 40 ∷ 117 ∷ 110 ∷ 117 ∷ 115 ∷ 101 ∷ 100 ∷ 10 ∷ 35 ∷ 32 ∷ 53 ∷ 32 ∷ 34 ∷ 98 ∷ 46 ∷ 99 ∷ 34 ∷ 10 ∷ 41 ∷ 41 ∷ 32 ∷ 120 ∷ [])
    ∷ (120 ∷ 10 ∷ 95 ∷ 95 ∷ 97 ∷ 116 ∷ 116 ∷ 114 ∷ 105 ∷ 98 ∷ 117 ∷ 116 ∷ 101 ∷ 95 ∷ 95 ∷ 10 ∷ 40 ∷ 40 ∷ 112 ∷ 97 ∷ 99 ∷ 107 ∷ 101 ∷ 100 ∷ 41 ∷ 41 ∷ [])
    ∷ (120 ∷ 10 ∷ 95 ∷ 95 ∷ 97 ∷ 116 ∷ 116 ∷ 114 ∷ 105 ∷ 98 ∷ 117 ∷ 116 ∷ 101 ∷ 95 ∷ 95 ∷ 40 ∷ 40 ∷ 117 ∷ 110 ∷ 117 ∷ 115 ∷ 101 ∷ 100 ∷ 10 ∷ 35 ∷ 98 ∷ 97 ∷ 100 ∷ 10 ∷ 41 ∷ 41 ∷ []) ∷ [])
    ≡ kinds (Keyword IntWord ∷ name 1 ∷ [])
    ∷ kinds (name 1 ∷ [])
    ∷ fails Lexical 0
    ∷ kinds (name 1 ∷ [])
    ∷ fails (Excluded Attribute) 0
    ∷ fails (Excluded Attribute) 1
    ∷ fails Lexical 0
    ∷ fails Lexical 0
    ∷ fails Lexical 0
    ∷ fails Lexical 0
    ∷ fails Lexical 0
    ∷ fails Lexical 1
    ∷ fails Lexical 1
    ∷ kinds (name 1 ∷ [])
    ∷ fails Lexical 0
    ∷ fails Lexical 0
    ∷ Tokens ((name 2, 5) ∷ []) 5
    ∷ Fails (Excluded Attribute) 1 2
    ∷ Fails Lexical 1 2 ∷ []
unfolding words_with word_meaning number_meaning meaning_of_text character_meaning literal_meaning one_byte_sign begins_sign begins behind_dot behind_minus behind_plus behind_ampersand behind_bar behind_slash behind_percent behind_less behind_greater only behind_punctuator behind_sign in_literal behind_prefix in_comment behind accepts piece
attributes = refl

-- an identifier of 1024 bytes is read, and one of 1025 is not
long_names : map seen (replicate 1024 97 ∷ (codes "x " ++ replicate 1025 97) ∷ []) ≡ kinds (name 1 ∷ []) ∷ fails (Limit NameBytes) 1 ∷ []
unfolding words_with word_meaning number_meaning meaning_of_text character_meaning literal_meaning one_byte_sign begins_sign begins behind_dot behind_minus behind_plus behind_ampersand behind_bar behind_slash behind_percent behind_less behind_greater only behind_punctuator behind_sign in_literal behind_prefix in_comment behind accepts piece
long_names = refl

-- a token's text is the source from its start up to its end
abbrev ends_of : Answer → List (ℕ × ℕ)
ends_of (Whole entries end names) = map (λ (e : Entry). (e.token.start, e.token.end)) entries
ends_of (Refused refusal names) = []

abbrev names_of : Answer → List (List ℕ)
names_of (Whole entries end names) = names
names_of (Refused refusal names) = names

texts : ends_of (answer (codes "int ab=10 ;")) ≡ (0, 3) ∷ (4, 6) ∷ (6, 7) ∷ (7, 9) ∷ (10, 11) ∷ []
unfolding words_with word_meaning number_meaning meaning_of_text character_meaning literal_meaning one_byte_sign begins_sign begins behind_dot behind_minus behind_plus behind_ampersand behind_bar behind_slash behind_percent behind_less behind_greater only behind_punctuator behind_sign in_literal behind_prefix in_comment behind accepts piece
texts = refl

-- names are numbered by first appearance, files of markers among them: `\\` and `\"` stand for a backslash and a quote
pool : names_of (answer (codes "b a" ++ (10 ∷ 35 ∷ 49 ∷ 34 ∷ 92 ∷ 92 ∷ 92 ∷ 34 ∷ 92 ∷ 99 ∷ 34 ∷ 10 ∷ codes "c b"))) ≡ codes "a.c" ∷ codes "b" ∷ codes "a" ∷ (92 ∷ 34 ∷ 92 ∷ 99 ∷ []) ∷ codes "c" ∷ []
unfolding words_with word_meaning number_meaning meaning_of_text character_meaning literal_meaning one_byte_sign begins_sign begins behind_dot behind_minus behind_plus behind_ampersand behind_bar behind_slash behind_percent behind_less behind_greater only behind_punctuator behind_sign in_literal behind_prefix in_comment behind accepts piece
pool = refl
