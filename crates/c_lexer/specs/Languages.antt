-- Definition: which texts are pieces of each kind (C11 6.4), each by a test of its own on the whole text.
use Rattle.std.specs.Prelude.{ℕ, ◌-◌, Bool, true, false, not, ◌&&◌, ◌||◌, ◌==◌, nat_le, List, [], ◌∷◌, Option, Some, None, if◌then◌else◌, codes, length, take, drop}
use Rattle.std.specs.Char.{is_ascii_digit, is_ascii_hexdigit}
use Rattle.std.specs.List.{list_all, list_any}
use Rattle.std.specs.Str.{bytes_eq}
use Rattle.cil_base.specs.Token.{punctuator_spelling}
use Rattle.c_lexer.specs.Bytes.{is_blank, is_word_byte, is_exponent, is_escape}
use Rattle.c_lexer.specs.declared.pieces.Sign.{Sign}
use Rattle.c_lexer.specs.declared.pieces.Sign.TheVariants.{Read, LessColon, ColonGreater, LessPercent, PercentGreater, Hash, TwoHashes, PercentColon, TwoPercentColons}
use Rattle.c_lexer.specs.declared.pieces.Kind.{Kind}
use Rattle.c_lexer.specs.declared.pieces.Kind.TheVariants.{Blank, LineEnd, Comment, Directive, Word, Number, Character, Text, Sign as IsSign, Broken}
use Rattle.c_lexer.specs.declared.state.Mode.{Mode}
use Rattle.c_lexer.specs.declared.state.Mode.TheVariants.{Plain, Escaped, Digits}

abbrev pub is_nil : List ℕ → Bool
is_nil [] = true
is_nil (b ∷ bs) = false

-- blanks without a line feed
abbrev pub is_blanks : List ℕ → Bool
is_blanks [] = false
is_blanks (b ∷ bs) = is_blank b && list_all is_blank bs

-- bytes without a line feed
abbrev pub is_one_line : List ℕ → Bool
is_one_line bs = list_all (λ b. not (b == 10)) bs

-- behind `/*`: up to the first star with a slash behind it, and no further (6.4.9p1); `star` tells that a star stands before
abbrev pub closes : Bool → List ℕ → Bool
closes star [] = false
closes star (b ∷ bs) = if star && b == 47 then is_nil bs else closes (b == 42) bs

-- a comment (6.4.9): of the one form without its line feed
abbrev pub is_comment : List ℕ → Bool
is_comment [] = false
is_comment (a ∷ []) = false
is_comment (a ∷ b ∷ bs) = a == 47 && ((b == 42 && closes false bs) || (b == 47 && is_one_line bs))

-- the rest of a line: up to the first line feed, which belongs to it, or without one
abbrev pub is_line_rest : List ℕ → Bool
is_line_rest [] = true
is_line_rest (b ∷ bs) = if b == 10 then is_nil bs else is_line_rest bs

-- a line from its `#` on
abbrev pub is_directive : List ℕ → Bool
is_directive [] = false
is_directive (b ∷ bs) = b == 35 && is_line_rest bs

-- one digit fewer has to come
abbrev pub digit_less : ℕ → Mode
digit_less n = if nat_le n 1 then Plain else Digits (n - 1)

abbrev pub hex_behind : ℕ → ℕ → Option Mode
hex_behind n b = if is_ascii_hexdigit b then Some (digit_less n) else None

-- a universal character name (6.4.3) behind its backslash: `u` and four hexadecimal digits, or `U` and eight
abbrev pub universal_behind : ℕ → Option Mode
universal_behind b = if b == 117 then Some (Digits 4) else (if b == 85 then Some (Digits 8) else None)

abbrev pub on_mode : Option Mode → (Mode → Bool) → Bool
on_mode None then_on = false
on_mode (Some mode) then_on = then_on mode

-- a part of an identifier goes on with the byte
abbrev pub word_behind : Mode → ℕ → Option Mode
word_behind Plain b = if is_word_byte b then Some Plain else (if b == 92 then Some Escaped else None)
word_behind Escaped b = universal_behind b
word_behind (Digits n) b = hex_behind n b

abbrev pub is_plain : Mode → Bool
is_plain Plain = true
is_plain Escaped = false
is_plain (Digits n) = false

-- nondigits, digits and universal character names
abbrev pub are_word_parts : Mode → List ℕ → Bool
are_word_parts mode [] = is_plain mode
are_word_parts mode (b ∷ bs) = on_mode (word_behind mode b) (λ m. are_word_parts m bs)

-- an identifier or keyword (6.4.1, 6.4.2.1)
abbrev pub is_word : List ℕ → Bool
is_word [] = false
is_word (b ∷ bs) = not (is_ascii_digit b) && are_word_parts Plain (b ∷ bs)

-- a preprocessing number goes on with the byte; `exponent` tells that a letter e or p stands before it
abbrev pub number_behind : Bool → Mode → ℕ → Option Mode
number_behind exponent Plain b = if (is_word_byte b || b == 46) || (exponent && (b == 43 || b == 45)) then Some Plain else (if b == 92 then Some Escaped else None)
number_behind exponent Escaped b = universal_behind b
number_behind exponent (Digits n) b = hex_behind n b

-- whether a sign may follow the byte
abbrev pub exponent_behind : Mode → ℕ → Bool
exponent_behind Plain b = is_exponent b
exponent_behind Escaped b = false
exponent_behind (Digits n) b = false

abbrev pub are_number_parts : Bool → Mode → List ℕ → Bool
are_number_parts exponent mode [] = is_plain mode
are_number_parts exponent mode (b ∷ bs) = on_mode (number_behind exponent mode b) (λ m. are_number_parts (exponent_behind mode b) m bs)

-- a preprocessing number (6.4.8): a digit, or a dot and a digit, and what goes on with it
abbrev pub is_number : List ℕ → Bool
is_number [] = false
is_number (b ∷ []) = is_ascii_digit b
is_number (b ∷ c ∷ bs) = (is_ascii_digit b && are_number_parts false Plain (c ∷ bs)) || ((b == 46 && is_ascii_digit c) && are_number_parts false Plain bs)

-- behind a backslash in a literal: an escape sequence (6.4.4.4), of which an octal one may be one digit long, and a hexadecimal one too
abbrev pub escape_behind : ℕ → Option Mode
escape_behind b = if b == 120 then Some (Digits 1) else (if is_escape b then Some Plain else universal_behind b)

-- a literal in quotes goes on with a byte that is not its closing quote: any but a line feed, or an escape sequence
abbrev pub literal_behind : Mode → ℕ → Option Mode
literal_behind Plain b = if b == 10 then None else (if b == 92 then Some Escaped else Some Plain)
literal_behind Escaped b = escape_behind b
literal_behind (Digits n) b = hex_behind n b

-- the rest of a literal, up to its closing quote
abbrev pub is_literal_rest : ℕ → Mode → List ℕ → Bool
is_literal_rest quote mode [] = false
is_literal_rest quote mode (b ∷ bs) = if is_plain mode && b == quote then is_nil bs else on_mode (literal_behind mode b) (λ m. is_literal_rest quote m bs)

abbrev pub is_quoted : ℕ → List ℕ → Bool
is_quoted quote [] = false
is_quoted quote (b ∷ bs) = b == quote && is_literal_rest quote Plain bs

-- one of some prefixes, and a literal in quotes
abbrev pub is_prefixed : List (List ℕ) → ℕ → List ℕ → Bool
is_prefixed prefixes quote text = list_any (λ p. bytes_eq (take (length p) text) p && is_quoted quote (drop (length p) text)) prefixes

-- a character constant (6.4.4.4), also one without a character
abbrev pub character_prefixes : List (List ℕ)
character_prefixes = [] ∷ codes "L" ∷ codes "u" ∷ codes "U" ∷ []

-- a string literal (6.4.5)
abbrev pub text_prefixes : List (List ℕ)
text_prefixes = [] ∷ codes "L" ∷ codes "u" ∷ codes "U" ∷ codes "u8" ∷ []

-- what is written like a punctuator (6.4.6)
abbrev pub sign_spelling : Sign → List ℕ
sign_spelling (Read punctuator) = punctuator_spelling punctuator
sign_spelling LessColon = codes "<:"
sign_spelling ColonGreater = codes ":>"
sign_spelling LessPercent = codes "<%"
sign_spelling PercentGreater = codes "%>"
sign_spelling Hash = codes "#"
sign_spelling TwoHashes = codes "##"
sign_spelling PercentColon = codes "%:"
sign_spelling TwoPercentColons = codes "%:%:"

abbrev pub begins_with_hash : List ℕ → Bool
begins_with_hash [] = false
begins_with_hash (b ∷ bs) = b == 35

-- the openings of literals and of a comment of several lines
abbrev pub openings : List (List ℕ)
openings =
    (39 ∷ []) ∷ (34 ∷ []) ∷ (76 ∷ 39 ∷ []) ∷ (76 ∷ 34 ∷ []) ∷ (117 ∷ 39 ∷ []) ∷ (117 ∷ 34 ∷ []) ∷ (85 ∷ 39 ∷ []) ∷ (85 ∷ 34 ∷ [])
    ∷ (117 ∷ 56 ∷ 34 ∷ []) ∷ (47 ∷ 42 ∷ []) ∷ []

-- the first bytes of the punctuators
abbrev pub sign_bytes : List ℕ
sign_bytes = codes "[](){}.&*+-~!/%<>^|?:;=,"

-- a byte with which no other piece begins: not a blank, a line feed, a letter, an underscore, a digit, a quote, `#` or the first byte of a punctuator
abbrev pub is_stray : ℕ → Bool
is_stray b = not (is_blank b || (b == 10 || (is_word_byte b || (b == 39 || (b == 34 || (b == 35 || list_any (λ c. b == c) sign_bytes))))))

abbrev pub is_broken : List ℕ → Bool
is_broken [] = false
is_broken (b ∷ bs) = (is_stray b && is_nil bs) || list_any (bytes_eq (b ∷ bs)) openings

-- the text is a piece of the kind; `fresh` tells that only blanks stand before it on its line
abbrev pub is_piece : Bool → Kind → List ℕ → Bool
is_piece fresh Blank text = is_blanks text
is_piece fresh LineEnd text = bytes_eq text (10 ∷ [])
is_piece fresh Comment text = is_comment text
is_piece fresh Directive text = is_directive text && fresh
is_piece fresh Word text = is_word text
is_piece fresh Number text = is_number text
is_piece fresh Character text = is_prefixed character_prefixes 39 text
is_piece fresh Text text = is_prefixed text_prefixes 34 text
is_piece fresh (IsSign sign) text = bytes_eq text (sign_spelling sign) && not (begins_with_hash text && fresh)
is_piece fresh Broken text = is_broken text
