-- Device: an automaton that finds the longest piece at the beginning of bytes, and the pieces of a text that it cuts.
use Rattle.std.specs.Prelude.{ℕ, zero, suc, ◌-◌, Bool, true, false, ◌&&◌, ◌||◌, ◌==◌, List, [], ◌∷◌, take, Option, Some, None, if◌then◌else◌}
use Rattle.std.specs.Char.{is_ascii_digit}
use Rattle.cil_base.specs.declared.tokens.Punctuator.{Punctuator}
use Rattle.cil_base.specs.declared.tokens.Punctuator.TheVariants.{LeftBracket, RightBracket, LeftParen, RightParen, LeftBrace, RightBrace, Dot, Arrow, PlusPlus, MinusMinus, Ampersand, Star, Plus, Minus, Tilde, Exclamation, Slash, Percent, LeftShift, RightShift, Less, Greater, LessEqual, GreaterEqual, EqualEqual, ExclamationEqual, Caret, Bar, AmpersandAmpersand, BarBar, Question, Colon, Semicolon, Ellipsis, Equal, StarEqual, SlashEqual, PercentEqual, PlusEqual, MinusEqual, LeftShiftEqual, RightShiftEqual, AmpersandEqual, CaretEqual, BarEqual, Comma}
use Rattle.c_lexer.specs.declared.pieces.Sign.{Sign}
use Rattle.c_lexer.specs.declared.pieces.Sign.TheVariants.{Read, LessColon, ColonGreater, LessPercent, PercentGreater, Hash, TwoHashes, PercentColon, TwoPercentColons}
use Rattle.c_lexer.specs.declared.pieces.Kind.{Kind}
use Rattle.c_lexer.specs.declared.pieces.Kind.TheVariants.{Blank, LineEnd as LineEndPiece, Comment as CommentPiece, Directive, Word as WordPiece, Number as NumberPiece, Character, Text, Sign as SignPiece, Broken}
use Rattle.c_lexer.specs.declared.pieces.Raw.{Raw}
use Rattle.c_lexer.specs.declared.state.Mode.{Mode}
use Rattle.c_lexer.specs.declared.state.Mode.TheVariants.{Plain, Escaped, Digits}
use Rattle.c_lexer.specs.declared.state.Quote.{Quote}
use Rattle.c_lexer.specs.declared.state.Quote.TheVariants.{Single, Double}
use Rattle.c_lexer.specs.declared.state.Prefix.{Prefix as APrefix}
use Rattle.c_lexer.specs.declared.state.Prefix.TheVariants.{Letter, SmallU, SmallU8}
use Rattle.c_lexer.specs.declared.state.State.{State}
use Rattle.c_lexer.specs.declared.state.State.TheVariants.{Blanks, LineEnd, Line, LineDone, LineComment, CommentOpen, Comment, CommentDone, Prefix, Word, Backslash, Number, Opened, Literal, Closed, Sign as InSign, TwoDots, PercentColonPercent, Stray}
use Rattle.c_lexer.specs.Bytes.{is_blank, is_nondigit}
use Rattle.c_lexer.specs.Languages.{is_plain, universal_behind, word_behind, number_behind, exponent_behind, literal_behind}
use Rattle.c_lexer.specs.Longest.{Piece, fresh_behind}

-- the punctuator that is one byte
unfoldable pub one_byte_sign : ℕ → Option Punctuator
one_byte_sign b =
    if b == 91 then Some LeftBracket else (if b == 93 then Some RightBracket else (if b == 40 then Some LeftParen else (if b == 41 then Some RightParen
    else (if b == 123 then Some LeftBrace else (if b == 125 then Some RightBrace else (if b == 46 then Some Dot else (if b == 38 then Some Ampersand
    else (if b == 42 then Some Star else (if b == 43 then Some Plus else (if b == 45 then Some Minus else (if b == 126 then Some Tilde
    else (if b == 33 then Some Exclamation else (if b == 47 then Some Slash else (if b == 37 then Some Percent else (if b == 60 then Some Less
    else (if b == 62 then Some Greater else (if b == 94 then Some Caret else (if b == 124 then Some Bar else (if b == 63 then Some Question
    else (if b == 58 then Some Colon else (if b == 59 then Some Semicolon else (if b == 61 then Some Equal else (if b == 44 then Some Comma
    else None)))))))))))))))))))))))

abbrev pub sign_or_stray : Option Punctuator → State
sign_or_stray None = Stray
sign_or_stray (Some p) = InSign (Read p)

-- behind a first byte that begins no blank, word or number
unfoldable pub begins_sign : Bool → ℕ → State
begins_sign fresh b =
    if b == 39 then Opened Single
    else (if b == 34 then Opened Double
    else (if b == 92 then Backslash
    else (if b == 35 then (if fresh then Line else InSign Hash)
    else sign_or_stray (one_byte_sign b))))

-- behind the first byte
unfoldable pub begins : Bool → ℕ → State
begins fresh b =
    if is_blank b then Blanks
    else (if b == 10 then LineEnd
    else (if b == 76 || b == 85 then Prefix Letter
    else (if b == 117 then Prefix SmallU
    else (if is_nondigit b then Word Plain
    else (if is_ascii_digit b then Number Plain false
    else begins_sign fresh b)))))

-- a punctuator with one more byte

abbrev pub read_sign : Punctuator → State
read_sign p = InSign (Read p)

unfoldable pub behind_dot : ℕ → Option State
behind_dot b = if b == 46 then Some TwoDots else (if is_ascii_digit b then Some (Number Plain false) else None)

unfoldable pub behind_minus : ℕ → Option State
behind_minus b = if b == 62 then Some (read_sign Arrow) else (if b == 45 then Some (read_sign MinusMinus) else (if b == 61 then Some (read_sign MinusEqual) else None))

unfoldable pub behind_plus : ℕ → Option State
behind_plus b = if b == 43 then Some (read_sign PlusPlus) else (if b == 61 then Some (read_sign PlusEqual) else None)

unfoldable pub behind_ampersand : ℕ → Option State
behind_ampersand b = if b == 38 then Some (read_sign AmpersandAmpersand) else (if b == 61 then Some (read_sign AmpersandEqual) else None)

unfoldable pub behind_bar : ℕ → Option State
behind_bar b = if b == 124 then Some (read_sign BarBar) else (if b == 61 then Some (read_sign BarEqual) else None)

unfoldable pub behind_slash : ℕ → Option State
behind_slash b = if b == 42 then Some CommentOpen else (if b == 47 then Some LineComment else (if b == 61 then Some (read_sign SlashEqual) else None))

unfoldable pub behind_percent : ℕ → Option State
behind_percent b = if b == 61 then Some (read_sign PercentEqual) else (if b == 62 then Some (InSign PercentGreater) else (if b == 58 then Some (InSign PercentColon) else None))

unfoldable pub behind_less : ℕ → Option State
behind_less b = if b == 60 then Some (read_sign LeftShift) else (if b == 61 then Some (read_sign LessEqual) else (if b == 58 then Some (InSign LessColon) else (if b == 37 then Some (InSign LessPercent) else None)))

unfoldable pub behind_greater : ℕ → Option State
behind_greater b = if b == 62 then Some (read_sign RightShift) else (if b == 61 then Some (read_sign GreaterEqual) else None)

-- a state behind one byte alone
unfoldable pub only : ℕ → State → ℕ → Option State
only wanted state b = if b == wanted then Some state else None

unfoldable pub behind_punctuator : Punctuator → ℕ → Option State
behind_punctuator Dot b = behind_dot b
behind_punctuator Minus b = behind_minus b
behind_punctuator Plus b = behind_plus b
behind_punctuator Ampersand b = behind_ampersand b
behind_punctuator Bar b = behind_bar b
behind_punctuator Slash b = behind_slash b
behind_punctuator Percent b = behind_percent b
behind_punctuator Less b = behind_less b
behind_punctuator Greater b = behind_greater b
behind_punctuator Star b = only 61 (read_sign StarEqual) b
behind_punctuator Exclamation b = only 61 (read_sign ExclamationEqual) b
behind_punctuator LeftShift b = only 61 (read_sign LeftShiftEqual) b
behind_punctuator RightShift b = only 61 (read_sign RightShiftEqual) b
behind_punctuator Equal b = only 61 (read_sign EqualEqual) b
behind_punctuator Caret b = only 61 (read_sign CaretEqual) b
behind_punctuator Colon b = only 62 (InSign ColonGreater) b
behind_punctuator _ b = None

unfoldable pub behind_sign : Sign → ℕ → Option State
behind_sign (Read p) b = behind_punctuator p b
behind_sign Hash b = only 35 (InSign TwoHashes) b
behind_sign PercentColon b = only 37 PercentColonPercent b
behind_sign _ b = None

abbrev pub quote_byte : Quote → ℕ
quote_byte Single = 39
quote_byte Double = 34

-- the state at a mode, if there is one
abbrev pub literal_at : Quote → Option Mode → Option State
literal_at quote None = None
literal_at quote (Some mode) = Some (Literal quote mode)

abbrev pub word_at : Option Mode → Option State
word_at None = None
word_at (Some mode) = Some (Word mode)

abbrev pub number_at : Bool → Option Mode → Option State
number_at exponent None = None
number_at exponent (Some mode) = Some (Number mode exponent)

unfoldable pub in_literal : Quote → Mode → ℕ → Option State
in_literal quote mode b = if is_plain mode && b == quote_byte quote then Some (Closed quote) else literal_at quote (literal_behind mode b)

abbrev pub prefixes_character : APrefix → Bool
prefixes_character Letter = true
prefixes_character SmallU = true
prefixes_character SmallU8 = false

abbrev pub is_small_u : APrefix → Bool
is_small_u Letter = false
is_small_u SmallU = true
is_small_u SmallU8 = false

unfoldable pub behind_prefix : APrefix → ℕ → Option State
behind_prefix prefix b =
    if b == 34 then Some (Opened Double)
    else (if prefixes_character prefix && b == 39 then Some (Opened Single)
    else (if is_small_u prefix && b == 56 then Some (Prefix SmallU8)
    else word_at (word_behind Plain b)))

unfoldable pub in_comment : Bool → ℕ → State
in_comment star b = if star && b == 47 then CommentDone else Comment (b == 42)

-- the state with one more byte, or none where no piece goes on so
unfoldable pub behind : State → ℕ → Option State
behind Blanks b = if is_blank b then Some Blanks else None
behind LineEnd b = None
behind Line b = if b == 10 then Some LineDone else Some Line
behind LineDone b = None
behind LineComment b = if b == 10 then None else Some LineComment
behind CommentOpen b = Some (in_comment false b)
behind (Comment star) b = Some (in_comment star b)
behind CommentDone b = None
behind (Prefix prefix) b = behind_prefix prefix b
behind (Word mode) b = word_at (word_behind mode b)
behind Backslash b = word_at (universal_behind b)
behind (Number mode exponent) b = number_at (exponent_behind mode b) (number_behind exponent mode b)
behind (Opened quote) b = in_literal quote Plain b
behind (Literal quote mode) b = in_literal quote mode b
behind (Closed quote) b = None
behind (InSign sign) b = behind_sign sign b
behind TwoDots b = only 46 (read_sign Ellipsis) b
behind PercentColonPercent b = only 58 (InSign TwoPercentColons) b
behind Stray b = None

abbrev pub if_plain : Mode → Kind → Option Kind
if_plain Plain kind = Some kind
if_plain Escaped kind = None
if_plain (Digits n) kind = None

abbrev pub quoted_kind : Quote → Kind
quoted_kind Single = Character
quoted_kind Double = Text

-- the kind of piece that is whole there
unfoldable pub accepts : State → Option Kind
accepts Blanks = Some Blank
accepts LineEnd = Some LineEndPiece
accepts Line = Some Directive
accepts LineDone = Some Directive
accepts LineComment = Some CommentPiece
accepts CommentOpen = Some Broken
accepts (Comment star) = None
accepts CommentDone = Some CommentPiece
accepts (Prefix prefix) = Some WordPiece
accepts (Word mode) = if_plain mode WordPiece
accepts Backslash = Some Broken
accepts (Number mode exponent) = if_plain mode NumberPiece
accepts (Opened quote) = Some Broken
accepts (Literal quote mode) = None
accepts (Closed quote) = Some (quoted_kind quote)
accepts (InSign sign) = Some (SignPiece sign)
accepts TwoDots = None
accepts PercentColonPercent = None
accepts Stray = Some Broken

-- a piece that is whole, and may be longer with more bytes
abbrev pub whole : Kind → ℕ → Raw
whole kind len = record { kind = kind; len = len; at_end = false }

-- the longest piece so far, with one more byte
abbrev pub longer : Option Kind → ℕ → Raw → Raw
longer None len last = last
longer (Some kind) len last = whole kind len

abbrev pub on_state : Option State → Raw → (State → Raw) → Raw
on_state None last go = last
on_state (Some state) last go = go state

-- the longest piece, of which len bytes are read, and the last whole one among its beginnings
abbrev pub munch : State → Raw → ℕ → List ℕ → Raw
munch state last len [] = record last { at_end = true }
munch state last len (b ∷ bs) = on_state (behind state b) last (λ s. munch s (longer (accepts s) (suc len) last) (suc len) bs)

abbrev pub no_piece : Raw
no_piece = record { kind = Broken; len = 1; at_end = false }

-- the longest piece that begins with the byte b and the bytes bs behind it
unfoldable pub piece : Bool → ℕ → List ℕ → Raw
piece fresh b bs = munch (begins fresh b) (longer (accepts (begins fresh b)) 1 no_piece) 1 bs

-- the pieces of a text, of which the first `skip` bytes are done with
abbrev pub pieces : ℕ → Bool → List ℕ → List Piece
pieces skip fresh [] = []
pieces (suc skip) fresh (b ∷ bs) = pieces skip fresh bs
pieces zero fresh (b ∷ bs) =
    record { kind = (piece fresh b bs).kind; text = take (piece fresh b bs).len (b ∷ bs) }
    ∷ pieces ((piece fresh b bs).len - 1) (fresh_behind fresh (piece fresh b bs).kind) bs
