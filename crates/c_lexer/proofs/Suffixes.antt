-- Device: which texts the automaton accepts from each state on.
use Rattle.std.proofs.Common.{◌≡◌, ℕ, Bool, true, false, not, ◌&&◌, ◌==◌, if◌then◌else◌, List, [], ◌∷◌, Option, Some, None, refl}
use Rattle.std.specs.List.{list_all}
use Rattle.c_lexer.specs.declared.pieces.Kind.{Kind}
use Rattle.c_lexer.specs.declared.pieces.Kind.TheVariants.{Blank, LineEnd as LineEndPiece, Comment as CommentPiece, Directive, Word as WordPiece, Number as NumberPiece}
use Rattle.c_lexer.specs.declared.state.Mode.{Mode}
use Rattle.c_lexer.specs.declared.state.Mode.TheVariants.{Plain, Escaped, Digits}
use Rattle.c_lexer.specs.declared.state.Quote.{Quote}
use Rattle.c_lexer.specs.declared.state.State.TheVariants.{Blanks, LineEnd, Line, LineDone, LineComment, CommentOpen, Comment, CommentDone, Word, Backslash, Number, Opened, Literal, Closed}
use Rattle.c_lexer.specs.Bytes.{is_blank}
use Rattle.c_lexer.specs.Languages.{is_nil, is_one_line, closes, is_line_rest, on_mode, is_plain, word_behind, are_word_parts, number_behind, exponent_behind, are_number_parts, literal_behind, is_literal_rest}
use Rattle.c_lexer.specs.Automaton.{quote_byte, literal_at, word_at, number_at, in_literal, in_comment, behind, quoted_kind, accepts}
use Rattle.c_lexer.specs.Accepted.{on_some, accepted}

abbrev pub if_some : Bool → Kind → Option Kind
if_some t kind = if t then Some kind else None

pub blanks : (bs : List ℕ) → accepted Blanks bs ≡ if_some (list_all is_blank bs) Blank
unfolding behind accepts
blanks [] = refl
blanks (b ∷ bs) = by (is_blank b) (blanks bs)
  where
    by : (t : Bool) → accepted Blanks bs ≡ if_some (list_all is_blank bs) Blank → on_some (if t then Some Blanks else None) (λ u. accepted u bs) ≡ if_some (t && list_all is_blank bs) Blank
    by true e = e
    by false e = refl

pub line_end : (bs : List ℕ) → accepted LineEnd bs ≡ if_some (is_nil bs) LineEndPiece
unfolding behind accepts
line_end [] = refl
line_end (b ∷ bs) = refl

pub line_done : (bs : List ℕ) → accepted LineDone bs ≡ if_some (is_nil bs) Directive
unfolding behind accepts
line_done [] = refl
line_done (b ∷ bs) = refl

pub line : (bs : List ℕ) → accepted Line bs ≡ if_some (is_line_rest bs) Directive
unfolding behind accepts
line [] = refl
line (b ∷ bs) = by (b == 10) (line bs)
  where
    by : (t : Bool) → accepted Line bs ≡ if_some (is_line_rest bs) Directive → on_some (if t then Some LineDone else Some Line) (λ u. accepted u bs) ≡ if_some (if t then is_nil bs else is_line_rest bs) Directive
    by true e = line_done bs
    by false e = e

pub line_comment : (bs : List ℕ) → accepted LineComment bs ≡ if_some (is_one_line bs) CommentPiece
unfolding behind accepts
line_comment [] = refl
line_comment (b ∷ bs) = by (b == 10) (line_comment bs)
  where
    by : (t : Bool) → accepted LineComment bs ≡ if_some (is_one_line bs) CommentPiece → on_some (if t then None else Some LineComment) (λ u. accepted u bs) ≡ if_some (not t && is_one_line bs) CommentPiece
    by true e = refl
    by false e = e

pub comment_done : (bs : List ℕ) → accepted CommentDone bs ≡ if_some (is_nil bs) CommentPiece
unfolding behind accepts
comment_done [] = refl
comment_done (b ∷ bs) = refl

pub comment : (star : Bool) (bs : List ℕ) → accepted (Comment star) bs ≡ if_some (closes star bs) CommentPiece
unfolding behind accepts in_comment
comment star [] = refl
comment star (b ∷ bs) = by (star && b == 47) (comment (b == 42) bs)
  where
    by : (t : Bool) → accepted (Comment (b == 42)) bs ≡ if_some (closes (b == 42) bs) CommentPiece → accepted (if t then CommentDone else Comment (b == 42)) bs ≡ if_some (if t then is_nil bs else closes (b == 42) bs) CommentPiece
    by true e = comment_done bs
    by false e = e

word_ends : (mode : Mode) → accepts (Word mode) ≡ if_some (is_plain mode) WordPiece
unfolding accepts
word_ends Plain = refl
word_ends Escaped = refl
word_ends (Digits n) = refl

pub word : (mode : Mode) (bs : List ℕ) → accepted (Word mode) bs ≡ if_some (are_word_parts mode bs) WordPiece
unfolding behind
word mode [] = word_ends mode
word mode (b ∷ bs) = by (λ m. word m bs) (word_behind mode b)
  where
    by : ((m : Mode) → accepted (Word m) bs ≡ if_some (are_word_parts m bs) WordPiece) → (o : Option Mode) → on_some (word_at o) (λ u. accepted u bs) ≡ if_some (on_mode o (λ m. are_word_parts m bs)) WordPiece
    by rest None = refl
    by rest (Some m) = rest m

number_ends : (exponent : Bool) (mode : Mode) → accepts (Number mode exponent) ≡ if_some (is_plain mode) NumberPiece
unfolding accepts
number_ends exponent Plain = refl
number_ends exponent Escaped = refl
number_ends exponent (Digits n) = refl

pub number : (exponent : Bool) (mode : Mode) (bs : List ℕ) → accepted (Number mode exponent) bs ≡ if_some (are_number_parts exponent mode bs) NumberPiece
unfolding behind
number exponent mode [] = number_ends exponent mode
number exponent mode (b ∷ bs) = by (λ m. number (exponent_behind mode b) m bs) (number_behind exponent mode b)
  where
    by : ((m : Mode) → accepted (Number m (exponent_behind mode b)) bs ≡ if_some (are_number_parts (exponent_behind mode b) m bs) NumberPiece) → (o : Option Mode)
        → on_some (number_at (exponent_behind mode b) o) (λ u. accepted u bs) ≡ if_some (on_mode o (λ m. are_number_parts (exponent_behind mode b) m bs)) NumberPiece
    by rest None = refl
    by rest (Some m) = rest m

pub closed : (quote : Quote) (bs : List ℕ) → accepted (Closed quote) bs ≡ if_some (is_nil bs) (quoted_kind quote)
unfolding behind accepts
closed quote [] = refl
closed quote (b ∷ bs) = refl

pub literal : (quote : Quote) (mode : Mode) (bs : List ℕ) → accepted (Literal quote mode) bs ≡ if_some (is_literal_rest (quote_byte quote) mode bs) (quoted_kind quote)
unfolding behind accepts in_literal
literal quote mode [] = refl
literal quote mode (b ∷ bs) = by (λ m. literal quote m bs) (is_plain mode && b == quote_byte quote) (literal_behind mode b)
  where
    at : ((m : Mode) → accepted (Literal quote m) bs ≡ if_some (is_literal_rest (quote_byte quote) m bs) (quoted_kind quote)) → (o : Option Mode)
        → on_some (literal_at quote o) (λ u. accepted u bs) ≡ if_some (on_mode o (λ m. is_literal_rest (quote_byte quote) m bs)) (quoted_kind quote)
    at rest None = refl
    at rest (Some m) = rest m

    by : ((m : Mode) → accepted (Literal quote m) bs ≡ if_some (is_literal_rest (quote_byte quote) m bs) (quoted_kind quote)) → (t : Bool) (o : Option Mode)
        → on_some (if t then Some (Closed quote) else literal_at quote o) (λ u. accepted u bs) ≡ if_some (if t then is_nil bs else on_mode o (λ m. is_literal_rest (quote_byte quote) m bs)) (quoted_kind quote)
    by rest true o = closed quote bs
    by rest false o = at rest o

-- behind the opening quote
pub opened : (quote : Quote) (b : ℕ) (bs : List ℕ) → accepted (Opened quote) (b ∷ bs) ≡ if_some (is_literal_rest (quote_byte quote) Plain (b ∷ bs)) (quoted_kind quote)
unfolding behind
opened quote b bs = literal quote Plain (b ∷ bs)

-- behind a backslash with which a word begins
pub backslash : (b : ℕ) (bs : List ℕ) → accepted Backslash (b ∷ bs) ≡ if_some (are_word_parts Escaped (b ∷ bs)) WordPiece
unfolding behind
backslash b bs = word Escaped (b ∷ bs)

-- behind the opening of a comment
pub comment_open : (b : ℕ) (bs : List ℕ) → accepted CommentOpen (b ∷ bs) ≡ if_some (closes false (b ∷ bs)) CommentPiece
unfolding behind
comment_open b bs = comment false (b ∷ bs)
