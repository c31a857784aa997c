-- Device: the automaton goes over word bytes, over blanks and over plain bytes of a literal without another state, and stops behind most punctuators.
use Rattle.std.proofs.Common.{◌≡◌, ◌<◌, ◌+◌, ◌∙◌, sym, ap, length, drop, get_or, ℕ, suc, Bool, true, false, if◌then◌else◌, List, ◌∷◌, Some, None, refl, ◌==◌, ◌≤◌, arith, []}
use Rattle.std.proofs.lemmas.List.{drop_more}
use Rattle.cil_base.specs.declared.tokens.Punctuator.{Punctuator}
use Rattle.c_lexer.specs.declared.pieces.Raw.{Raw}
use Rattle.c_lexer.specs.declared.pieces.Sign.TheVariants.{Read}
use Rattle.c_lexer.specs.declared.pieces.Kind.TheVariants.{Blank, Broken, Word as WordPiece, Sign as SignPiece}
use Rattle.c_lexer.specs.declared.state.Quote.{Quote}
use Rattle.c_lexer.specs.declared.state.Mode.TheVariants.{Plain, Escaped}
use Rattle.c_lexer.specs.declared.state.State.TheVariants.{Blanks, Word, Opened, Literal, Sign as InSign}
use Rattle.c_lexer.specs.Bytes.{is_blank, is_word_byte}
use Rattle.c_lexer.specs.Automaton.{in_literal, behind_punctuator, behind_sign, behind, accepts, begins, longer, no_piece, piece, munch, whole, word_at, on_state}

pub word_goes : (b : ℕ) (bs : List ℕ) (len : ℕ) → is_word_byte b ≡ true → munch (Word Plain) (whole WordPiece len) len (b ∷ bs) ≡ munch (Word Plain) (whole WordPiece (suc len)) (suc len) bs
unfolding behind accepts
word_goes b bs len is = by (is_word_byte b) is
  where
    by : (c : Bool) → c ≡ true
        → on_state (word_at (if c then Some Plain else (if b == 92 then Some Escaped else None))) (whole WordPiece len) (λ s. munch s (longer (accepts s) (suc len) (whole WordPiece len)) (suc len) bs)
        ≡ munch (Word Plain) (whole WordPiece (suc len)) (suc len) bs
    by true e = refl
    by false e = cc

pub word_stops : (b : ℕ) (bs : List ℕ) (len : ℕ) → is_word_byte b ≡ false → (b == 92) ≡ false → munch (Word Plain) (whole WordPiece len) len (b ∷ bs) ≡ whole WordPiece len
unfolding behind
word_stops b bs len is other = by (is_word_byte b) (b == 92) is other
  where
    by : (c d : Bool) → c ≡ false → d ≡ false
        → on_state (word_at (if c then Some Plain else (if d then Some Escaped else None))) (whole WordPiece len) (λ s. munch s (longer (accepts s) (suc len) (whole WordPiece len)) (suc len) bs)
        ≡ whole WordPiece len
    by false false e f = refl
    by true d e f = cc
    by false true e f = cc

pub blank_goes : (b : ℕ) (bs : List ℕ) (len : ℕ) → is_blank b ≡ true → munch Blanks (whole Blank len) len (b ∷ bs) ≡ munch Blanks (whole Blank (suc len)) (suc len) bs
unfolding behind accepts
blank_goes b bs len is = by (is_blank b) is
  where
    by : (c : Bool) → c ≡ true
        → on_state (if c then Some Blanks else None) (whole Blank len) (λ s. munch s (longer (accepts s) (suc len) (whole Blank len)) (suc len) bs)
        ≡ munch Blanks (whole Blank (suc len)) (suc len) bs
    by true e = refl
    by false e = cc

pub blank_stops : (b : ℕ) (bs : List ℕ) (len : ℕ) → is_blank b ≡ false → munch Blanks (whole Blank len) len (b ∷ bs) ≡ whole Blank len
unfolding behind
blank_stops b bs len is = by (is_blank b) is
  where
    by : (c : Bool) → c ≡ false
        → on_state (if c then Some Blanks else None) (whole Blank len) (λ s. munch s (longer (accepts s) (suc len) (whole Blank len)) (suc len) bs)
        ≡ whole Blank len
    by false e = refl
    by true e = cc

pub begun_word : (fresh : Bool) (b : ℕ) (bs : List ℕ) → begins fresh b ≡ Word Plain → piece fresh b bs ≡ munch (Word Plain) (whole WordPiece 1) 1 bs
unfolding piece accepts
begun_word fresh b bs is = ap (λ s. munch s (longer (accepts s) 1 no_piece) 1 bs) is

pub begun_blanks : (fresh : Bool) (b : ℕ) (bs : List ℕ) → begins fresh b ≡ Blanks → piece fresh b bs ≡ munch Blanks (whole Blank 1) 1 bs
unfolding piece accepts
begun_blanks fresh b bs is = ap (λ s. munch s (longer (accepts s) 1 no_piece) 1 bs) is

pub literal_goes : (quote : Quote) (last : Raw) (b : ℕ) (bs : List ℕ) (len : ℕ) → in_literal quote Plain b ≡ Some (Literal quote Plain) → munch (Literal quote Plain) last len (b ∷ bs) ≡ munch (Literal quote Plain) last (suc len) bs
unfolding behind accepts
literal_goes quote last b bs len is = ap (λ o. on_state o last (λ s. munch s (longer (accepts s) (suc len) last) (suc len) bs)) is

-- behind its opening quote a literal goes on as anywhere in it
pub opened : (quote : Quote) (last : Raw) (len : ℕ) (bs : List ℕ) → munch (Opened quote) last len bs ≡ munch (Literal quote Plain) last len bs
unfolding behind
opened quote last len [] = refl
opened quote last len (b ∷ bs) = refl

pub begun_literal : (fresh : Bool) (b : ℕ) (bs : List ℕ) (quote : Quote) → begins fresh b ≡ Opened quote → piece fresh b bs ≡ munch (Opened quote) (whole Broken 1) 1 bs
unfolding piece accepts
begun_literal fresh b bs quote is = ap (λ s. munch s (longer (accepts s) 1 no_piece) 1 bs) is

pub sign_stops : (p : Punctuator) (b : ℕ) (bs : List ℕ) (last : Raw) (len : ℕ) → behind_punctuator p b ≡ None → munch (InSign (Read p)) last len (b ∷ bs) ≡ last
unfolding behind behind_sign
sign_stops p b bs last len none = ap (λ o. on_state o last (λ s. munch s (longer (accepts s) (suc len) last) (suc len) bs)) none

pub sign_stops_at_first : (p : Punctuator) (xs : List ℕ) (last : Raw) (len : ℕ) → 1 ≤ length xs → behind_punctuator p (get_or xs 0 0) ≡ None → munch (InSign (Read p)) last len xs ≡ last
sign_stops_at_first p [] last len some none = absurd (omega arith)
sign_stops_at_first p (b ∷ bs) last len some none = sign_stops p b bs last len none

pub begun_sign : (fresh : Bool) (b : ℕ) (bs : List ℕ) (p : Punctuator) → begins fresh b ≡ InSign (Read p) → piece fresh b bs ≡ munch (InSign (Read p)) (whole (SignPiece (Read p)) 1) 1 bs
unfolding piece accepts
begun_sign fresh b bs p is = ap (λ s. munch s (longer (accepts s) 1 no_piece) 1 bs) is

-- at a place of the bytes

pub word_goes_at : (xs : List ℕ) (i n : ℕ) → i < length xs → n ≡ suc (i + 1) → is_word_byte (get_or xs i 0) ≡ true
    → munch (Word Plain) (whole WordPiece (i + 1)) (i + 1) (drop i xs) ≡ munch (Word Plain) (whole WordPiece n) n (drop (i + 1) xs)
word_goes_at xs i n low next is =
    ap (λ bs. munch (Word Plain) (whole WordPiece (i + 1)) (i + 1) bs) (drop_more xs i 0 low)
    ∙ (word_goes (get_or xs i 0) (drop (i + 1) xs) (i + 1) is ∙ ap (λ (k : ℕ). munch (Word Plain) (whole WordPiece k) k (drop (i + 1) xs)) (sym next))

pub word_stops_at : (xs : List ℕ) (i : ℕ) → i < length xs → is_word_byte (get_or xs i 0) ≡ false → (get_or xs i 0 == 92) ≡ false
    → munch (Word Plain) (whole WordPiece (i + 1)) (i + 1) (drop i xs) ≡ whole WordPiece (i + 1)
word_stops_at xs i low is other = ap (λ bs. munch (Word Plain) (whole WordPiece (i + 1)) (i + 1) bs) (drop_more xs i 0 low) ∙ word_stops (get_or xs i 0) (drop (i + 1) xs) (i + 1) is other

pub blank_goes_at : (xs : List ℕ) (i n : ℕ) → i < length xs → n ≡ suc (i + 1) → is_blank (get_or xs i 0) ≡ true
    → munch Blanks (whole Blank (i + 1)) (i + 1) (drop i xs) ≡ munch Blanks (whole Blank n) n (drop (i + 1) xs)
blank_goes_at xs i n low next is =
    ap (λ bs. munch Blanks (whole Blank (i + 1)) (i + 1) bs) (drop_more xs i 0 low)
    ∙ (blank_goes (get_or xs i 0) (drop (i + 1) xs) (i + 1) is ∙ ap (λ (k : ℕ). munch Blanks (whole Blank k) k (drop (i + 1) xs)) (sym next))

pub blank_stops_at : (xs : List ℕ) (i : ℕ) → i < length xs → is_blank (get_or xs i 0) ≡ false
    → munch Blanks (whole Blank (i + 1)) (i + 1) (drop i xs) ≡ whole Blank (i + 1)
blank_stops_at xs i low is = ap (λ bs. munch Blanks (whole Blank (i + 1)) (i + 1) bs) (drop_more xs i 0 low) ∙ blank_stops (get_or xs i 0) (drop (i + 1) xs) (i + 1) is

pub literal_goes_at : (quote : Quote) (last : Raw) (xs : List ℕ) (i n : ℕ) → i < length xs → n ≡ suc (i + 1) → in_literal quote Plain (get_or xs i 0) ≡ Some (Literal quote Plain)
    → munch (Literal quote Plain) last (i + 1) (drop i xs) ≡ munch (Literal quote Plain) last n (drop (i + 1) xs)
literal_goes_at quote last xs i n low next is =
    ap (λ bs. munch (Literal quote Plain) last (i + 1) bs) (drop_more xs i 0 low)
    ∙ (literal_goes quote last (get_or xs i 0) (drop (i + 1) xs) (i + 1) is ∙ ap (λ (k : ℕ). munch (Literal quote Plain) last k (drop (i + 1) xs)) (sym next))
