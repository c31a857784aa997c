-- Device: the bytes of lines whose tokens have no blank give these lines back.
use Rattle.std.proofs.Common.{◌≡◌, ℕ, suc, zero, ◌*◌, ◌&&◌, not, nat_eq, Bool, true, cond, List, [], ◌∷◌, ◌++◌, map, refl, sym, ap, ◌∙◌, append_assoc, append-nil}
use Rattle.std.specs.Prelude.{replicate}
use Rattle.std.specs.List.{list_all, join_with_byte}
use Rattle.cil_tree.specs.Lines.{Token, Line, open_behind, depth_of, line_bytes, lines_bytes}
use Rattle.cil_tree.specs.Declarators.{words_from}
use Rattle.cil_tree.specs.LaidOut.{lines_from, without_last, without_blanks, pieces_of}
use Rattle.cil_text.specs.Words.{onto}
use Rattle.cil_text.specs.ReadText.{line_words, words_in}
use Rattle.cil_text.proofs.WordsBack.{both, denied}
use Rattle.cil_text.proofs.Clean.{clean_byte, is_clean, AllClean}
use Rattle.cil_text.proofs.StmtsBack.{lines_onto}
use Rattle.cil_text.proofs.LinesClean.{IsLine, AreLines}

-- bytes without line feeds

abbrev no_feed : ℕ → Bool
no_feed b = not (nat_eq b 10)

feed_joined : (a b : List ℕ) → list_all no_feed a ≡ true → list_all no_feed b ≡ true → list_all no_feed (a ++ b) ≡ true
feed_joined [] b x y = y
feed_joined (c ∷ a) b x y = let h = both (no_feed c) (list_all no_feed a) x in ap (λ v. v && list_all no_feed (a ++ b)) h.0 ∙ feed_joined a b h.1 y

clean_feed : (bytes : List ℕ) → list_all clean_byte bytes ≡ true → list_all no_feed bytes ≡ true
clean_feed [] e = refl
clean_feed (b ∷ bytes) e =
    let h = both (clean_byte b) (list_all clean_byte bytes) e in
    let k = both (not (nat_eq b 32)) (not (nat_eq b 10)) h.0 in
    ap (λ v. v && list_all no_feed bytes) k.1 ∙ clean_feed bytes h.1

token_bytes : (t : Token) → is_clean t ≡ true → list_all clean_byte t ≡ true
token_bytes [] e = refl
token_bytes (b ∷ bytes) e = e

joined_feed : (line : List Token) → AllClean line → list_all no_feed (join_with_byte 32 line) ≡ true
joined_feed [] clean = refl
joined_feed (t ∷ []) clean = clean_feed t (token_bytes t clean.0)
joined_feed (t ∷ u ∷ ts) clean = feed_joined t (32 ∷ join_with_byte 32 (u ∷ ts)) (clean_feed t (token_bytes t clean.0)) (joined_feed (u ∷ ts) clean.1)

blanks_feed : (k : ℕ) → list_all no_feed (replicate k 32) ≡ true
blanks_feed zero = refl
blanks_feed (suc k) = blanks_feed k

-- lines are cut at line feeds

line_step : (line : List ℕ) (b : ℕ) (bytes : List ℕ) → lines_from line (b ∷ bytes) ≡ cond (nat_eq b 10) ((line ++ b ∷ []) ∷ lines_from [] bytes) (lines_from (line ++ b ∷ []) bytes)
line_step [] b bytes = refl
line_step (c ∷ line) b bytes = refl

cut_line : (xs line rest : List ℕ) → list_all no_feed xs ≡ true → lines_from line (xs ++ 10 ∷ rest) ≡ (line ++ (xs ++ 10 ∷ [])) ∷ lines_from [] rest
cut_line [] line rest e = line_step line 10 rest
cut_line (b ∷ xs) line rest e =
    let h = both (no_feed b) (list_all no_feed xs) e in
    line_step line b (xs ++ 10 ∷ rest)
    ∙ ap (λ v. cond v ((line ++ b ∷ []) ∷ lines_from [] (xs ++ 10 ∷ rest)) (lines_from (line ++ b ∷ []) (xs ++ 10 ∷ rest))) (denied (nat_eq b 10) h.0)
    ∙ cut_line xs (line ++ b ∷ []) rest h.1
    ∙ ap (λ l. l ∷ lines_from [] rest) (append_assoc line (b ∷ []) (xs ++ 10 ∷ []))

-- tokens are cut at blanks

last_cut : (xs : List ℕ) (b : ℕ) → without_last (xs ++ b ∷ []) ≡ xs
last_cut [] b = refl
last_cut (x ∷ []) b = refl
last_cut (x ∷ y ∷ ys) b = ap (λ zs. x ∷ zs) (last_cut (y ∷ ys) b)

blanks_cut : (k : ℕ) (xs : List ℕ) → without_blanks (replicate k 32 ++ xs) ≡ without_blanks xs
blanks_cut zero xs = refl
blanks_cut (suc k) xs = blanks_cut k xs

begins_clean : (line : Line) → IsLine line → without_blanks (join_with_byte 32 line) ≡ join_with_byte 32 line
begins_clean [] is = absurd is
begins_clean ([] ∷ ts) is = absurd (cc is.0)
begins_clean ((b ∷ bytes) ∷ []) is = by bytes (both (clean_byte b) (list_all clean_byte bytes) is.0).0
  where
    by : (more : List ℕ) → clean_byte b ≡ true → without_blanks (b ∷ more) ≡ b ∷ more
    by more e = ap (λ v. cond v (without_blanks more) (b ∷ more)) (denied (nat_eq b 32) (both (not (nat_eq b 32)) (not (nat_eq b 10)) e).0)
begins_clean ((b ∷ bytes) ∷ u ∷ ts) is = by (bytes ++ 32 ∷ join_with_byte 32 (u ∷ ts)) (both (clean_byte b) (list_all clean_byte bytes) is.0).0
  where
    by : (more : List ℕ) → clean_byte b ≡ true → without_blanks (b ∷ more) ≡ b ∷ more
    by more e = ap (λ v. cond v (without_blanks more) (b ∷ more)) (denied (nat_eq b 32) (both (not (nat_eq b 32)) (not (nat_eq b 10)) e).0)

word_cut : (t word rest : List ℕ) → list_all clean_byte t ≡ true → words_from word (t ++ rest) ≡ words_from (word ++ t) rest
word_cut [] word rest e = ap (λ w. words_from w rest) (sym (append-nil word))
word_cut (b ∷ t) word rest e =
    let h = both (clean_byte b) (list_all clean_byte t) e in
    ap (λ v. cond v (word ∷ words_from [] (t ++ rest)) (words_from (word ++ b ∷ []) (t ++ rest))) (denied (nat_eq b 32) (both (not (nat_eq b 32)) (not (nat_eq b 10)) h.0).0)
    ∙ word_cut t (word ++ b ∷ []) rest h.1
    ∙ ap (λ w. words_from w rest) (append_assoc word (b ∷ []) t)

words_cut : (line : Line) → IsLine line → words_from [] (join_with_byte 32 line) ≡ line
words_cut [] is = absurd is
words_cut (t ∷ []) is = ap (words_from []) (sym (append-nil t)) ∙ word_cut t [] [] (token_bytes t is.0)
words_cut (t ∷ u ∷ ts) is = word_cut t [] (32 ∷ join_with_byte 32 (u ∷ ts)) (token_bytes t is.0) ∙ ap (λ ws. t ∷ ws) (words_cut (u ∷ ts) is.1)

pub pieces_cut : (braces : ℕ) (line : Line) → IsLine line → pieces_of (line_bytes braces line) ≡ line
pieces_cut braces line is =
    let blanks = replicate (2 * depth_of braces line) 32 in
    let text = join_with_byte 32 line in
    ap (λ bytes. words_from [] (without_blanks (without_last bytes))) (sym (append_assoc blanks text (10 ∷ [])))
    ∙ ap (λ bytes. words_from [] (without_blanks bytes)) (last_cut (blanks ++ text) 10)
    ∙ ap (words_from []) (blanks_cut (2 * depth_of braces line) text ∙ begins_clean line is)
    ∙ words_cut line is

line_clean : (line : Line) → IsLine line → AllClean line
line_clean [] is = tt
line_clean (t ∷ ts) is = is

pub line_cut : (braces : ℕ) (line : Line) (rest : List ℕ) → IsLine line → lines_from [] (line_bytes braces line ++ rest) ≡ line_bytes braces line ∷ lines_from [] rest
line_cut braces line rest is =
    let blanks = replicate (2 * depth_of braces line) 32 in
    let text = join_with_byte 32 line in
    ap (lines_from []) (ap (λ bytes. bytes ++ rest) (sym (append_assoc blanks text (10 ∷ []))) ∙ append_assoc (blanks ++ text) (10 ∷ []) rest)
    ∙ cut_line (blanks ++ text) [] rest (feed_joined blanks text (blanks_feed (2 * depth_of braces line)) (joined_feed line (line_clean line is)))
    ∙ ap (λ bytes. bytes ∷ lines_from [] rest) (append_assoc blanks text (10 ∷ []))

pub lines_cut : (braces : ℕ) (lines : List Line) → AreLines lines → words_in (lines_bytes braces lines) ≡ lines_onto lines []
lines_cut braces [] are = refl
lines_cut braces (line ∷ lines) are =
    ap (map line_words) (line_cut braces line (lines_bytes (open_behind braces line) lines) are.0)
    ∙ ap (λ ts. onto ts [] ∷ map line_words (lines_from [] (lines_bytes (open_behind braces line) lines))) (pieces_cut braces line are.0)
    ∙ ap (λ ls. onto line [] ∷ ls) (lines_cut (open_behind braces line) lines are.1)
