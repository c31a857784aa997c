-- Device: steps of the scan.
use Rattle.std.proofs.Common.{◌≡◌, ℕ, zero, suc, ◌+◌, ◌-◌, ◌<◌, ◌≤◌, ◌&&◌, nat_eq, not, Bool, true, false, cond, List, [], ◌∷◌, ◌++◌, length, take, drop, get_or, Option, Some, None, ◌≢◌, refl, sym, ap, ◌∙◌, arith, drop-cons, length-drop, add-one, eq-eqb, ◌*◌, true≢false, append_assoc, length-append}
use Rattle.std.proofs.Math.Seq.{take-suc}
use Rattle.std.proofs.lemmas.List.{get_or-drop, take_all, drop_all, length-take-le}
use Rattle.std.proofs.lemmas.Bool.Decides.{nat_tests}
use Rattle.cil_tree.specs.Declarators.{words_from}
use Rattle.std.specs.Option.{option_and_then}
use Rattle.std.specs.Prelude.{replicate}
use Rattle.std.specs.List.{join_with_byte, list_all}
use Rattle.std.specs.Str.{bytes_eq}
use Rattle.std.proofs.lemmas.Slice.Eq.{bytes_eq-Decides}
use Rattle.cil_tree.specs.Lines.{Token, opens, closes, open_behind, depth_of, line_bytes}
use Rattle.cil_tree.specs.LaidOut.{is_token, lines_from, first_bad, is_laid_out, pieces_of, without_blanks, closes_open}
use Rattle.cil_layout.specs.Signs.{is_only}
use Rattle.cil_layout.specs.Scan.{one_closed, behind_token, read_words, blanks_of, less_if, seen_depth, read_line}
use Rattle.cil_layout.proofs.LineLaws.{line_is}

kept : (v : Bool) → v ≡ v && true
kept true = refl
kept false = refl

dropped : (v : Bool) → false ≡ v && false
dropped true = refl
dropped false = refl

pub opens_is : (token : Token) → is_only 123 token ≡ opens token
opens_is [] = refl
opens_is (a ∷ []) = kept (nat_eq a 123)
opens_is (a ∷ b ∷ more) = dropped (nat_eq a 123)

pub closes_is : (token : Token) → is_only 125 token ≡ closes token
closes_is [] = refl
closes_is (a ∷ []) = kept (nat_eq a 125)
closes_is (a ∷ b ∷ more) = dropped (nat_eq a 125)

pub one_more : (braces : ℕ) (n : ℕ) → one_closed braces ≡ Some n → n ≤ braces + 1
one_more zero n e = absurd (cc e)
one_more (suc b) n e = let same : b ≡ n = cc in omega (arith, same)

-- words, byte by byte

-- what stands from the beginning of a word up to a place grows by the byte there
pub grown : (text : List ℕ) (start at : ℕ) → start ≤ at → at < length text → take (at + 1 - start) (drop start text) ≡ take (at - start) (drop start text) ++ get_or text at 0 ∷ []
grown text start at low less =
    let room : at - start < length (drop start text) = omega (arith, length-drop start text) in
    let one : at + 1 - start ≡ suc (at - start) = omega arith in
    let place : start + (at - start) ≡ at = omega arith in
    ap (λ k. take k (drop start text)) one
    ∙ take-suc (drop start text) (at - start) 0 room
    ∙ ap (λ b. take (at - start) (drop start text) ++ b ∷ []) (get_or-drop start text (at - start) 0 ∙ ap (λ k. get_or text k 0) place)

pub rest_is : (text : List ℕ) (at : ℕ) → at < length text → drop at text ≡ get_or text at 0 ∷ drop (at + 1) text
rest_is text at less = drop-cons text at 0 less ∙ ap (λ k. get_or text at 0 ∷ drop k text) (sym (add-one at))

pub word_step : (text : List ℕ) (start at : ℕ) → start ≤ at → at < length text → nat_eq (get_or text at 0) 32 ≡ false →
    words_from (take (at - start) (drop start text)) (drop at text) ≡ words_from (take (at + 1 - start) (drop start text)) (drop (at + 1) text)
word_step text start at low less other =
    let word = take (at - start) (drop start text) in
    ap (words_from word) (rest_is text at less)
    ∙ ap (λ v. cond v (word ∷ words_from [] (drop (at + 1) text)) (words_from (word ++ get_or text at 0 ∷ []) (drop (at + 1) text))) other
    ∙ ap (λ w. words_from w (drop (at + 1) text)) (sym (grown text start at low less))

pub blank_step : (text : List ℕ) (start at : ℕ) → at < length text → nat_eq (get_or text at 0) 32 ≡ true →
    words_from (take (at - start) (drop start text)) (drop at text) ≡ take (at - start) (drop start text) ∷ words_from [] (drop (at + 1) text)
blank_step text start at less blank =
    let word = take (at - start) (drop start text) in
    ap (words_from word) (rest_is text at less)
    ∙ ap (λ v. cond v (word ∷ words_from [] (drop (at + 1) text)) (words_from (word ++ get_or text at 0 ∷ []) (drop (at + 1) text))) blank

pub fresh : (text : List ℕ) (at : ℕ) → take (at + 1 - (at + 1)) (drop (at + 1) text) ≡ []
fresh text at = let none : at + 1 - (at + 1) ≡ 0 = omega arith in ap (λ k. take k (drop (at + 1) text)) none

pub other_byte : (a b : ℕ) → a ≢ b → nat_eq a b ≡ false
other_byte a b h = grind (arith, nat_tests)

-- the invariant of the words' loop
abbrev pub Reads : List ℕ → ℕ → ℕ → ℕ → ℕ → Option ℕ → Type 0
Reads text braces start at open_ whole = (start ≤ at) × (open_ ≤ braces + start) × (read_words open_ (words_from (take (at - start) (drop start text)) (drop at text)) ≡ whole)

pub reads_on : (text : List ℕ) (braces start at open_ : ℕ) (whole : Option ℕ) → at < length text → Reads text braces start at open_ whole → get_or text at 0 ≢ 32 → Reads text braces start (at + 1) open_ whole
reads_on text braces start at open_ whole less reads other =
    (omega (arith, reads.0), reads.1, ap (read_words open_) (sym (word_step text start at reads.0 less (other_byte (get_or text at 0) 32 other))) ∙ reads.2)

pub reads_blank : (text : List ℕ) (braces start at open_ next : ℕ) (whole : Option ℕ) → at < length text → Reads text braces start at open_ whole → get_or text at 0 ≡ 32 →
    Some next ≡ behind_token open_ (take (at - start) (drop start text)) → next ≤ open_ + 1 → Reads text braces (at + 1) (at + 1) next whole
reads_blank text braces start at open_ next whole less reads blank behind low = (
  omega arith,
  omega (arith, reads.0, reads.1),
  ap (λ w. read_words next (words_from w (drop (at + 1) text))) (fresh text at)
      ∙ ap (option_and_then (λ (b : ℕ). read_words b (words_from [] (drop (at + 1) text)))) behind
      ∙ ap (read_words open_) (sym (blank_step text start at less (eq-eqb (get_or text at 0) 32 blank)))
      ∙ reads.2,
)

-- blanks in front, and what stands behind them

pub blanks_within : (text : List ℕ) → blanks_of text ≤ length text
blanks_within [] = omega arith
blanks_within (b ∷ bytes) = by (nat_eq b 32) (blanks_within bytes)
  where
    by : (v : Bool) → blanks_of bytes ≤ length bytes → cond v (suc (blanks_of bytes)) 0 ≤ suc (length bytes)
    by true x = omega arith
    by false x = omega arith

pub behind_blanks : (text : List ℕ) → drop (blanks_of text) text ≡ without_blanks text
behind_blanks [] = refl
behind_blanks (b ∷ bytes) = by (nat_eq b 32) (behind_blanks bytes)
  where
    by : (v : Bool) → drop (blanks_of bytes) bytes ≡ without_blanks bytes → drop (cond v (suc (blanks_of bytes)) 0) (b ∷ bytes) ≡ cond v (without_blanks bytes) (b ∷ bytes)
    by true x = x
    by false x = refl

-- `&text[k..]`
pub open_range : (text : List ℕ) (k : ℕ) → take (length text - k) (drop k text) ≡ drop k text
open_range text k = take_all (length text - k) (drop k text) (omega (arith, length-drop k text))

pub depth_small : (braces : ℕ) (words : List ℕ) → seen_depth braces words ≤ braces
depth_small braces [] = omega arith
depth_small braces (a ∷ []) = by (nat_eq a 125)
  where
    by : (v : Bool) → less_if v braces ≤ braces
    by true = omega arith
    by false = omega arith
depth_small braces (a ∷ b ∷ more) = by (nat_eq a 125 && nat_eq b 32)
  where
    by : (v : Bool) → less_if v braces ≤ braces
    by true = omega arith
    by false = omega arith

-- lines, byte by byte

abbrev no_feed : ℕ → Bool
no_feed b = not (nat_eq b 10)

feed_joined : (a : List ℕ) (b : ℕ) → list_all no_feed a ≡ true → nat_eq b 10 ≡ false → list_all no_feed (a ++ b ∷ []) ≡ true
feed_joined [] b x y = ap (λ v. not v && true) y
feed_joined (c ∷ a) b x y = by (no_feed c) x (λ h. feed_joined a b h y)
  where
    by : (v : Bool) → v && list_all no_feed a ≡ true → (list_all no_feed a ≡ true → list_all no_feed (a ++ b ∷ []) ≡ true) → v && list_all no_feed (a ++ b ∷ []) ≡ true
    by true h more = more h
    by false h more = absurd (cc h)

abbrev pub Scans : List ℕ → ℕ → ℕ → ℕ → ℕ → Type 0
Scans bytes start at braces whole =
    (start ≤ at) × (braces ≤ start) × (list_all no_feed (take (at - start) (drop start bytes)) ≡ true)
    × (first_bad braces start (lines_from (take (at - start) (drop start bytes)) (drop at bytes)) ≡ whole)

-- a line's indentation
pub fewer : (text : List ℕ) → length (without_blanks text) ≤ length text
fewer text = omega (arith, ap length (sym (behind_blanks text)), length-drop (blanks_of text) text)

pub indented_so : (text : List ℕ) (braces : ℕ) → blanks_of text ≡ 2 * seen_depth braces (without_blanks text) → read_line braces text ≡ read_words braces (words_from [] (without_blanks text))
indented_so text braces e = ap (λ v. cond v (read_words braces (words_from [] (without_blanks text))) None) (eq-eqb (blanks_of text) (2 * seen_depth braces (without_blanks text)) e)

pub indented_otherwise : (text : List ℕ) (braces : ℕ) → blanks_of text ≢ 2 * seen_depth braces (without_blanks text) → read_line braces text ≡ None
indented_otherwise text braces e = ap (λ v. cond v (read_words braces (words_from [] (without_blanks text))) None) (other_byte (blanks_of text) (2 * seen_depth braces (without_blanks text)) e)

pub line_step : (line : List ℕ) (b : ℕ) (bytes : List ℕ) → lines_from line (b ∷ bytes) ≡ cond (nat_eq b 10) ((line ++ b ∷ []) ∷ lines_from [] bytes) (lines_from (line ++ b ∷ []) bytes)
line_step [] b bytes = refl
line_step (c ∷ line) b bytes = refl

pub scan_start : (bytes : List ℕ) → Scans bytes 0 0 0 (first_bad 0 0 (lines_from [] bytes))
scan_start bytes = (omega arith, omega arith, refl, refl)

pub scan_on : (bytes : List ℕ) (start at braces whole : ℕ) → at < length bytes → Scans bytes start at braces whole → get_or bytes at 0 ≢ 10 → Scans bytes start (at + 1) braces whole
scan_on bytes start at braces whole less scans other =
    let word = take (at - start) (drop start bytes) in
    let b = get_or bytes at 0 in
    let no_lf = other_byte b 10 other in
    let more = grown bytes start at scans.0 less in (
      omega (arith, scans.0),
      scans.1,
      ap (list_all no_feed) more ∙ feed_joined word b scans.2 no_lf,
      ap (first_bad braces start) (
          ap (λ w. lines_from w (drop (at + 1) bytes)) more
          ∙ sym (ap (λ v. cond v ((word ++ b ∷ []) ∷ lines_from [] (drop (at + 1) bytes)) (lines_from (word ++ b ∷ []) (drop (at + 1) bytes))) no_lf)
          ∙ sym (line_step word b (drop (at + 1) bytes))
          ∙ ap (lines_from word) (sym (rest_is bytes at less)))
          ∙ scans.3,
    )

-- the line that a line feed ends
feed_line : (bytes : List ℕ) (start at braces whole : ℕ) → at < length bytes → Scans bytes start at braces whole → get_or bytes at 0 ≡ 10 →
    first_bad braces start ((take (at - start) (drop start bytes) ++ 10 ∷ []) ∷ lines_from [] (drop (at + 1) bytes)) ≡ whole
feed_line bytes start at braces whole less scans feed =
    let word = take (at - start) (drop start bytes) in
    ap (first_bad braces start) (
    sym (line_step word 10 (drop (at + 1) bytes))
    ∙ ap (λ b. lines_from word (b ∷ drop (at + 1) bytes)) (sym feed)
    ∙ ap (lines_from word) (sym (rest_is bytes at less)))
    ∙ scans.3

chosen : (v : Bool) (o : ℕ) (n : ℕ) → Some n ≡ cond v (Some o) None → (v ≡ true) × (n ≡ o)
chosen true o n e = (refl, cc)
chosen false o n e = absurd (cc e)

refused : (v : Bool) (o : ℕ) → None ≡ cond v (Some o) None → v ≡ false
refused true o e = absurd (cc e)
refused false o e = refl

pub scan_feed : (bytes : List ℕ) (start at braces next whole : ℕ) → at < length bytes → Scans bytes start at braces whole → get_or bytes at 0 ≡ 10 → Some next ≡ read_line braces (take (at - start) (drop start bytes)) →
    next ≤ braces + length (take (at - start) (drop start bytes)) + 1 → Scans bytes (at + 1) (at + 1) next whole
scan_feed bytes start at braces next whole less scans feed reads low =
    let word = take (at - start) (drop start bytes) in
    let line = word ++ 10 ∷ [] in
    let h = chosen (is_laid_out braces line) (open_behind braces (pieces_of line)) next (reads ∙ line_is braces word) in
    let size : length word ≡ at - start = length-take-le (at - start) (drop start bytes) (omega (arith, length-drop start bytes)) in
    let place : start + length line ≡ at + 1 = omega (arith, length-append word (10 ∷ []), size, scans.0) in (
      omega arith,
      omega (arith, scans.0, scans.1, size),
      ap (list_all no_feed) (fresh bytes at),
      ap (λ w. first_bad next (at + 1) (lines_from w (drop (at + 1) bytes))) (fresh bytes at)
          ∙ ap (λ n. first_bad n (at + 1) (lines_from [] (drop (at + 1) bytes))) h.1
          ∙ ap (λ k. first_bad (open_behind braces (pieces_of line)) k (lines_from [] (drop (at + 1) bytes))) (sym place)
          ∙ sym (ap (λ v. cond v (first_bad (open_behind braces (pieces_of line)) (start + length line) (lines_from [] (drop (at + 1) bytes))) start) h.0)
          ∙ feed_line bytes start at braces whole less scans feed,
    )

pub scan_stop : (bytes : List ℕ) (start at braces whole : ℕ) → at < length bytes → Scans bytes start at braces whole → get_or bytes at 0 ≡ 10 → None ≡ read_line braces (take (at - start) (drop start bytes)) → start ≡ whole
scan_stop bytes start at braces whole less scans feed reads =
    let word = take (at - start) (drop start bytes) in
    let line = word ++ 10 ∷ [] in
    let h = refused (is_laid_out braces line) (open_behind braces (pieces_of line)) (reads ∙ line_is braces word) in
    sym (ap (λ v. cond v (first_bad (open_behind braces (pieces_of line)) (start + length line) (lines_from [] (drop (at + 1) bytes))) start) h)
    ∙ feed_line bytes start at braces whole less scans feed

last_feed : (xs : List ℕ) → list_all no_feed (xs ++ 10 ∷ []) ≡ false
last_feed [] = refl
last_feed (x ∷ xs) = by (no_feed x) (last_feed xs)
  where
    by : (v : Bool) → list_all no_feed (xs ++ 10 ∷ []) ≡ false → v && list_all no_feed (xs ++ 10 ∷ []) ≡ false
    by true h = h
    by false h = refl

-- bytes without a line feed are no line
unended : (braces : ℕ) (word : List ℕ) → list_all no_feed word ≡ true → is_laid_out braces word ≡ false
unended braces word clean = by (list_all is_token ps) (closes_open braces ps) (bytes_eq word (line_bytes braces ps)) refl
  where
    ps : List Token
    ps = pieces_of word

    blanks_ : List ℕ
    blanks_ = replicate (2 * depth_of braces ps) 32

    by : (a c v : Bool) → bytes_eq word (line_bytes braces ps) ≡ v → a && (c && v) ≡ false
    by a c true e =
        let same : word ≡ line_bytes braces ps = (bytes_eq-Decides word (line_bytes braces ps)).0 e in
        let split : line_bytes braces ps ≡ (blanks_ ++ join_with_byte 32 ps) ++ 10 ∷ [] = sym (append_assoc blanks_ (join_with_byte 32 ps) (10 ∷ [])) in
        let r : true ≡ false = sym clean ∙ ap (list_all no_feed) (same ∙ split) ∙ last_feed (blanks_ ++ join_with_byte 32 ps) in
        absurd (true≢false r)
    by true true false e = refl
    by true false false e = refl
    by false c false e = refl

pub scan_end : (bytes : List ℕ) (start at braces whole : ℕ) → at ≡ length bytes → Scans bytes start at braces whole → start ≡ whole
scan_end bytes start at braces whole end scans = by (take (at - start) (drop start bytes)) scans.2 (ap (λ rest. first_bad braces start (lines_from (take (at - start) (drop start bytes)) rest)) (sym none) ∙ scans.3)
  where
    none : drop at bytes ≡ []
    none = drop_all at bytes (omega (arith, end))

    by : (word : List ℕ) → list_all no_feed word ≡ true → first_bad braces start (lines_from word []) ≡ whole → start ≡ whole
    by [] clean e = e
    by (c ∷ word) clean e = sym (ap (λ v. cond v (first_bad (open_behind braces (pieces_of (c ∷ word))) (start + length (c ∷ word)) []) start) (unended braces (c ∷ word) clean)) ∙ e
