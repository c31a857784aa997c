-- Device: steps of the loops that collect words and lines.
use Rattle.std.proofs.Common.{◌≡◌, ◌≢◌, ℕ, suc, ◌+◌, ◌-◌, ◌<◌, cond, List, [], ◌∷◌, ◌++◌, length, take, drop, get_or, refl, sym, ap, ◌∙◌, append_assoc, arith, eq-eqb, map}
use Rattle.std.proofs.lemmas.List.{drop_all}
use Rattle.cil_tree.specs.Declarators.{words_from}
use Rattle.cil_tree.specs.LaidOut.{lines_from, without_last, without_blanks}
use Rattle.cil_text.specs.Words.{Word, word_of, onto}
use Rattle.cil_text.specs.ReadText.{line_words, words_in}
use Rattle.std.specs.Prelude.{Vec}
use Rattle.std.specs.Global.{Global}
use Rattle.cil_scan.specs.declared.words.Word.{Word as Seen}
use Rattle.cil_scan.specs.Said.{said, all_said, all_lines}
use Rattle.cil_scan.specs.Lines.{rest_words, CollectsWords, CollectsLines}
use Rattle.cil_layout.proofs.ScanLaws.{grown, rest_is, word_step, blank_step, fresh, other_byte, line_step}
use Rattle.cil_layout.proofs.LineLaws.{last_cut}

pub said_more : (xs : List Seen) (x : Seen) → all_said (xs ++ x ∷ []) ≡ all_said xs ++ said x ∷ []
said_more [] x = refl
said_more (y ∷ xs) x = ap (λ zs. said y ∷ zs) (said_more xs x)

pub lines_more : (xs : List (Vec Seen Global)) (x : Vec Seen Global) → all_lines (xs ++ x ∷ []) ≡ all_lines xs ++ all_said x.items ∷ []
lines_more [] x = refl
lines_more (y ∷ xs) x = ap (λ zs. all_said y.items ∷ zs) (lines_more xs x)

pub words_start : (text : List ℕ) → CollectsWords text 0 0 []
words_start text = record { low = omega arith; whole = refl }

pub words_on : (text : List ℕ) (start at : ℕ) (ws : List Word) → at < length text → CollectsWords text start at ws → get_or text at 0 ≢ 32 → CollectsWords text start (at + 1) ws
words_on text start at ws less c other = record {
  low = omega (arith, c.low);
  whole = ap (λ v. ws ++ onto v []) (sym (word_step text start at c.low less (other_byte (get_or text at 0) 32 other))) ∙ c.whole;
}

pub words_blank : (text : List ℕ) (start at : ℕ) (ws : List Word) (w : Word) → at < length text → CollectsWords text start at ws → get_or text at 0 ≡ 32 →
    w ≡ word_of (take (at - start) (drop start text)) → CollectsWords text (at + 1) (at + 1) (ws ++ w ∷ [])
words_blank text start at ws w less c blank is = record {
  low = omega arith;
  whole = append_assoc ws (w ∷ []) (onto (words_from (take (at + 1 - (at + 1)) (drop (at + 1) text)) (drop (at + 1) text)) [])
      ∙ ap (λ v. ws ++ w ∷ onto (words_from v (drop (at + 1) text)) []) (fresh text at)
      ∙ ap (λ v. ws ++ v ∷ onto (words_from [] (drop (at + 1) text)) []) is
      ∙ ap (λ v. ws ++ onto v []) (sym (blank_step text start at less (eq-eqb (get_or text at 0) 32 blank)))
      ∙ c.whole;
}

pub words_end : (text : List ℕ) (start at : ℕ) (ws : List Word) (w : Word) → at ≡ length text → CollectsWords text start at ws →
    w ≡ word_of (take (length text - start) (drop start text)) → ws ++ w ∷ [] ≡ onto (words_from [] text) []
words_end text start at ws w end c is =
    ap (λ v. ws ++ v ∷ []) (is ∙ ap (λ k. word_of (take (k - start) (drop start text))) (sym end))
    ∙ ap (λ rest. ws ++ onto (words_from (take (at - start) (drop start text)) rest) []) (sym (drop_all at text (omega (arith, end))))
    ∙ c.whole

pub lines_start : (bytes : List ℕ) → CollectsLines bytes 0 0 []
lines_start bytes = record { low = omega arith; whole = refl }

pub lines_on : (bytes : List ℕ) (start at : ℕ) (ls : List (List Word)) → at < length bytes → CollectsLines bytes start at ls → get_or bytes at 0 ≢ 10 → CollectsLines bytes start (at + 1) ls
lines_on bytes start at ls less c other =
    let word = take (at - start) (drop start bytes) in
    let b = get_or bytes at 0 in record {
      low = omega (arith, c.low);
      whole = ap (λ v. ls ++ map line_words v) (
          ap (λ w. lines_from w (drop (at + 1) bytes)) (grown bytes start at c.low less)
          ∙ sym (ap (λ v. cond v ((word ++ b ∷ []) ∷ lines_from [] (drop (at + 1) bytes)) (lines_from (word ++ b ∷ []) (drop (at + 1) bytes))) (other_byte b 10 other))
          ∙ sym (line_step word b (drop (at + 1) bytes))
          ∙ ap (lines_from word) (sym (rest_is bytes at less)))
          ∙ c.whole;
    }

pub lines_feed : (bytes : List ℕ) (start at : ℕ) (ls : List (List Word)) (ws : List Word) → at < length bytes → CollectsLines bytes start at ls → get_or bytes at 0 ≡ 10 →
    ws ≡ onto (words_from [] (without_blanks (take (at - start) (drop start bytes)))) [] → CollectsLines bytes (at + 1) (at + 1) (ls ++ ws ∷ [])
lines_feed bytes start at ls ws less c feed is =
    let word = take (at - start) (drop start bytes) in
    let more = drop (at + 1) bytes in record {
      low = omega arith;
      whole = append_assoc ls (ws ∷ []) (map line_words (lines_from (take (at + 1 - (at + 1)) more) more))
          ∙ ap (λ v. ls ++ ws ∷ map line_words (lines_from v more)) (fresh bytes at)
          ∙ ap (λ v. ls ++ v ∷ map line_words (lines_from [] more)) (is ∙ ap (λ t. onto (words_from [] (without_blanks t)) []) (sym (last_cut word 10)))
          ∙ ap (λ v. ls ++ map line_words v) (
          sym (line_step word 10 more)
          ∙ ap (λ b. lines_from word (b ∷ more)) (sym feed)
          ∙ ap (lines_from word) (sym (rest_is bytes at less)))
          ∙ c.whole;
    }

left_over : (word : List ℕ) → map line_words (lines_from word []) ≡ rest_words word
left_over [] = refl
left_over (b ∷ bytes) = refl

pub lines_end : (bytes : List ℕ) (start at : ℕ) (ls : List (List Word)) → at ≡ length bytes → CollectsLines bytes start at ls →
    ls ++ rest_words (take (length bytes - start) (drop start bytes)) ≡ words_in bytes
lines_end bytes start at ls end c =
    ap (λ k. ls ++ rest_words (take (k - start) (drop start bytes))) (sym end)
    ∙ ap (λ v. ls ++ v) (sym (left_over (take (at - start) (drop start bytes))))
    ∙ ap (λ rest. ls ++ map line_words (lines_from (take (at - start) (drop start bytes)) rest)) (sym (drop_all at bytes (omega (arith, end))))
    ∙ c.whole

pub last_off : (xs : List ℕ) → take (length xs - 1) xs ≡ without_last xs
last_off [] = refl
last_off (b ∷ []) = refl
last_off (b ∷ c ∷ xs) = ap (λ k. take k (b ∷ c ∷ xs)) one ∙ ap (λ zs. b ∷ zs) (last_off (c ∷ xs))
  where
    one : length (b ∷ c ∷ xs) - 1 ≡ suc (length (c ∷ xs) - 1)
    one = omega arith

pub rest_some : (rest : List ℕ) → rest ≢ [] → rest_words rest ≡ onto (words_from [] (without_blanks (without_last rest))) [] ∷ []
rest_some [] h = absurd (h refl)
rest_some (b ∷ rest) h = refl
