-- Device: the words of what stands behind the last line feed, and how words and lines are collected from left to right.
use Rattle.std.specs.Prelude.{◌≡◌, ℕ, ◌-◌, ◌≤◌, List, [], ◌∷◌, ◌++◌, take, drop, map}
use Rattle.cil_tree.specs.Declarators.{words_from}
use Rattle.cil_tree.specs.LaidOut.{lines_from}
use Rattle.cil_text.specs.Words.{Word, onto}
use Rattle.cil_text.specs.ReadText.{line_words, words_in}

abbrev pub rest_words : List ℕ → List (List Word)
rest_words [] = []
rest_words (b ∷ bytes) = line_words (b ∷ bytes) ∷ []

-- words so far, and those that begin at a place or further on
pub record CollectsWords (text : List ℕ) (start at : ℕ) (words : List Word) : Type 0 where
  pub low : start ≤ at
  pub whole : words ++ onto (words_from (take (at - start) (drop start text)) (drop at text)) [] ≡ onto (words_from [] text) []

-- lines so far, and those that begin at a place or further on
pub record CollectsLines (bytes : List ℕ) (start at : ℕ) (lines : List (List Word)) : Type 0 where
  pub low : start ≤ at
  pub whole : lines ++ map line_words (lines_from (take (at - start) (drop start bytes)) (drop at bytes)) ≡ words_in bytes
