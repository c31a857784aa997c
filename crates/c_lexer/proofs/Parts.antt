-- Device: a word is never a lexical fault.
use Rattle.std.proofs.Common.{◌≡◌, ℕ, nat_le, length, ◌==◌, Bool, true, false, if◌then◌else◌, List, refl, ap}
use Rattle.std.specs.List.{list_any}
use Rattle.cil_base.specs.declared.faults.Fault.TheVariants.{Excluded, Limit}
use Rattle.cil_base.specs.declared.faults.Feature.TheVariants.{Universal}
use Rattle.cil_base.specs.declared.faults.What.TheVariants.{NameBytes}
use Rattle.c_lexer.specs.declared.pieces.Kind.TheVariants.{Word}
use Rattle.c_lexer.specs.declared.words.WordMeaning.{WordMeaning}
use Rattle.c_lexer.specs.declared.words.WordMeaning.TheVariants.{Keyword, Excluded as IsExcluded, Skipped, Attribute, Name}
use Rattle.c_lexer.specs.declared.meaning.Meaning.TheVariants.{Fault as Faults, Name as GivesName}
use Rattle.c_lexer.specs.declared.attributes.Part.TheVariants.{Word as AWord, Wrong as NoToken}
use Rattle.c_lexer.specs.Words.{word_meaning}
use Rattle.c_lexer.specs.Tokens.{meaning_of_word, meaning_of_text, is_lexical, part}

name_lexical : (b : Bool) → is_lexical (if b then GivesName else Faults (Limit NameBytes)) ≡ false
name_lexical true = refl
name_lexical false = refl

word_lexical : (len : ℕ) (word : WordMeaning) → is_lexical (meaning_of_word len word) ≡ false
word_lexical len (Keyword keyword) = refl
word_lexical len (IsExcluded feature) = refl
word_lexical len Skipped = refl
word_lexical len Attribute = refl
word_lexical len Name = name_lexical (nat_le len 1024)

text_lexical : (text : List ℕ) → is_lexical (meaning_of_text text) ≡ false
unfolding meaning_of_text
text_lexical text = by (list_any (λ b. b == 92) text)
  where
    by : (b : Bool) → is_lexical (if b then Faults (Excluded Universal) else meaning_of_word (length text) (word_meaning text)) ≡ false
    by true = refl
    by false = word_lexical (length text) (word_meaning text)

pub word_part : (text : List ℕ) → part Word text ≡ AWord
word_part text = ap (λ b. if b then NoToken else AWord) (text_lexical text)
