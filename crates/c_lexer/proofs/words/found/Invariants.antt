use Rattle.std.proofs.Common.{◌≡◌, drop}
use Rattle.c_lexer.specs.Words.{found}
use Rattle.c_lexer.proofs.words.found.Given as goal

abbrev pub invariant-loop-word : goal.invariant-loop-word
invariant-loop-word l = found (drop l.word-index l.words) l.text ≡ found l.words l.text
