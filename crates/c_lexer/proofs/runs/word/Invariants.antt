use Rattle.std.proofs.Common.{◌≡◌, ◌+◌, drop}
use Rattle.c_lexer.specs.declared.pieces.Kind.TheVariants.{Word as WordPiece}
use Rattle.c_lexer.specs.declared.state.Mode.TheVariants.{Plain}
use Rattle.c_lexer.specs.declared.state.State.TheVariants.{Word}
use Rattle.c_lexer.specs.Automaton.{munch, whole}
use Rattle.c_lexer.proofs.runs.word.Given as goal

abbrev pub invariant-loop-i : goal.invariant-loop-i
invariant-loop-i l = munch (Word Plain) (whole WordPiece (l.i + 1)) (l.i + 1) (drop l.i l.rest) ≡ munch (Word Plain) (whole WordPiece 1) 1 l.rest
