use Rattle.std.proofs.Common.{◌≡◌, ◌+◌, drop}
use Rattle.c_lexer.specs.declared.pieces.Kind.TheVariants.{Blank}
use Rattle.c_lexer.specs.declared.state.State.TheVariants.{Blanks}
use Rattle.c_lexer.specs.Automaton.{munch, whole}
use Rattle.c_lexer.proofs.runs.blanks.Given as goal

abbrev pub invariant-loop-i : goal.invariant-loop-i
invariant-loop-i l = munch Blanks (whole Blank (l.i + 1)) (l.i + 1) (drop l.i l.rest) ≡ munch Blanks (whole Blank 1) 1 l.rest
