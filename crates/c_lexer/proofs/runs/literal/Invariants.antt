use Rattle.std.proofs.Common.{◌≡◌, ◌+◌, drop}
use Rattle.c_lexer.specs.declared.pieces.Kind.TheVariants.{Broken}
use Rattle.c_lexer.specs.declared.state.Mode.TheVariants.{Plain}
use Rattle.c_lexer.specs.declared.state.State.TheVariants.{Literal, Opened}
use Rattle.c_lexer.specs.Automaton.{munch, whole}
use Rattle.c_lexer.proofs.runs.literal.Given as goal

abbrev pub invariant-loop-i : goal.invariant-loop-i
invariant-loop-i l = munch (Literal l.fn.quote Plain) (whole Broken 1) (l.i + 1) (drop l.i l.rest) ≡ munch (Opened l.fn.quote) (whole Broken 1) 1 l.rest
