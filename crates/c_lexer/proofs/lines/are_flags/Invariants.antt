use Rattle.std.proofs.Common.{◌≡◌, false, drop}
use Rattle.c_lexer.specs.Lines.{are_flags}
use Rattle.c_lexer.proofs.lines.are_flags.Given as goal

abbrev pub invariant-loop-i : goal.invariant-loop-i
invariant-loop-i l = are_flags l.blank (drop l.i l.text) ≡ are_flags false l.text
