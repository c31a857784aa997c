use Rattle.std.proofs.Common.{◌≡◌, drop}
use Rattle.c_lexer.specs.Constants.{behind_quote}
use Rattle.c_lexer.proofs.constants.behind_quote.Given as goal

abbrev pub invariant-loop-i : goal.invariant-loop-i
invariant-loop-i l = behind_quote (drop l.i l.text) ≡ behind_quote l.text
