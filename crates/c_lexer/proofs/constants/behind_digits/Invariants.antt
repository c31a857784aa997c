use Rattle.std.proofs.Common.{◌≡◌, drop}
use Rattle.c_lexer.specs.Constants.{behind_digits}
use Rattle.c_lexer.proofs.constants.behind_digits.Given as goal

abbrev pub invariant-loop-i : goal.invariant-loop-i
invariant-loop-i l = behind_digits (drop l.i l.text) ≡ behind_digits l.text
