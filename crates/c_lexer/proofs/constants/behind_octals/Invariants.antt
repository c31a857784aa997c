use Rattle.std.proofs.Common.{◌≡◌, drop}
use Rattle.c_lexer.specs.Constants.{behind_octals}
use Rattle.c_lexer.proofs.constants.behind_octals.Given as goal

abbrev pub invariant-loop-i : goal.invariant-loop-i
invariant-loop-i l = behind_octals (drop l.i l.text) ≡ behind_octals l.text
