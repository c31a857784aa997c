use Rattle.std.proofs.Common.{◌≡◌, drop}
use Rattle.c_lexer.specs.Constants.{behind_hexes}
use Rattle.c_lexer.proofs.constants.behind_hexes.Given as goal

abbrev pub invariant-loop-i : goal.invariant-loop-i
invariant-loop-i l = behind_hexes (drop l.i l.text) ≡ behind_hexes l.text
