use Rattle.std.proofs.Common.{◌≡◌, false, drop}
use Rattle.c_lexer.specs.Constants.{has_universal}
use Rattle.c_lexer.proofs.constants.has_universal.Given as goal

abbrev pub invariant-loop-b : goal.invariant-loop-b
invariant-loop-b l = has_universal l.escaped (drop l.b-index l.text) ≡ has_universal false l.text
