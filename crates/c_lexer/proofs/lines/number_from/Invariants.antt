use Rattle.std.proofs.Common.{◌≡◌, ◌<◌, ◌^◌, drop}
use Rattle.c_lexer.specs.Lines.{number_from}
use Rattle.c_lexer.proofs.lines.number_from.Given as goal

abbrev pub invariant-loop-i : goal.invariant-loop-i
invariant-loop-i l = (number_from l.sum (drop l.i l.text) ≡ number_from l.value l.text) × (l.sum < 2 ^ 31)
