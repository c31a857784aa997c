use Rattle.std.proofs.Common.{◌≡◌, false, drop}
use Rattle.c_lexer.specs.Lines.{file_len}
use Rattle.c_lexer.proofs.lines.file_len.Given as goal

abbrev pub invariant-loop-i : goal.invariant-loop-i
invariant-loop-i l = file_len l.i l.escaped (drop l.i l.text) ≡ file_len 0 false l.text
