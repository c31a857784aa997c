use Rattle.std.proofs.Common.{◌≡◌, ◌++◌, false, drop}
use Rattle.c_lexer.specs.Lines.{file_of}
use Rattle.c_lexer.proofs.lines.file_of.Given as goal

abbrev pub invariant-loop-b : goal.invariant-loop-b
invariant-loop-b l = l.name.items ++ file_of l.escaped (drop l.b-index l.text) ≡ file_of false l.text
