use Rattle.std.proofs.Common.{◌≡◌, ◌≤◌, ◌+◌, drop}
use Rattle.c_lexer.specs.declared.constants.Counting.TheVariants.{Byte}
use Rattle.c_lexer.specs.Constants.{count}
use Rattle.c_lexer.proofs.constants.count.Given as goal

abbrev pub invariant-loop-b : goal.invariant-loop-b
invariant-loop-b l = (l.n + count l.counting (drop l.b-index l.text) ≡ count Byte l.text) × (l.n ≤ l.b-index)
