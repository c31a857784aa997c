use Rattle.std.proofs.Common.{◌≡◌, ◌≤◌, ◌+◌, drop}
use Rattle.c_lexer.specs.Automaton.{munch}
use Rattle.c_lexer.proofs.runs.run.Given as goal

abbrev pub invariant-loop-b : goal.invariant-loop-b
invariant-loop-b l =
    (munch l.state l.longest l.read (drop l.b-index l.rest) ≡ munch l.fn.start l.fn.last l.len l.rest)
    × (l.read ≡ l.len + l.b-index)
    × (1 ≤ l.fn.last.len → 1 ≤ l.longest.len)
    × (l.fn.last.len ≤ l.len → l.longest.len ≤ l.read)
