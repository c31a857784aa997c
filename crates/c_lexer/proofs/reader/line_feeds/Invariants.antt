use Rattle.std.proofs.Common.{◌≡◌, ◌≤◌, ◌+◌, drop}
use Rattle.c_lexer.specs.Tokens.{line_feeds}
use Rattle.c_lexer.proofs.reader.line_feeds.Given as goal

abbrev pub invariant-loop-b : goal.invariant-loop-b
invariant-loop-b l = (l.n + line_feeds (drop l.b-index l.text) ≡ line_feeds l.text) × (l.n ≤ l.b-index)
