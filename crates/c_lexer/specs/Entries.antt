-- Device: where the text of a token stands.
use Rattle.std.specs.Prelude.{ℕ, ◌≤◌}
use Rattle.c_lexer.specs.declared.entries.Entry.{Entry}

-- the entry's text is a part of the first `limit` bytes
pub record IsWithin (limit : ℕ) (e : Entry) : Type 0 where
  pub ordered : e.token.start ≤ e.token.end
  pub within : e.token.end ≤ limit
