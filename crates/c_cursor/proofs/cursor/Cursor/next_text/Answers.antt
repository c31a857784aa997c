use Rattle.std.proofs.Common.{sym, ◌∙◌}
use Rattle.c_cursor.proofs.Standings.{value_there, nothing_there}
use Rattle.c_cursor.proofs.cursor.Cursor.next_text.Goals as goal

pub returns-then-has_text : goal.returns-then-has_text
returns-then-has_text g c =
    value_there (g.L.TokenList.lexed c.self.inside.list.now) c.self.inside.at c.token.result c.text.result.now c.args.self.now c.self.view_is c.token.ensures (sym c.has_text.ensures ∙ c.if-has_text.true) c.text.ensures

pub returns-else-has_text : goal.returns-else-has_text
returns-else-has_text g c = nothing_there (g.L.TokenList.lexed c.self.inside.list.now) c.self.inside.at c.token.result c.args.self.now c.self.view_is c.token.ensures (sym c.has_text.ensures ∙ c.if-has_text.false)
