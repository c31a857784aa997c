use Rattle.c_cursor.proofs.Standings.{next_kind}
use Rattle.c_cursor.proofs.cursor.Cursor.next.Goals as goal

pub returns-then-self-clause-kind : goal.returns-then-self-clause-kind
returns-then-self-clause-kind g c = next_kind (g.L.TokenList.lexed c.self.inside.list.now) c.self.inside.at c.token.result c.args.self.now c.self.view_is c.token.ensures
