use Rattle.c_cursor.proofs.Standings.{within_all}
use Rattle.c_cursor.proofs.cursor.Cursor.move_to.Goals as goal

pub invariant_of-self : goal.invariant_of-self
invariant_of-self g c = within_all (g.L.TokenList.lexed c.self.inside.list.now) c.self.inside.at c.self.inside.end c.args.i c.args.self.now c.self.view_is c.self.invariant.1 c.requires
