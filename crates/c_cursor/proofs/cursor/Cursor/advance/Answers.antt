use Rattle.std.proofs.Common.{◌+◌, ◌≤◌, arith}
use Rattle.c_cursor.proofs.Standings.{next_within}
use Rattle.c_cursor.proofs.cursor.Cursor.advance.Goals as goal

pub overflow_add-self : goal.overflow_add-self
overflow_add-self g c =
    let h : c.self.inside.at + 1 ≤ c.self.inside.end = (next_within (g.L.TokenList.lexed c.self.inside.list.now) c.self.inside.at c.self.inside.end c.args.self.now c.self.view_is c.self.invariant.1 c.requires).0 in
    omega (arith, h, c.self.ranges.1)

pub invariant_of-self : goal.invariant_of-self
invariant_of-self g c = next_within (g.L.TokenList.lexed c.self.inside.list.now) c.self.inside.at c.self.inside.end c.args.self.now c.self.view_is c.self.invariant.1 c.requires
