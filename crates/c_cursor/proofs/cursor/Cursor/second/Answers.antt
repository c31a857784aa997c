use Rattle.std.proofs.Common.{◌-◌, ◌<◌, arith}
use Rattle.c_cursor.proofs.Standings.{second_kind, no_second}
use Rattle.c_cursor.proofs.cursor.Cursor.second.Goals as goal

pub returns-then-self-ge2 : goal.returns-then-self-ge2
returns-then-self-ge2 g c = record { kind = second_kind (g.L.TokenList.lexed c.self.inside.list.now) c.self.inside.at c.token.result c.args.self.now c.self.view_is c.token.ensures }

pub returns-else-self-ge2 : goal.returns-else-self-ge2
returns-else-self-ge2 g c =
    let lt : c.self.inside.end - c.self.inside.at < 2 = omega (arith, c.if-self-ge2.false) in
    record { kind = no_second (g.L.TokenList.lexed c.self.inside.list.now) c.self.inside.at c.self.inside.end c.args.self.now c.self.view_is c.self.invariant.1 lt }
