use Rattle.std.proofs.Common.{Some}
use Rattle.type_graph.specs.Shapes.{shape}
use Rattle.cil_printer.proofs.Found.{member_there}
use Rattle.cil_printer.proofs.program.Program.member.Goals as goal

pub returns-in-Some-clause-there : goal.returns-in-Some-clause-there
returns-in-Some-clause-there c =
    let g = c.args.self.now.unit.now.graph in
    member_there g (Some (shape g.nodes c.in-Some.u.0)) c.args.n c.member_in.result c.member_in.ensures.arena c.member_in.ensures.is
