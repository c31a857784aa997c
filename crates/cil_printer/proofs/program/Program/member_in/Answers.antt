use Rattle.cil_printer.proofs.Found.{member_found}
use Rattle.cil_printer.proofs.program.Program.member_in.Goals as goal

pub returns-in-Agg-clause-is : goal.returns-in-Agg-clause-is
returns-in-Agg-clause-is c =
    let g = c.args.self.now.unit.now.graph in
    member_found g c.args.t.0 c.args.n c.in-Agg.a c.node.result.now c.agg.result.now c.member_of.result
    (rw c.graph-2.ensures at c.node.ensures.shape) c.in-Agg.is (rw c.graph-in-Agg.ensures at c.agg.ensures) (c.member_of.ensures g)
