use Rattle.cil_printer.specs.Seen.{seen, tree_of}
use Rattle.cil_printer.proofs.ImageTokens.{member_step}
use Rattle.cil_printer.proofs.program.Program.push_member_step.Goals as goal

pub returns-clause-text : goal.returns-clause-text
returns-clause-text c =
    let p = tree_of c.args.self.now in
    member_step _ _ _ p c.args.n (seen p.graph.nodes c.args.of) c.member-member.result c.member-member.ensures.is c.token.ensures (rw c.name_of.ensures at c.token-2.ensures)
