use Rattle.std.proofs.Common.{length}
use Rattle.cil_check.proofs.ExpressionSteps.{member_at}
use Rattle.cil_check.proofs.operators.type_among.Goals as goal

pub returns-clause-there : goal.returns-clause-there
returns-clause-there c =
    let e = c.in_ok-member.ensures.lookup in
    member_at (length c.args.g.now.nodes) c.args.members.now c.args.number c.in_ok-member.member.now c.requires e.3.0 e.1
