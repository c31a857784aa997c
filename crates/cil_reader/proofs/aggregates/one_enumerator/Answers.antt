use Rattle.std.proofs.Common.{sym, subst}
use Rattle.cil_reader.specs.Members.{MembersKnown}
use Rattle.cil_reader.proofs.MemberLaws.{members_more}
use Rattle.cil_reader.proofs.aggregates.one_enumerator.Goals as goal

pub returns-clause-known : goal.returns-clause-known
returns-clause-known c =
    subst (MembersKnown c.args.r.now.graph c.member.new.pool) (sym c.in_ok-push.ensures.items)
    (members_more c.args.r.now.graph c.args.pool.now c.member.new.pool _ c.args.int _ c.args.members.now.items c.in_ok-one.one c.requires.there c.requires.known c.member.ensures.pool c.in_ok-one.ensures.is)
