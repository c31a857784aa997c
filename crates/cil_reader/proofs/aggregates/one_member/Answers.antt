use Rattle.cil_reader.proofs.MemberLaws.{fields_later}
use Rattle.cil_reader.proofs.aggregates.one_member.Goals as goal

pub with_member-requires-clause-known : goal.with_member-requires-clause-known
with_member-requires-clause-known c = fields_later c.args.r.now.graph c.declared.new.r.graph c.args.pool.now c.args.fields.members.items c.args.fields.names c.declared.ensures.on.grows c.requires.known
