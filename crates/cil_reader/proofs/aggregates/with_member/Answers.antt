use Rattle.std.proofs.Common.{sym, subst}
use Rattle.cil_reader.specs.Members.{FieldsKnown}
use Rattle.cil_reader.proofs.MemberLaws.{fields_more}
use Rattle.cil_reader.proofs.aggregates.with_member.Goals as goal

pub returns-clause-known : goal.returns-clause-known
returns-clause-known c =
    subst (λ ms. FieldsKnown c.args.r.now.graph c.member.new.pool ms c.in_ok-names.names) (sym c.in_ok-push.ensures.items)
    (fields_more c.args.r.now.graph c.args.pool.now c.member.new.pool c.args.fields.members.items c.args.fields.names c.in_ok-names.names c.args.text.now c.args.ty c.in_ok-one.one c.requires.there c.requires.known c.member.ensures.pool
    c.in_ok-one.ensures.is c.in_ok-names.ensures.gives c.in_ok-names.ensures.types)
