use Rattle.std.proofs.Common.{[], rules, IsErr, IfErr}
use Rattle.cil_reader.proofs.OnwardLaws.{onward_twice}
use Rattle.cil_text.specs.ReadExps.{bases}
use Rattle.cil_text.specs.ReadAggregates.{read_member}
use Rattle.cil_declarators.specs.Gives.{Fails}
use Rattle.cil_scan.specs.Said.{all_lines}
use Rattle.cil_reader.specs.Settings.{env_in}
use Rattle.cil_reader.specs.Members.{members_in, members_from, member_more, next_line}
use Rattle.cil_reader.proofs.MemberLaws.{no_fields, members_next, members_fail, stops_so}
use Rattle.cil_reader.proofs.AddedMembers.{fields_on}
use Rattle.cil_reader.proofs.PoolLaws.{pool_twice}
use Rattle.cil_reader.proofs.aggregates.read_members.Goals as goal

pub loop-more-preserved : goal.loop-more-preserved
loop-more-preserved c = (
  c.in_ok-again.ensures.known,
  onward_twice c.args.r.now c.loop-more.r c.next_member-in-loop-more.new.r c.loop-more.invariant.1 c.next_member-in-loop-more.ensures.on,
  pool_twice c.args.pool.now c.loop-more.pool c.next_member-in-loop-more.new.pool c.loop-more.invariant.2 c.next_member-in-loop-more.ensures.pool,
  members_next c.args.r.now c.loop-more.r c.args.left c.loop-more.pool c.loop-more.fields.members.items c.loop-more.fields.names c.loop-more.more c.in_ok-again.again
      (members_in c.next_member-in-loop-more.new.r.graph.nodes c.next_member-in-loop-more.new.pool c.in_ok-again.all.members.items) (all_lines c.loop-more.rest.now) (all_lines c.in_ok-again.behind.now)
      (members_from (read_member (bases (env_in c.args.r.now)) c.args.left) [] (all_lines c.args.lines.now)) c.loop-more.invariant.0 c.loop-more.invariant.1.env c.loop-more-test.true c.in_ok-again.ensures.gives c.loop-more.invariant.3,
  fields_on c.args.r.now.graph c.loop-more.r.graph c.next_member-in-loop-more.new.r.graph c.loop-more.fields.names.types.items c.in_ok-again.all.names.types.items c.loop-more.invariant.4 c.in_ok-again.ensures.adds,
)

pub next_member-requires : goal.next_member-requires
next_member-requires c = record { known = no_fields c.args.r.now.graph c.args.pool.now c.new.result.items c.new-2.result c.new.ensures.items c.new-2.ensures.numbering c.new-2.ensures.types }

pub returns-in_err-again-clause-gives : goal.returns-in_err-again-clause-gives
returns-in_err-again-clause-gives c =
    let ms = members_in c.loop-more.r.graph.nodes c.loop-more.pool c.loop-more.fields.members.items in
    let read = next_line (member_more (read_member (bases (env_in c.loop-more.r)) c.args.left) ms) ms (all_lines c.loop-more.rest.now) in
    let whole = members_from (read_member (bases (env_in c.args.r.now)) c.args.left) [] (all_lines c.args.lines.now) in
    let stopped : IsErr c.from_residual-in_err-again.result = search rules in
    let says : IfErr c.from_residual-in_err-again.result (λ e. Fails e read) = search rules in
    stops_so _ c.from_residual-in_err-again.result read whole stopped says
    (λ none. members_fail c.args.r.now c.loop-more.r c.loop-more.r.graph c.args.left c.loop-more.pool c.loop-more.fields.members.items c.loop-more.fields.names c.loop-more.more (all_lines c.loop-more.rest.now) whole
    c.loop-more.invariant.0 c.loop-more.invariant.1.env c.loop-more-test.true none c.loop-more.invariant.3)
