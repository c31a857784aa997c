use Rattle.std.proofs.Common.{[]}
use Rattle.cil_scan.specs.Said.{all_lines}
use Rattle.cil_reader.specs.Members.{members_in, enumerators_from}
use Rattle.cil_reader.proofs.MemberLaws.{none_known, enumerators_next}
use Rattle.cil_reader.proofs.PoolLaws.{pool_twice}
use Rattle.cil_reader.proofs.aggregates.read_enumerators.Goals as goal

pub loop-more-preserved : goal.loop-more-preserved
loop-more-preserved c = (
  c.in_ok-again.ensures.members,
  c.in_ok-again.ensures.known,
  pool_twice c.args.pool.now c.loop-more.pool c.next_enumerator-in-loop-more.new.pool c.loop-more.invariant.2 c.next_enumerator-in-loop-more.ensures.pool,
  enumerators_next c.loop-more.more c.in_ok-again.again (members_in c.args.r.now.graph.nodes c.loop-more.pool c.loop-more.members.items) (members_in c.args.r.now.graph.nodes c.next_enumerator-in-loop-more.new.pool c.next_enumerator-in-loop-more.new.members.items)
      (all_lines c.loop-more.rest.now) (all_lines c.in_ok-again.behind.now) (enumerators_from [] (all_lines c.args.lines.now)) c.loop-more-test.true c.in_ok-again.ensures.gives c.loop-more.invariant.3,
)

pub next_enumerator-requires-clause-known : goal.next_enumerator-requires-clause-known
next_enumerator-requires-clause-known c = none_known c.args.r.now.graph c.args.pool.now c.new-members.result.items c.new-members.ensures.items
