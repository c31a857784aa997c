use Rattle.cil_scan.specs.Said.{all_lines}
use Rattle.cil_reader.specs.Aggregates.{aggregates_in, tags_from}
use Rattle.cil_reader.proofs.AggregateLaws.{tags_next}
use Rattle.cil_reader.proofs.PoolLaws.{pool_twice}
use Rattle.cil_reader.proofs.AddedMembers.{added_twice}
use Rattle.cil_reader.proofs.aggregates.read_tags.Goals as goal

pub loop-found-preserved : goal.loop-found-preserved
loop-found-preserved c = (
  c.in_ok-again.ensures.read.holds,
  c.in_ok-again.ensures.within,
  tags_next c.loop-found.r c.loop-found.pool c.args.first c.loop-found.found c.in_ok-again.again (aggregates_in c.next_tag-in-loop-found.new.r.graph c.next_tag-in-loop-found.new.pool) (all_lines c.loop-found.rest.now) (all_lines c.in_ok-again.behind.now)
      (tags_from (aggregates_in c.args.r.now.graph c.args.pool.now) (all_lines c.args.lines.now)) c.loop-found.invariant.0 c.loop-found-test.true c.in_ok-again.ensures.gives c.loop-found.invariant.2,
  added_twice c.args.r.now.graph c.loop-found.r.graph c.next_tag-in-loop-found.new.r.graph c.args.pool.now c.loop-found.pool c.next_tag-in-loop-found.new.pool c.loop-found.invariant.3 c.in_ok-again.ensures.read.adds,
  pool_twice c.args.pool.now c.loop-found.pool c.next_tag-in-loop-found.new.pool c.loop-found.invariant.4 c.next_tag-in-loop-found.ensures.pool,
)
