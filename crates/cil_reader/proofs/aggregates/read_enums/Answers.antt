use Rattle.std.proofs.Common.{◌≡◌, length, true, rules}
use Rattle.cil_scan.specs.Said.{all_lines}
use Rattle.cil_reader.specs.Aggregates.{aggregates_in, enums_from}
use Rattle.cil_reader.proofs.AggregateLaws.{enums_next}
use Rattle.cil_reader.proofs.PoolLaws.{pool_twice}
use Rattle.cil_reader.proofs.AddedMembers.{added_twice}
use Rattle.cil_reader.proofs.aggregates.read_enums.Goals as goal

pub loop-turn-preserved : goal.loop-turn-preserved
loop-turn-preserved c =
    let found : c.loop-turn.found ≡ true = search rules in (
      c.in_ok-again.ensures.read.holds,
      enums_next c.loop-turn.r c.loop-turn.pool (length c.loop-turn.r.graph.aggs) c.args.left c.loop-turn.turn c.loop-turn.found c.in_ok-again.again (aggregates_in c.next_enum-in-loop-turn.new.r.graph c.next_enum-in-loop-turn.new.pool)
          (all_lines c.loop-turn.rest.now) (all_lines c.in_ok-again.behind.now) (enums_from c.args.left (aggregates_in c.args.r.now.graph c.args.pool.now) (all_lines c.args.lines.now)) c.loop-turn.invariant.0 c.loop-turn-test.true found
          c.in_ok-again.ensures.gives c.loop-turn.invariant.1,
      added_twice c.args.r.now.graph c.loop-turn.r.graph c.next_enum-in-loop-turn.new.r.graph c.args.pool.now c.loop-turn.pool c.next_enum-in-loop-turn.new.pool c.loop-turn.invariant.2 c.in_ok-again.ensures.read.adds,
      pool_twice c.args.pool.now c.loop-turn.pool c.next_enum-in-loop-turn.new.pool c.loop-turn.invariant.3 c.next_enum-in-loop-turn.ensures.pool,
    )
