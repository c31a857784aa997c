use Rattle.std.proofs.Common.{◌<◌, ◌≤◌, length, take, sym, ◌∙◌, arith, rules, IsErr, IfErr}
use Rattle.cil_text.specs.ReadExps.{bases}
use Rattle.cil_text.specs.ReadAggregates.{read_member}
use Rattle.cil_declarators.specs.Gives.{Fails}
use Rattle.cil_scan.specs.Said.{all_lines}
use Rattle.cil_reader.specs.Settings.{env_in}
use Rattle.cil_reader.specs.Aggregates.{aggregates_in, tag_at, one_struct, tagged_structs}
use Rattle.cil_reader.proofs.MemberLaws.{stops_so}
use Rattle.cil_reader.proofs.AggregateLaws.{count_in, holds_all, structs_open, structs_plain, structs_next, structs_fail, structs_end}
use Rattle.cil_reader.proofs.PoolLaws.{pool_twice}
use Rattle.cil_reader.proofs.AddedMembers.{added_twice}
use Rattle.cil_reader.proofs.ReadLaws.{read_both}
use Rattle.cil_reader.proofs.aggregates.read_structs.Goals as goal

pub loop-a-preserved : goal.loop-a-preserved
loop-a-preserved c =
    let xs = aggregates_in c.loop-a.r.graph c.loop-a.pool in
    let ys = aggregates_in c.read_struct.new.r.graph c.read_struct.new.pool in
    let there : c.loop-a.a < length c.loop-a.r.graph.aggs = omega (arith, c.loop-a-test.true, c.loop-a.invariant.3) in
    let less : c.loop-a.a < length xs = omega (arith, there, count_in c.loop-a.r.graph c.loop-a.pool) in
    let whole = tagged_structs c.args.r.now.graph.abi c.args.left c.args.first (aggregates_in c.args.r.now.graph c.args.pool.now) (all_lines c.args.lines.now) in (
      c.in_ok-rest-2.ensures.read.holds,
      structs_open c.loop-a.a xs ys c.loop-a.invariant.1 less c.in_ok-rest-2.ensures.others.rest,
      structs_plain c.loop-a.a xs ys c.loop-a.invariant.2 less c.in_ok-rest-2.ensures.others.rest,
      c.loop-a.invariant.3 ∙ sym c.in_ok-rest-2.ensures.others.count,
      structs_next c.loop-a.r c.read_struct.new.r c.loop-a.pool c.read_struct.new.pool c.args.left c.loop-a.a (all_lines c.loop-a.rest.now) (all_lines c.in_ok-rest-2.rest.now) whole there c.in_ok-rest-2.ensures.others.tags c.in_ok-rest-2.ensures.read.adds c.in_ok-rest-2.ensures.gives
          c.in_ok-rest-2.ensures.others.rest c.loop-a.invariant.4,
      added_twice c.args.r.now.graph c.loop-a.r.graph c.read_struct.new.r.graph c.args.pool.now c.loop-a.pool c.read_struct.new.pool c.loop-a.invariant.5 c.in_ok-rest-2.ensures.read.adds,
      pool_twice c.args.pool.now c.loop-a.pool c.read_struct.new.pool c.loop-a.invariant.6 c.read_struct.ensures.pool,
    )

pub returns-in_err-rest-2-clause-gives : goal.returns-in_err-rest-2-clause-gives
returns-in_err-rest-2-clause-gives c =
    let xs = aggregates_in c.loop-a.r.graph c.loop-a.pool in
    let there : c.loop-a.a < length c.loop-a.r.graph.aggs = omega (arith, c.loop-a-test.true, c.loop-a.invariant.3) in
    let read = one_struct (read_member (bases (env_in c.loop-a.r)) c.args.left) (take c.loop-a.a xs) (tag_at c.loop-a.a xs) (all_lines c.loop-a.rest.now) in
    let whole = tagged_structs c.args.r.now.graph.abi c.args.left c.args.first (aggregates_in c.args.r.now.graph c.args.pool.now) (all_lines c.args.lines.now) in
    let stopped : IsErr c.from_residual-in_err-rest-2.result = search rules in
    let says : IfErr c.from_residual-in_err-rest-2.result (λ e. Fails e read) = search rules in
    stops_so _ c.from_residual-in_err-rest-2.result read whole stopped says
    (λ none. structs_fail c.loop-a.r c.loop-a.pool c.args.left c.loop-a.a (all_lines c.loop-a.rest.now) whole there none c.loop-a.invariant.4)

pub returns-clause-gives : goal.returns-clause-gives
returns-clause-gives c =
    let whole = tagged_structs c.args.r.now.graph.abi c.args.left c.args.first (aggregates_in c.args.r.now.graph c.args.pool.now) (all_lines c.args.lines.now) in
    let past : length c.loop-a.r.graph.aggs ≤ c.loop-a.a = omega (arith, c.loop-a-test.false, c.loop-a.invariant.3) in
    structs_end c.loop-a.r c.loop-a.pool c.args.left c.loop-a.a (all_lines c.loop-a.rest.now) whole past c.loop-a.invariant.4

pub returns-clause-read : goal.returns-clause-read
returns-clause-read c =
    let past : length c.loop-a.r.graph.aggs ≤ c.loop-a.a = omega (arith, c.loop-a-test.false, c.loop-a.invariant.3) in
    read_both c.args.r.now c.loop-a.r c.args.pool.now c.loop-a.pool _ (holds_all c.loop-a.r c.loop-a.pool c.loop-a.a c.loop-a.invariant.0 past) c.loop-a.invariant.5
