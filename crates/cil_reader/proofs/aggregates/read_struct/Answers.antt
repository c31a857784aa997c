use Rattle.std.proofs.Common.{◌+◌, take}
use Rattle.cil_scan.specs.Said.{all_lines}
use Rattle.cil_reader.specs.Aggregates.{aggregates_in}
use Rattle.cil_reader.proofs.AggregateLaws.{struct_left}
use Rattle.cil_reader.proofs.ReadLaws.{others_left}
use Rattle.cil_reader.proofs.aggregates.read_struct.Goals as goal

pub returns-in_ok-leave-in-None-clause-gives : goal.returns-in_ok-leave-in-None-clause-gives
returns-in_ok-leave-in-None-clause-gives c =
    struct_left c.args.r.now c.args.pool.now c.args.a.0 c.args.left (all_lines c.args.lines.now) (take (c.args.a.0 + 1) (aggregates_in c.leave.new.r.graph c.args.pool.now)) c.requires.holds c.requires.there c.in-None.ensures c.in_ok-leave-in-None.ensures.gives

pub returns-in_ok-leave-in-None-clause-others : goal.returns-in_ok-leave-in-None-clause-others
returns-in_ok-leave-in-None-clause-others c = others_left c.args.r.now c.leave.new.r c.args.pool.now c.args.a.0 c.leave.ensures.graph c.in_ok-leave-in-None.ensures.tags
