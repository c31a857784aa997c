use Rattle.cil_scan.specs.Said.{all_lines}
use Rattle.cil_reader.specs.Aggregates.{aggregates_in}
use Rattle.cil_reader.proofs.AggregateLaws.{blank_holds, holds_fields, whole_gives}
use Rattle.cil_reader.proofs.AddedMembers.{added_twice}
use Rattle.cil_reader.proofs.aggregates.read_placed.Goals as goal

pub read_enums-requires : goal.read_enums-requires
read_enums-requires c = record { holds = blank_holds c.args.r.now c.args.pool.now c.requires }

pub returns-clause-known : goal.returns-clause-known
returns-clause-known c = c.in_ok-rest.ensures.read.holds.seen

pub returns-clause-tags : goal.returns-clause-tags
returns-clause-tags c = c.in_ok-rest.ensures.read.holds.tags

pub returns-clause-members : goal.returns-clause-members
returns-clause-members c = holds_fields c.read_structs.new.r c.read_structs.new.pool c.in_ok-rest.ensures.read.holds

pub returns-clause-adds : goal.returns-clause-adds
returns-clause-adds c =
    added_twice c.args.r.now.graph c.read_enums.new.r.graph c.read_structs.new.r.graph c.args.pool.now c.read_enums.new.pool c.read_structs.new.pool c.in_ok-behind.ensures.read.adds c.in_ok-rest.ensures.read.adds

pub returns-clause-unqualified : goal.returns-clause-unqualified
returns-clause-unqualified c = c.in_ok-rest.ensures.read.holds.plain

pub returns-clause-gives : goal.returns-clause-gives
returns-clause-gives c =
    whole_gives c.args.r.now c.read_enums.new.r c.args.pool.now c.read_enums.new.pool c.args.left c.aggregate_count-first.result (all_lines c.args.lines.now) (all_lines c.in_ok-behind.behind.now)
    (aggregates_in c.read_structs.new.r.graph c.read_structs.new.pool, all_lines c.in_ok-rest.rest.now) c.requires c.in_ok-behind.ensures.gives c.in_ok-behind.ensures.read.adds c.aggregate_count-first.ensures c.in_ok-rest.ensures.gives
