use Rattle.cil_reader.proofs.AggregateLaws.{tag_holds}
use Rattle.cil_reader.proofs.AddedMembers.{tag_added}
use Rattle.cil_reader.proofs.ReadLaws.{read_both}
use Rattle.cil_reader.proofs.aggregates.add_tag.Goals as goal

pub returns-clause-read : goal.returns-clause-read
returns-clause-read c =
    let holds = tag_holds c.args.r.now c.add_aggregate.new.self c.args.pool.now c.add_aggregate.new.pool c.args.first c.args.kind c.args.tag.now c.requires.holds c.requires.within c.add_aggregate.ensures.pool c.in_ok-_number.ensures.adds c.in_ok-_number.ensures.gives c.in_ok-_number.ensures.members in
    let adds = tag_added c.args.r.now c.add_aggregate.new.self c.args.pool.now c.add_aggregate.new.pool c.args.first c.args.kind c.args.tag.now c.requires.holds c.add_aggregate.ensures.pool c.in_ok-_number.ensures.adds in
    read_both c.args.r.now c.add_aggregate.new.self c.args.pool.now c.add_aggregate.new.pool c.args.first holds adds
