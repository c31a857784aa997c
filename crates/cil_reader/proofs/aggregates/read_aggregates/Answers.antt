use Rattle.std.proofs.Common.{◌≡◌, true, rules}
use Rattle.std.specs.List.{list_all}
use Rattle.cil_tree.specs.WellFormedTypes.{has_member}
use Rattle.cil_reader.proofs.AddedMembers.{whole_added, added_model}
use Rattle.cil_reader.proofs.aggregates.read_aggregates.Goals as goal

pub returns-clause-model : goal.returns-clause-model
returns-clause-model c = added_model c.args.r.now.graph c.read_placed.new.r.graph c.args.pool.now c.read_placed.new.pool c.in_ok-rest.ensures.adds

pub returns-clause-adds : goal.returns-clause-adds
returns-clause-adds c =
    let filled : list_all has_member c.read_placed.new.r.graph.aggs ≡ true = search rules in
    whole_added c.args.r.now.graph c.read_placed.new.r.graph c.args.pool.now c.read_placed.new.pool c.in_ok-rest.ensures.adds filled
