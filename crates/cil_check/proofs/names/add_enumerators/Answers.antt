use Rattle.cil_check.specs.NameLists.{enumerator_ids}
use Rattle.std.proofs.Common.{◌++◌}
use Rattle.cil_check.proofs.NameSteps.{enumerators_grow}
use Rattle.cil_check.proofs.names.add_enumerators.Goals as goal

pub loop-a-preserved : goal.loop-a-preserved
loop-a-preserved c = enumerators_grow c.args.g.now.aggs c.loop-a.a c.agg.result.now c.add_enumerators_of.new.ids.items c.loop-a.ids.items (c.args.ids.now.items ++ enumerator_ids c.args.g.now.aggs) c.agg.ensures c.in_ok-add_enumerators_of.ensures c.loop-a.invariant
