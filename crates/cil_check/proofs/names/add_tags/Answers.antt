use Rattle.cil_check.specs.NameLists.{tag_ids}
use Rattle.std.proofs.Common.{◌++◌}
use Rattle.cil_check.proofs.NameSteps.{tags_grow}
use Rattle.cil_check.proofs.names.add_tags.Goals as goal

pub loop-a-preserved : goal.loop-a-preserved
loop-a-preserved c = tags_grow c.args.g.now.aggs c.loop-a.a c.agg.result.now c.add_tag.new.ids.items c.loop-a.ids.items (c.args.ids.now.items ++ tag_ids c.args.g.now.aggs) c.agg.ensures c.in_ok-add_tag.ensures c.loop-a.invariant
