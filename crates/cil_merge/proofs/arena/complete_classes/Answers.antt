use Rattle.std.proofs.Common.{map}
use Rattle.type_graph.proofs.GrowthLaws.{grows_none}
use Rattle.cil_merge.proofs.ClassLaws.{begun_on_way}
use Rattle.cil_merge.proofs.arena.complete_classes.Goals as goal

pub loop-k-init : goal.loop-k-init
loop-k-init c = (begun_on_way c.args.units.now (map (λ v. v.items) c.args.types.now) c.args.stands.now c.args.graph.now.aggs c.requires, grows_none c.args.graph.now)
