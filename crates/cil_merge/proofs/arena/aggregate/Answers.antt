use Rattle.cil_merge.proofs.ClassLaws.{aggregate_is}
use Rattle.cil_merge.proofs.arena.aggregate.Goals as goal

pub returns : goal.returns
returns c = aggregate_is c.args.units.now c.args.u c.args.a c.in_ok-unit.unit.now c.agg.result.now c.in_ok-unit.ensures.is c.agg.ensures
