use Rattle.std.proofs.Common.{rules, ◌≡◌, true}
use Rattle.cil_check.specs.Rules.{aggregate_fits_at}
use Rattle.cil_check.proofs.TypeSteps.{one_more}
use Rattle.cil_check.proofs.aggregates.aggregates_fit.Goals as goal

pub loop-a-preserved : goal.loop-a-preserved
loop-a-preserved c =
    let e : aggregate_fits_at c.args.g.now c.loop-a.a ≡ true = search rules in
    one_more (aggregate_fits_at c.args.g.now) c.loop-a.a c.loop-a.invariant e
