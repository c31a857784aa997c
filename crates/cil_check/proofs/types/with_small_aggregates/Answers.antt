use Rattle.std.proofs.Common.{refl}
use Rattle.cil_check.proofs.TypeRules.{sizes_tell}
use Rattle.cil_check.proofs.types.with_small_aggregates.Goals as goal

pub returns-then-aggregates_fit-clause-exact : goal.returns-then-aggregates_fit-clause-exact
returns-then-aggregates_fit-clause-exact c =
    (λ e. (sizes_tell c.args.g.now c.aggregates_fit.result c.requires.rules c.requires.step.fit c.aggregates_fit.ensures).0 c.if-aggregates_fit.true, λ r. refl)
