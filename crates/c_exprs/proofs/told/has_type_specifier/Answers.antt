use Rattle.c_tree.specs.View.{specifier_of}
use Rattle.c_tree.specs.Scoped.{names_type}
use Rattle.c_exprs.proofs.SomeLemmas.{some_step}
use Rattle.c_exprs.proofs.told.has_type_specifier.Goals as goal

pub loop-x-preserved : goal.loop-x-preserved
loop-x-preserved c = some_step (λ s. names_type (specifier_of s)) c.args.xs.now c.loop-x.x-index c.loop-x.some c.names_type.result c.either-some.result c.x-item.result c.loop-x-test.true c.x-item.is c.names_type.ensures c.either-some.ensures c.loop-x.invariant
