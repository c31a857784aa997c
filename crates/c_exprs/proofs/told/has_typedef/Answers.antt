use Rattle.c_tree.specs.View.{specifier_of}
use Rattle.c_tree.specs.Scoped.{is_typedef}
use Rattle.c_exprs.proofs.SomeLemmas.{some_step}
use Rattle.c_exprs.proofs.told.has_typedef.Goals as goal

pub loop-x-preserved : goal.loop-x-preserved
loop-x-preserved c = some_step (λ s. is_typedef (specifier_of s)) c.args.xs.now c.loop-x.x-index c.loop-x.some c.is_typedef.result c.either-some.result c.x-item.result c.loop-x-test.true c.x-item.is c.is_typedef.ensures c.either-some.ensures c.loop-x.invariant
