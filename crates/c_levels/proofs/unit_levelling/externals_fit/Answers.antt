use Rattle.c_tree.specs.UnitView.{external_of}
use Rattle.c_tree.specs.Levels.{levelled_external}
use Rattle.c_tree.proofs.ToldLemmas.{all_step}
use Rattle.c_levels.proofs.unit_levelling.externals_fit.Goals as goal

pub loop-x-preserved : goal.loop-x-preserved
loop-x-preserved c = all_step (λ x. levelled_external (external_of x)) c.args.xs.now c.loop-x.x-index c.loop-x.all c.external_fits.result c.both-all.result c.x-item.result c.loop-x-test.true c.x-item.is c.external_fits.ensures c.both-all.ensures.is c.loop-x.invariant
