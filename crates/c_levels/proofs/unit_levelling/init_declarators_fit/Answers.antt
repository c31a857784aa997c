use Rattle.c_tree.specs.UnitView.{init_declarator_of}
use Rattle.c_tree.specs.Levels.{levelled_init_declarator}
use Rattle.c_tree.proofs.ToldLemmas.{all_step}
use Rattle.c_levels.proofs.unit_levelling.init_declarators_fit.Goals as goal

pub loop-x-preserved : goal.loop-x-preserved
loop-x-preserved c = all_step (λ x. levelled_init_declarator (init_declarator_of x)) c.args.xs.now c.loop-x.x-index c.loop-x.all c.init_declarator_fits.result c.both-all.result c.x-item.result c.loop-x-test.true c.x-item.is c.init_declarator_fits.ensures c.both-all.ensures.is c.loop-x.invariant
