use Rattle.c_tree.specs.UnitView.{block_item_of}
use Rattle.c_tree.specs.Levels.{levelled_block_item}
use Rattle.c_tree.proofs.ToldLemmas.{all_step}
use Rattle.c_levels.proofs.unit_levelling.+levelled_block.Goals as goal

pub block_fits-loop-x-preserved : goal.block_fits-loop-x-preserved
block_fits-loop-x-preserved t c = all_step (λ x. levelled_block_item (block_item_of x)) c.args.xs.now c.loop-x.x-index c.loop-x.all c.block_item_fits.result c.both-all.result c.x-item.result c.loop-x-test.true c.x-item.is c.block_item_fits.ensures c.both-all.ensures.is c.loop-x.invariant
