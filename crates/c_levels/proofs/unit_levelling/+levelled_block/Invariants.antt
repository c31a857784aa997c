use Rattle.c_tree.specs.Told.{AllSoFar}
use Rattle.c_tree.specs.UnitView.{block_item_of}
use Rattle.c_tree.specs.Levels.{levelled_block_item}
use Rattle.c_levels.proofs.unit_levelling.+levelled_block.Given as goal

abbrev pub invariant-block_fits-loop-x : goal.invariant-block_fits-loop-x
invariant-block_fits-loop-x l = AllSoFar (λ x. levelled_block_item (block_item_of x)) l.xs l.x-index l.all
