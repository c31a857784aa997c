use Rattle.c_tree.specs.Capped.{Highest}
use Rattle.c_tree.specs.UnitView.{block_item_of}
use Rattle.c_tree.specs.Height.{item_of_block_height}
use Rattle.c_height.proofs.unit_measure.+block.Given as goal

abbrev pub invariant-height_of_block-loop-x : goal.invariant-height_of_block-loop-x
invariant-height_of_block-loop-x l = Highest (λ i. item_of_block_height (block_item_of i)) l.xs l.x-index l.most
