use Rattle.c_tree.specs.UnitView.{block_item_of}
use Rattle.c_tree.specs.UnitSpelling.{spell_block_item}
use Rattle.c_speller.specs.Added.{AddedSoFar}
use Rattle.c_speller.proofs.unit_speller.+spelled_block.Given as goal

abbrev pub invariant-put_block-loop-x : goal.invariant-put_block-loop-x
invariant-put_block-loop-x l = AddedSoFar l.from.names.now l.fn.out l.out (λ x. spell_block_item (block_item_of x)) l.xs l.x-index
