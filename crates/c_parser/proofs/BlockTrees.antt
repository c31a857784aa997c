-- The tree of a block's items, from the items that were read.
use Rattle.std.proofs.Common.{◌≡◌, refl, ap, List, [], ◌∷◌, map}
use Rattle.c_tree.specs.declared.statement.BlockItem.{BlockItem}
use Rattle.c_tree.specs.Units as plain
use Rattle.c_tree.specs.UnitView.{block_item_of, block_of}
use Rattle.c_parser.specs.StatementReading.{block_items}

pub seen_items : (xs : List BlockItem) → block_items (map block_item_of xs) ≡ block_of xs
seen_items [] = refl
seen_items (x ∷ xs) = ap (plain.MoreItems (block_item_of x)) (seen_items xs)
