-- Declarations, statements and units: the tree of a block from its items, and the greatest and the tests of lists.
use Rattle.std.proofs.Common.{◌≡◌, refl, sym, ◌∙◌, ap, ℕ, max, Bool, true, false, ◌&&◌, not, nat_eq, List, [], ◌∷◌, map, length, Vec, Global}
use Rattle.c_tree.specs.declared.statement.InitDeclarator.{InitDeclarator}
use Rattle.c_tree.specs.declared.statement.Declaration.{Declaration}
use Rattle.c_tree.specs.declared.statement.Stmt.{Stmt}
use Rattle.c_tree.specs.declared.statement.Stmt.TheVariants.{Compound}
use Rattle.c_tree.specs.declared.statement.ExtDecl.{ExtDecl}
use Rattle.c_tree.specs.declared.statement.BlockItem.{BlockItem}
use Rattle.c_tree.specs.declared.statement.BlockItem.TheBlock.{Row_of-BlockItem, end_of-BlockItem, more_of-BlockItem, items-the_row-BlockItem, hidden-the_row-BlockItem-0, items_hidden-the_row-BlockItem-0}
use Rattle.c_tree.specs.Units as plain
use Rattle.c_tree.specs.UnitView.{init_declarator_of, declaration_of, stmt_of, block_item_of, block_row, block_of, external_of}
use Rattle.c_tree.specs.Height.{init_declarator_height, init_declarators_height, declaration_height, declarations_height, item_of_block_height, block_height}
use Rattle.c_tree.specs.Levels.{levelled_init_declarator, levelled_init_declarators, levelled_declaration, levelled_declarations, levelled_block_item, levelled_block, levelled_external, levelled_externals, has_some}
use Rattle.c_tree.specs.Capped.{most_of}
use Rattle.c_tree.specs.Told.{told, all_of}
use Rattle.c_tree.proofs.ToldLemmas.{told_is, some_is}

row_block : {n : _} (k : Row_of-BlockItem n) → block_row k ≡ block_of (items-the_row-BlockItem n k)
row_block end_of-BlockItem = refl
row_block (more_of-BlockItem x rest) = ap (plain.MoreItems (block_item_of x)) (row_block rest)

pub held_block : (v : Vec BlockItem Global) → block_row (hidden-the_row-BlockItem-0 v) ≡ block_of v.items
held_block v = row_block (hidden-the_row-BlockItem-0 v) ∙ ap block_of (items_hidden-the_row-BlockItem-0 v)

pub at_compound : (x : Stmt) (at : ℕ) (v : Vec BlockItem Global) (xs : List BlockItem) → x ≡ Compound at v → xs ≡ v.items → stmt_of x ≡ plain.Compound at (block_of xs)
at_compound x at v xs is same = ap stmt_of is ∙ ap (plain.Compound at) (held_block v ∙ ap block_of (sym same))

pub most_init_declarators : (xs : List InitDeclarator) → most_of (λ d. init_declarator_height (init_declarator_of d)) xs ≡ init_declarators_height (map init_declarator_of xs)
most_init_declarators [] = refl
most_init_declarators (x ∷ xs) = ap (max (init_declarator_height (init_declarator_of x))) (most_init_declarators xs)

pub most_declarations : (xs : List Declaration) → most_of (λ d. declaration_height (declaration_of d)) xs ≡ declarations_height (map declaration_of xs)
most_declarations [] = refl
most_declarations (x ∷ xs) = ap (max (declaration_height (declaration_of x))) (most_declarations xs)

pub most_block : (xs : List BlockItem) → most_of (λ i. item_of_block_height (block_item_of i)) xs ≡ block_height (block_of xs)
most_block [] = refl
most_block (x ∷ xs) = ap (max (item_of_block_height (block_item_of x))) (most_block xs)

pub all_init_declarators : (xs : List InitDeclarator) → all_of (λ x. levelled_init_declarator (init_declarator_of x)) xs ≡ levelled_init_declarators (map init_declarator_of xs)
all_init_declarators [] = refl
all_init_declarators (x ∷ xs) = ap (λ b. levelled_init_declarator (init_declarator_of x) && b) (all_init_declarators xs)

pub all_declarations : (xs : List Declaration) → all_of (λ x. levelled_declaration (declaration_of x)) xs ≡ levelled_declarations (map declaration_of xs)
all_declarations [] = refl
all_declarations (x ∷ xs) = ap (λ b. levelled_declaration (declaration_of x) && b) (all_declarations xs)

pub all_block : (xs : List BlockItem) → all_of (λ x. levelled_block_item (block_item_of x)) xs ≡ levelled_block (block_of xs)
all_block [] = refl
all_block (x ∷ xs) = ap (λ b. levelled_block_item (block_item_of x) && b) (all_block xs)

pub all_externals : (xs : List ExtDecl) → all_of (λ x. levelled_external (external_of x)) xs ≡ levelled_externals (map external_of xs)
all_externals [] = refl
all_externals (x ∷ xs) = ap (λ b. levelled_external (external_of x) && b) (all_externals xs)

pub some_externals : (xs : List ExtDecl) (e : Bool) → e ≡ nat_eq (length xs) 0 → not e ≡ told (has_some (map external_of xs))
some_externals [] e is = told_is (not e) false (ap not is)
some_externals (x ∷ xs) e is = told_is (not e) true (ap not (is ∙ some_is (length xs)))
