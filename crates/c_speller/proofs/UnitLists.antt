-- The tokens of each list of declarations, block items and external declarations, as its loop puts them.
use Rattle.std.proofs.Common.{◌≡◌, refl, ◌∙◌, ap, subst, ℕ, ◌≤◌, Bool, List, [], ◌∷◌, ◌++◌, map, length}
use Rattle.c_speller.specs.declared.spelled.TokenSink.{TokenSink}
use Rattle.c_tree.specs.declared.statement.InitDeclarator.{InitDeclarator}
use Rattle.c_tree.specs.declared.statement.Declaration.{Declaration}
use Rattle.c_tree.specs.declared.statement.BlockItem.{BlockItem}
use Rattle.c_tree.specs.declared.statement.ExtDecl.{ExtDecl}
use Rattle.c_tree.specs.UnitView.{init_declarator_of, declaration_of, block_item_of, block_of, external_of}
use Rattle.c_tree.specs.Spelling.{with_commas}
use Rattle.c_tree.specs.UnitSpelling.{spell_init_declarator, spell_declaration, spell_declarations, spell_block_item, spell_block, spell_external, spell_unit}
use Rattle.c_speller.specs.Added.{Adds, flat_of, AddedSoFar, CommasSoFar}
use Rattle.c_speller.proofs.AddedLemmas.{added_end, commas_end, between_all}

each_init_declarator : (xs : List InitDeclarator) → map (λ x. spell_init_declarator (init_declarator_of x)) xs ≡ map spell_init_declarator (map init_declarator_of xs)
each_init_declarator [] = refl
each_init_declarator (x ∷ xs) = ap (λ z. spell_init_declarator (init_declarator_of x) ∷ z) (each_init_declarator xs)

pub init_declarators_end : (names : List (List ℕ)) (old new : TokenSink) (xs : List InitDeclarator) (i : ℕ) (is_more : Bool) → length xs ≤ i → CommasSoFar names old new (λ x. spell_init_declarator (init_declarator_of x)) xs i is_more
    → Adds names old new (with_commas (map spell_init_declarator (map init_declarator_of xs)))
init_declarators_end names old new xs i is_more le w =
    subst (λ ts. Adds names old new ts) (between_all (λ x. spell_init_declarator (init_declarator_of x)) xs ∙ ap with_commas (each_init_declarator xs)) (commas_end names old new (λ x. spell_init_declarator (init_declarator_of x)) xs i is_more le w)

flat_declarations : (xs : List Declaration) → flat_of (λ x. spell_declaration (declaration_of x)) xs ≡ spell_declarations (map declaration_of xs)
flat_declarations [] = refl
flat_declarations (x ∷ xs) = ap (λ z. spell_declaration (declaration_of x) ++ z) (flat_declarations xs)

pub declarations_end : (names : List (List ℕ)) (old new : TokenSink) (xs : List Declaration) (i : ℕ) → length xs ≤ i → AddedSoFar names old new (λ x. spell_declaration (declaration_of x)) xs i → Adds names old new (spell_declarations (map declaration_of xs))
declarations_end names old new xs i le w = subst (λ ts. Adds names old new ts) (flat_declarations xs) (added_end names old new (λ x. spell_declaration (declaration_of x)) xs i le w)

flat_block : (xs : List BlockItem) → flat_of (λ x. spell_block_item (block_item_of x)) xs ≡ spell_block (block_of xs)
flat_block [] = refl
flat_block (x ∷ xs) = ap (λ z. spell_block_item (block_item_of x) ++ z) (flat_block xs)

pub block_end : (names : List (List ℕ)) (old new : TokenSink) (xs : List BlockItem) (i : ℕ) → length xs ≤ i → AddedSoFar names old new (λ x. spell_block_item (block_item_of x)) xs i → Adds names old new (spell_block (block_of xs))
block_end names old new xs i le w = subst (λ ts. Adds names old new ts) (flat_block xs) (added_end names old new (λ x. spell_block_item (block_item_of x)) xs i le w)

flat_externals : (xs : List ExtDecl) → flat_of (λ x. spell_external (external_of x)) xs ≡ spell_unit (map external_of xs)
flat_externals [] = refl
flat_externals (x ∷ xs) = ap (λ z. spell_external (external_of x) ++ z) (flat_externals xs)

pub externals_end : (names : List (List ℕ)) (old new : TokenSink) (xs : List ExtDecl) (i : ℕ) → length xs ≤ i → AddedSoFar names old new (λ x. spell_external (external_of x)) xs i → Adds names old new (spell_unit (map external_of xs))
externals_end names old new xs i le w = subst (λ ts. Adds names old new ts) (flat_externals xs) (added_end names old new (λ x. spell_external (external_of x)) xs i le w)
