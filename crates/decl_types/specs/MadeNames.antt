-- Definition: the names that members without a name of their own get (own).
use Rattle.std.specs.Prelude.{ℕ, List, ◌++◌, map, codes}
use Rattle.std.specs.Fmt.{decimal}
use Rattle.decl_types.specs.declared.made_names.MadeNames.{MadeNames}

-- the text `__m___k`
abbrev pub made_text : ℕ → List ℕ
made_text k = codes "__m___" ++ decimal k

-- the texts of those that no pool had before, in the order of their numbers
abbrev pub new_texts : MadeNames → List (List ℕ)
new_texts m = map made_text m.fresh.items
