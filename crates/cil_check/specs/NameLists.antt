-- Device: the names of a program by number.
use Rattle.std.specs.Prelude.{ℕ, ◌<◌, List, [], ◌∷◌, ◌++◌, Some, None, map, if◌then◌else◌}
use Rattle.cil_base.specs.declared.numbers.NameId.{NameId}
use Rattle.type_graph.specs.declared.aggregates.Aggregate.{Aggregate}
use Rattle.type_graph.specs.declared.aggregates.Member.{Member}
use Rattle.cil_tree.specs.declared.globals.GlobalDecl.{GlobalDecl}
use Rattle.cil_tree.specs.declared.globals.Local.{Local}
use Rattle.cil_tree.specs.Typing.{is_enum}

abbrev pub number : NameId → ℕ
number n = n.0

abbrev pub member_id : Member → NameId
member_id m = m.name

abbrev pub global_id : GlobalDecl → NameId
global_id x = x.name

abbrev pub local_id : Local → NameId
local_id x = x.name

abbrev pub member_ids : Aggregate → List NameId
member_ids x = elim x.members [ None ↦ [] | Some ms ↦ map member_id ms ]

abbrev pub enumerator_ids_of : Aggregate → List NameId
enumerator_ids_of x = if is_enum x.kind then member_ids x else []

abbrev pub enumerator_ids : List Aggregate → List NameId
enumerator_ids [] = []
enumerator_ids (x ∷ xs) = enumerator_ids_of x ++ enumerator_ids xs

abbrev pub tag_ids_of : Aggregate → List NameId
tag_ids_of x = elim x.tag [ None ↦ [] | Some n ↦ n ∷ [] ]

abbrev pub tag_ids : List Aggregate → List NameId
tag_ids [] = []
tag_ids (x ∷ xs) = tag_ids_of x ++ tag_ids xs

-- the numbers are those of names of a pool with so many texts
abbrev pub AllIn : ℕ → List NameId → Type 0
AllIn n [] = Unit {0}
AllIn n (x ∷ xs) = (x.0 < n) × AllIn n xs
