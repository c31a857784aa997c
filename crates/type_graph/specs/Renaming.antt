-- Definition: members under other names.
use Rattle.std.specs.Prelude.{List, [], ◌∷◌}
use Rattle.cil_base.specs.declared.numbers.NameId.{NameId}
use Rattle.type_graph.specs.declared.aggregates.Member.{Member}

abbrev pub renamed_members : List Member → List NameId → List Member
renamed_members [] names = []
renamed_members (m ∷ ms) [] = m ∷ ms
renamed_members (m ∷ ms) (n ∷ names) = record m { name = n } ∷ renamed_members ms names
