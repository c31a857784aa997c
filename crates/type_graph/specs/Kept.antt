-- Device: the members that are kept, as a list.
use Rattle.std.specs.Prelude.{List}
use Rattle.type_graph.specs.declared.aggregates.Member.{Member}
use Rattle.type_graph.specs.declared.aggregates.Kept.{Kept}
use Rattle.type_graph.specs.declared.aggregates.Kept.TheVariants.{One, Two, Any}

abbrev pub members_in : Kept → List Member
members_in (One members) = members
members_in (Two members) = members
members_in (Any members) = members.items
