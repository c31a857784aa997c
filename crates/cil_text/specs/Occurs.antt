-- Definition: when a program has no other types than an equal one (own).
use Rattle.std.specs.Prelude.{◌≡◌, ℕ, ◌<◌, true, length}
use Rattle.std.specs.List.{list_all}
use Rattle.type_graph.specs.Shapes.{shape}
use Rattle.cil_tree.specs.Tree.{Program}
use Rattle.cil_tree.specs.WellFormedTypes.{members_are_unqualified}

-- each type of the second is one of the first, and members of the second have no qualifiers
pub record Occurs (p q : Program) : Type 0 where
  pub types : (t : ℕ) → t < length q.graph.nodes → (s : ℕ) × (s < length p.graph.nodes) × (shape p.graph.nodes s ≡ shape q.graph.nodes t)
  pub unqualified : list_all members_are_unqualified q.graph.aggs ≡ true
