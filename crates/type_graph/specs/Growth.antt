-- Definition: how arenas grow: nodes and aggregates are added, and incomplete aggregates get members. What stood before stays.
use Rattle.std.specs.Prelude.{◌≡◌, ℕ, ◌≤◌, ◌<◌, List, [], ◌∷◌, ◌++◌, Some, length, slice_get, slice_set}
use Rattle.std.specs.Option.{option_map}
use Rattle.cil_base.specs.declared.numbers.AggId.{AggId}
use Rattle.cil_base.specs.declared.numbers.NameId.{NameId}
use Rattle.type_graph.specs.declared.aggregates.Member.{Member}
use Rattle.type_graph.specs.declared.aggregates.Aggregate.{Aggregate}
use Rattle.type_graph.specs.declared.nodes.Node.{Node}
use Rattle.type_graph.specs.Renaming.{renamed_members}
use Rattle.type_graph.specs.Arena.{Graph}

-- an aggregate keeps its kind, its tag and the members that it has
pub record AggGrows (old new : Aggregate) : Type 0 where
  pub kind : new.kind ≡ old.kind
  pub tag : new.tag ≡ old.tag
  pub members : (ms : List Member) → old.members ≡ Some ms → new.members ≡ Some ms

pub record Grows (old new : Graph) : Type 0 where
  pub abi : new.abi ≡ old.abi
  pub nodes : (more : List Node) × (new.nodes ≡ old.nodes ++ more)
  pub more_aggs : length old.aggs ≤ length new.aggs
  pub aggs : (a : ℕ) (x : Aggregate) → slice_get old.aggs a ≡ Some x → (y : Aggregate) × (slice_get new.aggs a ≡ Some y) × AggGrows x y
  pub completed : (more : List AggId) × (new.completed ≡ old.completed ++ more)

-- the aggregates, and the order in which they were completed, stay
abbrev pub KeepsAggregates : Graph → Graph → Type 0
KeepsAggregates old new = (new.aggs ≡ old.aggs) × (new.completed ≡ old.completed)

-- a node is asked for: a known one keeps its number, a new one gets the next
pub record AddsNode (old new : Graph) (n : Node) (t : ℕ) : Type 0 where
  pub number : slice_get new.nodes t ≡ Some n
  pub known : (s : ℕ) → slice_get old.nodes s ≡ Some n → new ≡ old
  pub fresh : length old.nodes ≤ t → new ≡ record old { nodes = old.nodes ++ n ∷ [] }

-- the arena gained no type but this one, or none
pub record GainsOnly (old new : Graph) (t : ℕ) : Type 0 where
  pub only : (v : ℕ) → length old.nodes ≤ v → v < length new.nodes → v ≡ t

-- an incomplete aggregate goes last
abbrev pub with_agg : Graph → Aggregate → Graph
with_agg g x = record g { aggs = g.aggs ++ x ∷ [] }

-- an aggregate gets its members
abbrev pub with_members : Graph → AggId → Aggregate → List Member → Graph
with_members g a x ms = record g { aggs = slice_set g.aggs a.0 (record x { members = Some ms }); completed = g.completed ++ a ∷ [] }

-- an aggregate under a new tag, with new names of its members
abbrev pub renamed : Aggregate → NameId → List NameId → Aggregate
renamed x tag names = record x { tag = Some tag; members = option_map (λ ms. renamed_members ms names) x.members }
