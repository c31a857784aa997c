-- Definition: aggregates in another arena: each complete one has there, under its other number, its kind and members of the mapped types in order.
use Rattle.std.specs.Prelude.{◌≡◌, ℕ, Bool, List, [], ◌∷◌, Option, Some, None, slice_get}
use Rattle.type_graph.specs.declared.aggregates.Member.{Member}
use Rattle.type_graph.specs.declared.aggregates.Aggregate.{Aggregate}
use Rattle.type_graph.specs.Shapes.{shape}
use Rattle.type_graph.specs.Arena.{Graph}
use Rattle.map_graph.specs.Mapped.{mapped_shape}

-- members in order, each of the mapped type
abbrev pub MapsMembers : Graph → Graph → (ℕ → ℕ) → Bool → List Member → List Member → Type 0
MapsMembers first second f keep [] [] = Unit {0}
MapsMembers first second f keep [] (n ∷ ns) = ⊥
MapsMembers first second f keep (m ∷ ms) [] = ⊥
MapsMembers first second f keep (m ∷ ms) (n ∷ ns) = (shape second.nodes n.ty.of.0 ≡ mapped_shape f keep (shape first.nodes m.ty.of.0)) × MapsMembers first second f keep ms ns

pub record MapsAggregates (first second : Graph) (f : ℕ → ℕ) (keep : Bool) : Type 0 where
  pub abi : second.abi ≡ first.abi
  pub each : (a : ℕ) (x : Aggregate) (ms : List Member) → slice_get first.aggs a ≡ Some x → x.members ≡ Some ms → (y : Aggregate) × (ns : List Member) × (slice_get second.aggs (f a) ≡ Some y) × (y.kind ≡ x.kind) × (y.members ≡ Some ns) × MapsMembers first second f keep ms ns

-- what is there is there again
abbrev pub Stays : {T : Type 0} → Option T → Option T → Type 0
Stays {T} o u = (x : T) → o ≡ Some x → u ≡ Some x
