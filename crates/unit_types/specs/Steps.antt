-- Definition: what a step of building types gives, and when it stops.
use Rattle.std.specs.Prelude.{◌≡◌, ℕ, ◌<◌, true, false, List, Some, None, length, slice_get}
use Rattle.cil_base.specs.declared.numbers.AggId.{AggId}
use Rattle.type_graph.specs.declared.aggregates.Aggregate.{Aggregate}
use Rattle.type_graph.specs.declared.aggregates.Member.{Member}
use Rattle.type_graph.specs.declared.nodes.Node.{Node}
use Rattle.type_graph.specs.Arena.{Graph, IsArena, NamesBelow, HasKind, members_of, members_fit}
use Rattle.type_graph.specs.Shapes.{Shape, shape}
use Rattle.type_graph.specs.Growth.{Grows, KeepsAggregates, AddsNode, GainsOnly, with_members}
use Rattle.type_compat.specs.Parts.{GainsParts}
use Rattle.layout_lp64.specs.declared.layouts.LayoutStop.{LayoutStop}
use Rattle.layout_lp64.specs.declared.layouts.LayoutStop.TheVariants.{TooBig, Memory}
use Rattle.layout_lp64.specs.Tables.{IsLeastTooBig}
use Rattle.unit_types.specs.Normal.{normal_node, normal_members}

-- a type may be asked for: its parts are there, its kind is one of the data model, and the type that it names is no qualified array or function
pub record IsAsked (g : Graph) (n : Node) : Type 0 where
  pub names : NamesBelow (length g.nodes) (length g.aggs) n
  pub kind : HasKind g.abi n
  pub form : normal_node g.nodes n ≡ true

-- a type of that shape was made: it has this number; the arena gained no other
pub record Makes (old new : Graph) (s : Shape) (t : ℕ) : Type 0 where
  pub there : t < length new.nodes
  pub is : shape new.nodes t ≡ s
  pub grows : Grows old new
  pub aggregates : KeepsAggregates old new
  pub only : GainsOnly old new t

-- a type was asked for, and the arena with it has a type that is too big: the least one is this
pub record IsTooBigWith (old : Graph) (n : Node) (t : ℕ) : Type 0 where
  pub arena : Graph
  pub number : ℕ
  pub is : IsArena arena
  pub grows : Grows old arena
  pub adds : AddsNode old arena n number
  pub least : IsLeastTooBig arena t

-- then the least one is named; want of memory says nothing
abbrev pub StopsWith : Graph → Node → LayoutStop → Type 0
StopsWith old n (TooBig t) = IsTooBigWith old n t.0
StopsWith old n Memory = Unit {0}

-- a type of that shape was made, behind parts of it alone, and the arena has a type that is too big: the least one is this
pub record IsTooBigMade (old : Graph) (s : Shape) (t : ℕ) : Type 0 where
  pub arena : Graph
  pub number : ℕ
  pub grows : Grows old arena
  pub aggregates : KeepsAggregates old arena
  pub there : number < length arena.nodes
  pub is : shape arena.nodes number ≡ s
  pub gains : GainsParts old arena s
  pub least : IsLeastTooBig arena t

-- then the least one is named; want of memory says nothing
abbrev pub StopsMaking : Graph → Shape → LayoutStop → Type 0
StopsMaking old s (TooBig t) = IsTooBigMade old s t.0
StopsMaking old s Memory = Unit {0}

-- an aggregate may be completed with these members (C11 6.7.2.1p3, p18)
pub record MayComplete (g : Graph) (a : AggId) (ms : List Member) : Type 0 where
  pub there : a.0 < length g.aggs
  pub incomplete : members_of g.aggs a.0 ≡ None
  pub fit : (x : Aggregate) → slice_get g.aggs a.0 ≡ Some x → members_fit g x.kind false ms ≡ true
  pub normal : normal_members g ms ≡ true

-- an aggregate was to be completed, and then a type were too big: the least one is named; want of memory says nothing
abbrev pub StopsCompleting : Graph → AggId → List Member → LayoutStop → Type 0
StopsCompleting old a ms (TooBig t) = (x : Aggregate) × (slice_get old.aggs a.0 ≡ Some x) × IsLeastTooBig (with_members old a x ms) t.0
StopsCompleting old a ms Memory = Unit {0}
