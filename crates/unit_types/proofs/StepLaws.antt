-- Device: layouts follow an arena that grows.
use Rattle.std.proofs.Common.{◌≡◌, ℕ, ◌<◌, ◌≤◌, false, List, Some, length, slice_get, ap, sym, subst, inl, inr, arith}
use Rattle.type_graph.specs.Shapes.{Shape, shape}
use Rattle.type_graph.specs.Arena.{Graph, IsArena, complete, complete_shape, flexible_shape}
use Rattle.cil_base.specs.declared.numbers.AggId.{AggId}
use Rattle.type_graph.specs.declared.aggregates.Aggregate.{Aggregate}
use Rattle.type_graph.specs.declared.aggregates.Member.{Member}
use Rattle.type_graph.specs.declared.nodes.Node.{Node}
use Rattle.type_graph.specs.Growth.{Grows, KeepsAggregates, AddsNode, with_members}
use Rattle.type_graph.proofs.Lists.{get_there}
use Rattle.type_graph.proofs.GrowthLaws.{added_as}
use Rattle.type_graph.proofs.ShapeLaws.{shape_past}
use Rattle.type_compat.specs.Parts.{GainsParts}
use Rattle.layout_lp64.specs.declared.layouts.Layouts.{Layouts}
use Rattle.layout_lp64.specs.declared.layouts.LayoutStop.{LayoutStop}
use Rattle.layout_lp64.specs.declared.layouts.LayoutStop.TheVariants.{TooBig, Memory}
use Rattle.layout_lp64.specs.Stops.{StopsAt}
use Rattle.layout_lp64.specs.Tables.{InStep, WereInStep, IsLeastTooBig}
use Rattle.unit_types.specs.Steps.{StopsWith, StopsMaking, StopsCompleting}

pub were_in_step : (l : Layouts) (g h : Graph) → InStep l g → IsArena g → Grows g h → WereInStep l h
were_in_step l g h step w grows = record { before = g; arena = w; step = step; grows = grows }

-- where a known type is asked for, the arena stays
kept_as : (g h : Graph) (n : Node) (t : ℕ) → Grows g h → AddsNode g h n t → t < length g.nodes → h ≡ g
kept_as g h n t grows adds there = elim (added_as g h n t grows adds) as (λ _. h ≡ g) [ inl same ↦ same | inr new ↦ absurd (omega (arith, new.1, there)) ]

pub still_in_step : (l : Layouts) (g h : Graph) (n : Node) (t : ℕ) → InStep l g → Grows g h → AddsNode g h n t → t < length g.nodes → InStep l h
still_in_step l g h n t step grows adds there = subst (InStep l) (sym (kept_as g h n t grows adds there)) step

-- what is beyond the types is no complete type
pub complete_past : (g : Graph) (t : ℕ) → length g.nodes ≤ t → complete g t ≡ false
complete_past g t h = ap (complete_shape g.aggs) (shape_past g.nodes t h)

-- the arena with the type that was asked for has a type that is too big
pub stops_added : (old g : Graph) (n : Node) (k : ℕ) (e : LayoutStop) → IsArena g → Grows old g → AddsNode old g n k → StopsAt g e → StopsWith old n e
stops_added old g n k (TooBig t) arena grows adds stops = record { arena = g; number = k; is = arena; grows = grows; adds = adds; least = stops }
stops_added old g n k Memory arena grows adds stops = tt

-- the arena with the type that was made has a type that is too big
pub stops_made : (old g : Graph) (s : Shape) (k : ℕ) (e : LayoutStop) → Grows old g → KeepsAggregates old g → k < length g.nodes → GainsParts old g (shape g.nodes k) → shape g.nodes k ≡ s → StopsAt g e → StopsMaking old s e
stops_made old g s k (TooBig t) grows aggregates there gains is stops = record { arena = g; number = k; grows = grows; aggregates = aggregates; there = there; is = is; gains = subst (GainsParts old g) is gains; least = stops }
stops_made old g s k Memory grows aggregates there gains is stops = tt

pub flexible_past : (g : Graph) (t : ℕ) → length g.nodes ≤ t → flexible_shape g.aggs (shape g.nodes t) ≡ false
flexible_past g t h = ap (flexible_shape g.aggs) (shape_past g.nodes t h)

-- the arena with the aggregate completed has a type that is too big
pub stops_completed : (g h : Graph) (a : AggId) (ms : List Member) (e : LayoutStop) → a.0 < length g.aggs → ((x : Aggregate) → slice_get g.aggs a.0 ≡ Some x → h ≡ with_members g a x ms) → StopsAt h e → StopsCompleting g a ms e
stops_completed g h a ms (TooBig t) there is stops =
    let x = get_there g.aggs a.0 there in
    (x.0, x.1, subst (λ (p : Graph). IsLeastTooBig p t.0) (is x.0 x.1) stops)
stops_completed g h a ms Memory there is stops = tt
