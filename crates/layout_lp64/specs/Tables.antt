-- Definition: layouts are in step with an arena where they give each type the size and alignment, and each member the offset, that the arena defines; which type is too big.
use Rattle.std.specs.Prelude.{◌≡◌, ℕ, suc, ◌<◌, ◌≤◌, Bool, true, false, List, Option, Some, None, length, nat_lt, slice_get, slice_index, ◌⊎◌, if◌then◌else◌}
use Rattle.std.specs.Option.{option_map, option_and_then}
use Rattle.cil_base.specs.Limits.{object_bytes}
use Rattle.cil_base.specs.declared.numbers.AggId.{AggId}
use Rattle.type_graph.specs.declared.layout.Layout.{Layout}
use Rattle.type_graph.specs.declared.nodes.Node.TheVariants.{Agg}
use Rattle.type_graph.specs.Shapes.{shape}
use Rattle.type_graph.specs.Arena.{Graph, IsArena, rank}
use Rattle.type_graph.specs.Growth.{Grows}
use Rattle.type_graph.specs.Layouts.{AggLayout, agg_layout, layout, offset}
use Rattle.layout_lp64.specs.declared.layouts.Layouts.{Layouts}
use Rattle.layout_lp64.specs.declared.spans.Span.{Span}
use Rattle.layout_lp64.specs.declared.spans.Span.TheVariants.{Copies}
use Rattle.layout_lp64.specs.Capped.{capped_agg, span_shape, copies, resolve}

abbrev pub agg_found : List (Option AggLayout) → ℕ → Option AggLayout
agg_found aggs a = option_and_then (λ (o : Option AggLayout). o) (slice_get aggs a)

abbrev pub whole_found : List (Option AggLayout) → ℕ → Option Layout
whole_found aggs a = option_map (λ (l : AggLayout). l.whole) (agg_found aggs a)

abbrev pub offset_found : List (Option AggLayout) → ℕ → ℕ → Option ℕ
offset_found aggs a i = option_and_then (λ (x : AggLayout). slice_get x.offsets i) (agg_found aggs a)

-- the size and alignment that the layouts have for a type
abbrev pub found : Layouts → ℕ → Option Layout
found l t = option_and_then (resolve (whole_found l.aggs)) (slice_get l.spans t)

-- the offset that they have for a member
abbrev pub found_offset : Layouts → ℕ → ℕ → Option ℕ
found_offset l a i = offset_found l.aggs a i

-- the layout of an aggregate that is among the first i that were completed
abbrev pub known : Graph → ℕ → ℕ → Option AggLayout
known g i a = if nat_lt (rank g.completed a) i then option_map capped_agg (agg_layout g a) else None

-- the spans are those of the first types
pub record AreSpans (spans : List Span) (g : Graph) : Type 0 where
  pub count : length spans ≤ length g.nodes
  pub each : (t : ℕ) → t < length spans → slice_get spans t ≡ Some (span_shape g.abi (shape g.nodes t))

-- the tables are right for the first types and for the aggregates that were completed first
pub record AreTables (l : Layouts) (g : Graph) : Type 0 where
  pub spans : AreSpans l.spans g
  pub aggs_count : length l.aggs ≡ length g.aggs
  pub most_count : length l.most.items ≡ length g.aggs
  pub layouts : (a : ℕ) → agg_found l.aggs a ≡ known g l.completed a
  pub most : (t : ℕ) (a : AggId) (k : ℕ) → slice_get l.spans t ≡ Some (Copies a k) → k ≤ slice_index l.most.items a.0
  pub done : l.completed ≤ length g.completed

-- no type of the graph has more bytes than an object may have
pub record AllFit (g : Graph) : Type 0 where
  pub each : (t : ℕ) (x : Layout) → layout g t ≡ Some x → x.size ≤ object_bytes

-- no complete aggregate of the graph has more bytes than an object may have
pub record AggregatesFit (g : Graph) : Type 0 where
  pub each : (a : ℕ) (x : AggLayout) → agg_layout g a ≡ Some x → x.whole.size ≤ object_bytes

-- the layouts are those of the graph
pub record InStep (l : Layouts) (g : Graph) : Type 0 where
  pub sizes : (t : ℕ) → found l t ≡ layout g t
  pub offsets : (t : ℕ) (a : AggId) → slice_get g.nodes t ≡ Some (Agg a) → (i : ℕ) → found_offset l a.0 i ≡ offset g a.0 i
  pub fit : AllFit g
  pub tables : AreTables l g
  pub all_types : length l.spans ≡ length g.nodes
  pub all_aggs : l.completed ≡ length g.completed

-- the layouts were in step with a graph that grew to this one
pub record WereInStep (l : Layouts) (g : Graph) : Type 0 where
  pub before : Graph
  pub arena : IsArena before
  pub step : InStep l before
  pub grows : Grows before g

-- the least type with more bytes than an object may have
pub record IsLeastTooBig (g : Graph) (t : ℕ) : Type 0 where
  pub large : Layout
  pub is : layout g t ≡ Some large
  pub size : object_bytes < large.size
  pub least : (s : ℕ) (x : Layout) → s < t → layout g s ≡ Some x → x.size ≤ object_bytes

-- a layout has more bytes than an object may have
abbrev pub is_large : Option Layout → Bool
is_large None = false
is_large (Some x) = nat_lt object_bytes x.size

-- what is known of layouts that are to be divided by: no alignment is 0
pub record AreAligned (aggs : List (Option AggLayout)) : Type 0 where
  pub each : (a : ℕ) (x : Layout) → whole_found aggs a ≡ Some x → 0 < x.align

-- one more type has its span
pub record AddsSpan (old new : Layouts) (g : Graph) : Type 0 where
  pub tables : AreTables new g
  pub count : length new.spans ≡ suc (length old.spans)
  pub done : new.completed ≡ old.completed

-- one more aggregate has its layout
pub record AddsLayout (old new : Layouts) (g : Graph) : Type 0 where
  pub tables : AreTables new g
  pub count : length new.spans ≡ length old.spans
  pub done : new.completed ≡ suc old.completed

-- there are entries for all aggregates
pub record AddsAggs (old new : Layouts) (g : Graph) : Type 0 where
  pub tables : AreTables new g
  pub spans : new.spans ≡ old.spans
  pub done : new.completed ≡ old.completed

-- there are spans of all types
pub record AddsSpans (old new : Layouts) (g : Graph) : Type 0 where
  pub tables : AreTables new g
  pub all : length new.spans ≡ length g.nodes
  pub done : new.completed ≡ old.completed

-- there are layouts of all aggregates
pub record AddsLayouts (old new : Layouts) (g : Graph) : Type 0 where
  pub tables : AreTables new g
  pub all : length new.spans ≡ length g.nodes
  pub done : new.completed ≡ length g.completed

-- no type from the first on is too big
pub record TypesFit (l : Layouts) (first : ℕ) : Type 0 where
  pub each : (t : ℕ) → first ≤ t → t < length l.spans → is_large (found l t) ≡ false

-- no type made of an aggregate that was completed as the first or later is too big
pub record AggsFit (l : Layouts) (g : Graph) (first : ℕ) : Type 0 where
  pub each : (i : ℕ) (a : AggId) → first ≤ i → slice_get g.completed i ≡ Some a → is_large (option_map (copies (slice_index l.most.items a.0)) (whole_found l.aggs a.0)) ≡ false

-- no type is too big, or none that is new
abbrev pub FitsOrNew : Layouts → Graph → ℕ → ℕ → Type 0
FitsOrNew l g first completed = TypesFit l 0 ⊎ (TypesFit l first × AggsFit l g completed)

-- the least type that is too big
pub record IsLeastLarge (l : Layouts) (t : ℕ) : Type 0 where
  pub large : is_large (found l t) ≡ true
  pub least : (s : ℕ) → s < t → is_large (found l s) ≡ false

-- there are i entries for aggregates, which say what the old ones said
pub record Extended (old new : Layouts) (i : ℕ) : Type 0 where
  pub spans : new.spans ≡ old.spans
  pub done : new.completed ≡ old.completed
  pub aggs_count : length new.aggs ≡ i
  pub most_count : length new.most.items ≡ i
  pub layouts : (a : ℕ) → agg_found new.aggs a ≡ agg_found old.aggs a
  pub most : (a : ℕ) → slice_index new.most.items a ≡ slice_index old.most.items a
