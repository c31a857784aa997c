-- Device: the objects and functions of a program while they are numbered, and its types while they grow.
use Rattle.std.specs.Prelude.{◌≡◌, ℕ, ◌<◌, ◌≤◌, ◌&&◌, not, if◌then◌else◌, None, Some, List, [], ◌∷◌, ◌++◌, length, nat_eq, map, slice_get, Bool}
use Rattle.std.specs.List.{list_any}
use Rattle.std.specs.Map.{keys_of}
use Rattle.cil_base.specs.declared.numbers.AggId.{AggId}
use Rattle.cil_base.specs.declared.numbers.NameId.{NameId}
use Rattle.cil_base.specs.declared.numbers.TypeId.{TypeId}
use Rattle.cil_base.specs.declared.numbers.UnitNo.{UnitNo}
use Rattle.type_graph.specs.declared.aggregates.Aggregate.{Aggregate}
use Rattle.type_graph.specs.Arena.{Graph}
use Rattle.type_graph.specs.Growth.{Grows}
use Rattle.link_names.specs.declared.units.Fronted.{Fronted}
use Rattle.type_iso.specs.declared.class_table.Classes.{Classes}
use Rattle.type_iso.specs.Classes.{representative_in}
use Rattle.cil_merge.specs.declared.globals.Globals.{Globals}
use Rattle.cil_merge.specs.Listing.{Mark, mark, is_external}
use Rattle.cil_merge.specs.Classes.{IsAggregate, IsCompleted}

-- an external name stands there
abbrev pub stands_in : List Mark → NameId → Bool
stands_in ms n = list_any (is_external n) ms

-- what stands there once an object or function of a unit is added
abbrev pub with_mark : List Mark → Mark → List Mark
with_mark before m = if not m.1 && stands_in before m.0 then before else before ++ m ∷ []

abbrev pub with_marks : List Mark → List Mark → List Mark
with_marks before [] = before
with_marks before (m ∷ ms) = with_marks (with_mark before m) ms

abbrev pub marks : Globals → List Mark
marks g = map mark g.all.items

-- the external names are known by their places
pub record IsKnown (g : Globals) : Type 0 where
  pub stands : (n : NameId) → list_any (λ m. nat_eq n.0 m.0) (keys_of g.external.entries) ≡ stands_in (marks g) n

-- the types grow, and the structs, unions and enums stay
pub record GainsTypes (old new : Graph) : Type 0 where
  pub grows : Grows old new
  pub stay : new.aggs ≡ old.aggs

-- what stands for so many of the classes
pub record AreRepresentatives (c : Classes) (count : ℕ) (stands : List (UnitNo × AggId)) : Type 0 where
  pub so_many : length stands ≡ count
  pub each : (k : ℕ) (at : UnitNo × AggId) → slice_get stands k ≡ Some at → representative_in c k ≡ Some at

-- the struct, union or enum of a class before it has members
pub record IsBegun (units : List Fronted) (stands : List (UnitNo × AggId)) (k : ℕ) (y : Aggregate) : Type 0 where
  pub at : UnitNo × AggId
  pub x : Aggregate
  pub at_is : slice_get stands k ≡ Some at
  pub is : IsAggregate units at x
  pub new_is : y ≡ record { kind = x.kind; tag = x.tag; members = None }

pub record AreBegun (units : List Fronted) (stands : List (UnitNo × AggId)) (count : ℕ) (aggs : List Aggregate) : Type 0 where
  pub so_many : length aggs ≡ count
  pub each : (k : ℕ) (y : Aggregate) → slice_get aggs k ≡ Some y → IsBegun units stands k y

-- those of the first classes have their members
pub record IsOnWay (units : List Fronted) (tables : List (List TypeId)) (stands : List (UnitNo × AggId)) (count k : ℕ) (y : Aggregate) : Type 0 where
  pub at : UnitNo × AggId
  pub x : Aggregate
  pub at_is : slice_get stands k ≡ Some at
  pub is : IsAggregate units at x
  pub kind_is : y.kind ≡ x.kind
  pub tag_is : y.tag ≡ x.tag
  pub done : k < count → IsCompleted tables at.0 x.members y.members
  pub rest : count ≤ k → y.members ≡ None

pub record AreOnWay (units : List Fronted) (tables : List (List TypeId)) (stands : List (UnitNo × AggId)) (count : ℕ) (aggs : List Aggregate) : Type 0 where
  pub so_many : length aggs ≡ length stands
  pub each : (k : ℕ) (y : Aggregate) → slice_get aggs k ≡ Some y → IsOnWay units tables stands count k y

-- the struct, union or enum of a class gets its members, where it has any
pub record Completes (units : List Fronted) (tables : List (List TypeId)) (at : UnitNo × AggId) (k : ℕ) (old new : Graph) : Type 0 where
  pub x : Aggregate
  pub is : IsAggregate units at x
  pub changes : (y : Aggregate) → slice_get old.aggs k ≡ Some y → y.members ≡ None → (z : Aggregate) × (slice_get new.aggs k ≡ Some z) × (z.kind ≡ y.kind) × (z.tag ≡ y.tag) × IsCompleted tables at.0 x.members z.members
  pub others : (j : ℕ) → (j ≡ k → ⊥) → slice_get new.aggs j ≡ slice_get old.aggs j
  pub so_many : length new.aggs ≡ length old.aggs
  pub grows : Grows old new
