-- Definition: the types of the program that units become (C11 6.2.7): each type of a unit has its shape there, with the numbers of their classes for structs, unions and enums, and each class is the one of a unit that stands for it, with its kind, its tag and its members.
use Rattle.std.specs.Prelude.{◌≡◌, ℕ, false, List, Option, Some, None, length, slice_get}
use Rattle.cil_base.specs.declared.numbers.AggId.{AggId}
use Rattle.cil_base.specs.declared.numbers.TypeId.{TypeId}
use Rattle.cil_base.specs.declared.numbers.UnitNo.{UnitNo}
use Rattle.type_graph.specs.declared.aggregates.Aggregate.{Aggregate}
use Rattle.type_graph.specs.declared.aggregates.Member.{Member}
use Rattle.type_graph.specs.Arena.{Graph}
use Rattle.map_graph.specs.Mapped.{number_in, Maps}
use Rattle.type_iso.specs.declared.class_table.Classes.{Classes}
use Rattle.type_iso.specs.Classes.{class_count, class_in, representative_in}
use Rattle.link_names.specs.declared.units.Fronted.{Fronted}

-- a struct, union or enum of one of these units
pub record IsAggregate (units : List Fronted) (at : UnitNo × AggId) (x : Aggregate) : Type 0 where
  pub unit : Fronted
  pub unit_is : slice_get units at.0.0 ≡ Some unit
  pub is : slice_get unit.cil.graph.aggs at.1.0 ≡ Some x

-- a member whose type has another number; its name, its qualifiers and its value stay
pub record IsMember (types : List TypeId) (m n : Member) : Type 0 where
  pub type_is : slice_get types m.ty.of.0 ≡ Some n.ty.of
  pub rest_stays : n ≡ record m { ty = record { quals = m.ty.quals; of = n.ty.of } }

-- so many members in their order
pub record AreMembers (types : List TypeId) (ms ns : List Member) (count : ℕ) : Type 0 where
  pub so_many : length ns ≡ count
  pub each : (i : ℕ) (m n : Member) → slice_get ms i ≡ Some m → slice_get ns i ≡ Some n → IsMember types m n

-- what has members has them there too, with the numbers that the types of its unit have there; what is incomplete stays so
abbrev pub IsCompleted : List (List TypeId) → UnitNo → Option (List Member) → Option (List Member) → Type 0
IsCompleted tables u None new = new ≡ None
IsCompleted tables u (Some ms) new = (types : List TypeId) × (ns : List Member) × (slice_get tables u.0 ≡ Some types) × (new ≡ Some ns) × AreMembers types ms ns (length ms)

-- the struct, union or enum of a class is the one that stands for it
pub record StandsThere (units : List Fronted) (tables : List (List TypeId)) (at : UnitNo × AggId) (y : Aggregate) : Type 0 where
  pub x : Aggregate
  pub is : IsAggregate units at x
  pub kind_is : y.kind ≡ x.kind
  pub tag_is : y.tag ≡ x.tag
  pub members_are : IsCompleted tables at.0 x.members y.members

-- so many structs, unions and enums of a unit, by the numbers of their classes
pub record AreClassesOf (c : Classes) (u count : ℕ) (numbers : List AggId) : Type 0 where
  pub so_many : length numbers ≡ count
  pub each : (a : ℕ) (k : AggId) → slice_get numbers a ≡ Some k → class_in c u a ≡ Some k.0

-- the types of a unit, by the numbers that they have in the program; qualifiers are dropped
pub record AreTypesOf (c : Classes) (u : ℕ) (unit program : Graph) (types : List TypeId) : Type 0 where
  pub classes : List AggId
  pub are_classes : AreClassesOf c u (length unit.aggs) classes
  pub each_type : length types ≡ length unit.nodes
  pub maps : Maps unit program (number_in classes) false types

-- the types of so many of the units
pub record AreTypes (c : Classes) (units : List Fronted) (program : Graph) (tables : List (List TypeId)) (count : ℕ) : Type 0 where
  pub so_many : length tables ≡ count
  pub each : (u : ℕ) (f : Fronted) (types : List TypeId) → slice_get units u ≡ Some f → slice_get tables u ≡ Some types → AreTypesOf c u f.cil.graph program types

-- the types of a program: it has as many structs, unions and enums as there are classes, each with what stands for its class
pub record HasTypes (c : Classes) (units : List Fronted) (program : Graph) : Type 0 where
  pub tables : List (List TypeId)
  pub types : AreTypes c units program tables (length units)
  pub so_many : length program.aggs ≡ class_count c
  pub each : (k : ℕ) (at : UnitNo × AggId) (y : Aggregate) → representative_in c k ≡ Some at → slice_get program.aggs k ≡ Some y → StandsThere units tables at y
