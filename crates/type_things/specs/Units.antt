-- Definition: the types and the structs, unions and enums of several units as things with parts (C11 6.2.5, 6.2.7p1): the aggregates of all units, unit by unit, and then their types. Names are compared as numbers.
use Rattle.std.specs.Prelude.{ℕ, ◌+◌, List, [], ◌∷◌, ◌++◌, Option, Some, None, map, length, slice_index_or, pos, codes}
use Rattle.std.specs.Option.{option_map}
use Rattle.std.specs.List.{position_or_len}
use Rattle.std.specs.Str.{bytes_eq}
use Rattle.cil_base.specs.NamePool.{interned_all}
use Rattle.cil_base.specs.declared.numbers.NameId.{NameId}
use Rattle.type_graph.specs.declared.aggregates.AggKind.{AggKind}
use Rattle.type_graph.specs.declared.aggregates.AggKind.TheVariants.{Struct, Union, Enum}
use Rattle.type_graph.specs.declared.aggregates.Member.{Member}
use Rattle.type_graph.specs.declared.aggregates.Aggregate.{Aggregate}
use Rattle.type_graph.specs.declared.nodes.Node.{Node}
use Rattle.type_graph.specs.declared.nodes.Node.TheVariants as node
use Rattle.type_graph.specs.Arena.{Graph}
use Rattle.type_things.specs.declared.stems.StemId.{StemId}
use Rattle.type_things.specs.declared.web.Label.{Label}
use Rattle.type_things.specs.declared.web.Head.{Head}
use Rattle.type_things.specs.declared.web.Head.TheVariants as head
use Rattle.type_things.specs.Stems.{stem_of}
use Rattle.type_things.specs.Things.{Thing}

-- beside a part of a type stands nothing
abbrev pub plain : Label
plain = record { name = 0; value = pos 0 }

module _ (names : List (List ℕ)) where
  -- the stems of all names, each once; the first is that of a tag that is missing
  abbrev pub stems : List (List ℕ)
  stems = interned_all [] (codes "__anon" ∷ map stem_of names)

  abbrev pub stem_number : List ℕ → StemId
  stem_number s = record { 0 = position_or_len (bytes_eq s) stems }

  abbrev pub name_stem : NameId → StemId
  name_stem n = stem_number (stem_of (slice_index_or names n.0 []))

  -- a missing tag is as one that was made
  abbrev pub tag_stem : Option NameId → StemId
  tag_stem None = stem_number (codes "__anon")
  tag_stem (Some n) = name_stem n

  -- members have their names, enumerators the stems of theirs
  abbrev pub compared : AggKind → NameId → ℕ
  compared Struct n = n.0
  compared Union n = n.0
  compared Enum n = (name_stem n).0

  abbrev pub member_part : AggKind → ℕ → Member → Label × ℕ
  member_part kind types m = (record { name = compared kind m.name; value = m.value }, types + m.ty.of.0)

  -- an aggregate of a unit whose types have numbers from one on
  abbrev pub aggregate_thing : ℕ → Aggregate → Thing Head Label
  aggregate_thing types x = record { head = head.Tagged x.kind (tag_stem x.tag); inside = option_map (map (member_part x.kind types)) x.members }

  abbrev pub aggregates_from : ℕ → List Graph → List (Thing Head Label)
  aggregates_from types [] = []
  aggregates_from types (g ∷ gs) = map (aggregate_thing types) g.aggs ++ aggregates_from (types + length g.nodes) gs

-- a type of a unit whose aggregates and types have numbers from these on; qualifiers are not compared (own)
abbrev pub type_thing : ℕ → ℕ → Node → Thing Head Label
type_thing aggs types node.Void = record { head = head.Void; inside = Some [] }
type_thing aggs types (node.Int kind) = record { head = head.Int kind; inside = Some [] }
type_thing aggs types (node.Ptr q) = record { head = head.Ptr; inside = Some ((plain, types + q.of.0) ∷ []) }
type_thing aggs types (node.Array q bound) = record { head = head.Array bound; inside = Some ((plain, types + q.of.0) ∷ []) }
type_thing aggs types (node.Func proto variadic ret params) = record { head = head.Func proto variadic; inside = Some ((plain, types + ret.0) ∷ map (λ p. (plain, types + p.0)) params) }
type_thing aggs types (node.Agg a) = record { head = head.Agg; inside = Some ((plain, aggs + a.0) ∷ []) }

abbrev pub types_from : ℕ → ℕ → List Graph → List (Thing Head Label)
types_from aggs types [] = []
types_from aggs types (g ∷ gs) = map (type_thing aggs types) g.nodes ++ types_from (aggs + length g.aggs) (types + length g.nodes) gs

abbrev pub aggregate_count : List Graph → ℕ
aggregate_count [] = 0
aggregate_count (g ∷ gs) = length g.aggs + aggregate_count gs

-- all things of units
abbrev pub things : List (List ℕ) → List Graph → List (Thing Head Label)
things names gs = aggregates_from names (aggregate_count gs) gs ++ types_from 0 (aggregate_count gs) gs

-- the first numbers of the units, where those of the first are these
abbrev pub firsts_from : ℕ → ℕ → List Graph → List (ℕ × ℕ)
firsts_from aggs types [] = []
firsts_from aggs types (g ∷ gs) = (aggs, types) ∷ firsts_from (aggs + length g.aggs) (types + length g.nodes) gs
