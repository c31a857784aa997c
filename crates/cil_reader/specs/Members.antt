-- Device: members of aggregates while they are read, as the graph and the pool of names have them, and their readings by the code's steps.
use Rattle.std.specs.Prelude.{◌≡◌, ℕ, ℤ, ◌<◌, Bool, true, false, if◌then◌else◌, List, [], ◌∷◌, ◌++◌, Option, Some, None, map, length, slice_get, is_some, pos}
use Rattle.std.specs.List.{list_all}
use Rattle.std.specs.Option.{option_map, option_and_then}
use Rattle.cil_base.specs.declared.kinds.IntKind.TheVariants.{Int as int}
use Rattle.cil_base.specs.declared.numbers.TypeId.{TypeId}
use Rattle.cil_base.specs.Arithmetic.{fits}
use Rattle.type_graph.specs.declared.aggregates.Aggregate.{Aggregate}
use Rattle.type_graph.specs.declared.aggregates.Member.{Member}
use Rattle.type_graph.specs.declared.nodes.Node.{Node}
use Rattle.type_graph.specs.Shapes.{Shape, IntType, shape}
use Rattle.type_graph.specs.Arena.{Graph, members_fit}
use Rattle.type_graph.specs.Growth.{Grows}
use Rattle.cil_tree.specs.Names.{is_among, are_different}
use Rattle.cil_tree.specs.View.{text_at}
use Rattle.cil_tree.specs.WellFormedTypes.{is_unqualified}
use Rattle.cil_tree.specs.Programs.{SeenMember}
use Rattle.cil_text.specs.Words.{Word, Comma}
use Rattle.cil_text.specs.Allowed.{member_name_of}
use Rattle.cil_text.specs.ReadStmts.{Numbered, read_number}
use Rattle.cil_text.specs.ReadAggregates.{Lines, LinesReading, is_close, read_enumerator, read_members}
use Rattle.cil_reader.specs.declared.names.Names.{Names}
use Rattle.cil_reader.specs.Pools.{KeepsNames}

-- the members' types are among the first n
abbrev pub AreThere : ℕ → List Member → Type 0
AreThere n [] = Unit {0}
AreThere n (m ∷ ms) = (m.ty.of.0 < n) × AreThere n ms

-- an aggregate is incomplete, and may have these members
abbrev pub may_hold : Graph → Aggregate → List Member → Bool
may_hold g x ms = if is_some x.members then false else members_fit g x.kind false ms

abbrev pub may_complete : Graph → ℕ → List Member → Bool
may_complete g a ms = elim (slice_get g.aggs a) [ None ↦ false | Some x ↦ may_hold g x ms ]

pub record IsMember (names : List (List ℕ)) (text : List ℕ) (of : TypeId) (value : ℤ) (m : Member) : Type 0 where
  pub name : slice_get names m.name.0 ≡ Some text
  pub type : m.ty.of ≡ of
  pub number : m.value ≡ value
  pub plain : is_unqualified m.ty.quals ≡ true

abbrev pub member_in : List Node → List (List ℕ) → Member → SeenMember
member_in nodes names m = record { name = text_at names m.name; type = shape nodes m.ty.of.0; value = m.value }

unfoldable pub members_in : List Node → List (List ℕ) → List Member → List SeenMember
members_in nodes names ms = map (member_in nodes names) ms

abbrev pub is_plain : Member → Bool
is_plain m = is_unqualified m.ty.quals

-- members without qualifiers that are seen alike in each graph that this one grows to, and with each pool that has the names of this one
pub record MembersKnown (g : Graph) (names : List (List ℕ)) (ms : List Member) : Type 0 where
  pub steady : (h : Graph) (later : List (List ℕ)) → Grows g h → KeepsNames names later → members_in h.nodes later ms ≡ members_in g.nodes names ms
  pub plain : list_all is_plain ms ≡ true

abbrev pub type_number : Member → TypeId
type_number m = m.ty.of

-- members of a struct or union, and their names with their types
pub record FieldsKnown (g : Graph) (names : List (List ℕ)) (ms : List Member) (x : Names) : Type 0 where
  pub members : MembersKnown g names ms
  pub there : AreThere (length g.nodes) ms
  pub named : x.numbering ≡ map member_name_of (members_in g.nodes names ms)
  pub typed : x.types.items ≡ map type_number ms
  pub apart : are_different x.numbering ≡ true

-- enumerators

-- a value and `,`
abbrev pub value_at : Numbered × List Word → Option ℤ
value_at (x, Comma ∷ []) = if fits int x.1 then Some x.1 else None
value_at _ = None

abbrev pub valued : List Word → Option ℤ
valued ws = option_and_then value_at (read_number ws)

abbrev pub enumerator_with : List ℕ → ℤ → SeenMember
enumerator_with name v = record { name = name; type = IntType int; value = v }

-- a member of a struct or union
abbrev pub member_with : List ℕ → Shape → SeenMember
member_with name s = record { name = name; type = s; value = pos 0 }

-- the code's steps

abbrev pub with_member : List SeenMember → SeenMember → List SeenMember
with_member ms m = ms ++ m ∷ []

abbrev pub enumerator_more : List SeenMember → List Word → Option (List SeenMember)
enumerator_more ms ws = option_map (with_member ms) (read_enumerator ws)

-- one more, whose name is none of theirs
abbrev pub with_other : List SeenMember → SeenMember → Option (List SeenMember)
with_other ms m = if is_among (map member_name_of ms) m.name then None else Some (ms ++ m ∷ [])

abbrev pub member_more : (List Word → Option SeenMember) → List SeenMember → List Word → Option (List SeenMember)
member_more of ms ws = option_and_then (with_other ms) (of ws)

-- whether a line has one more, those up to it, and the lines behind it
abbrev pub NextLine : Type 0
NextLine = Bool × (List SeenMember × Lines)

abbrev pub line_of : Lines → List SeenMember → NextLine
line_of lines ms = (true, (ms, lines))

abbrev pub next_line : (List Word → Option (List SeenMember)) → List SeenMember → Lines → Option NextLine
next_line more ms [] = None
next_line more ms (line ∷ lines) = if is_close line then Some (false, (ms, lines)) else option_map (line_of lines) (more line)

abbrev pub members_behind : List SeenMember → List SeenMember × Lines → List SeenMember × Lines
members_behind ms r = (ms ++ r.0, r.1)

-- enumerators behind others
unfoldable pub enumerators_from : List SeenMember → Lines → LinesReading (List SeenMember)
enumerators_from ms lines = option_map (members_behind ms) (read_members read_enumerator lines)

-- where a line was read: more behind it, or no more
abbrev pub enumerators_on : NextLine → LinesReading (List SeenMember)
enumerators_on (true, r) = enumerators_from r.0 r.1
enumerators_on (false, r) = Some r

abbrev pub members_apart : List SeenMember × Lines → LinesReading (List SeenMember)
members_apart r = if are_different (map member_name_of r.0) then Some r else None

-- members behind others, where all have names that differ
unfoldable pub members_from : (List Word → Option SeenMember) → List SeenMember → Lines → LinesReading (List SeenMember)
members_from of ms lines = option_and_then members_apart (option_map (members_behind ms) (read_members of lines))

abbrev pub members_on : (List Word → Option SeenMember) → NextLine → LinesReading (List SeenMember)
members_on of (true, r) = members_from of r.0 r.1
members_on of (false, r) = Some r
