-- Device: aggregates while they are read, as the graph and the pool of names have them, their readings by the code's steps, and what these add to the graph.
use Rattle.std.specs.Prelude.{◌≡◌, ◌+◌, ℕ, nat_eq, Bool, true, false, if◌then◌else◌, List, [], ◌∷◌, ◌++◌, Option, Some, None, length, map, take, drop, slice_get}
use Rattle.std.specs.List.{list_all}
use Rattle.std.specs.Option.{option_map, option_and_then}
use Rattle.cil_base.specs.declared.kinds.Abi.{Abi}
use Rattle.cil_base.specs.declared.numbers.AggId.{AggId}
use Rattle.cil_base.specs.declared.numbers.NameId.{NameId}
use Rattle.cil_base.specs.declared.numbers.TypeId.{TypeId}
use Rattle.type_graph.specs.declared.aggregates.AggKind.{AggKind}
use Rattle.type_graph.specs.declared.aggregates.AggKind.TheVariants.{Struct}
use Rattle.type_graph.specs.declared.aggregates.Member.{Member}
use Rattle.type_graph.specs.declared.nodes.Node.{Node}
use Rattle.type_graph.specs.Shapes.{Shape, shape}
use Rattle.type_graph.specs.Arena.{Graph}
use Rattle.type_graph.specs.Growth.{Grows, with_agg, with_members}
use Rattle.cil_tree.specs.Tree.{Local, Program}
use Rattle.cil_tree.specs.Typing.{is_enum}
use Rattle.cil_tree.specs.WellFormedTypes.{members_are_unqualified}
use Rattle.cil_tree.specs.Names.{is_among, are_different}
use Rattle.cil_tree.specs.Programs.{SeenMember, SeenAggregate, seen_aggregate}
use Rattle.cil_text.specs.Words.{Word}
use Rattle.cil_text.specs.Allowed.{stands_well, stand_well, is_filled}
use Rattle.cil_text.specs.ReadTypes.{find}
use Rattle.cil_text.specs.ReadExps.{Env}
use Rattle.cil_text.specs.ReadAggregates.{Lines, LinesReading, read_enumerator, read_member, read_members, opened_tag, lone_tag, enum_with, read_enums, Tag, read_tags, complete_with, incomplete, is_opened, read_structs, tag_of, with_enums}
use Rattle.cil_text.specs.ReadGlobals.{seen_fields, bases_from}
use Rattle.cil_text.specs.TypesOf.{AddsParts, member_types}
use Rattle.cil_reader.specs.Settings.{Setting, env_in}
use Rattle.cil_reader.specs.Pools.{KeepsNames}
use Rattle.cil_reader.specs.Members.{may_hold}

abbrev pub program_with : Graph → List (List ℕ) → Program
program_with g names = record { graph = g; names = names; globals = [] }

-- the aggregates of a graph with the texts of a pool
unfoldable pub aggregates_in : Graph → List (List ℕ) → List SeenAggregate
aggregates_in g names = map (seen_aggregate (program_with g names)) g.aggs

-- aggregates that are seen alike in each graph that this one grows to, and with each pool that has the names of this one
pub record AggregatesKnown (g : Graph) (names : List (List ℕ)) : Type 0 where
  pub steady : (h : Graph) (later : List (List ℕ)) → Grows g h → KeepsNames names later → map (seen_aggregate (program_with h later)) g.aggs ≡ aggregates_in g names

-- what is known of aggregates, of which the first k have been read to the end
pub record Holds (s : Setting) (names : List (List ℕ)) (k : ℕ) : Type 0 where
  pub seen : AggregatesKnown s.graph names
  pub tags : (env_in s).tags ≡ map tag_of (aggregates_in s.graph names)
  pub apart : are_different (env_in s).tags ≡ true
  pub fields : (env_in s).members ≡ map seen_fields (take k (aggregates_in s.graph names))
  pub plain : list_all members_are_unqualified s.graph.aggs ≡ true

-- nothing is known of aggregates
pub record IsBlank (s : Setting) : Type 0 where
  pub aggs : s.graph.aggs ≡ []
  pub tags : s.known.tags ≡ []
  pub members : s.known.members.items ≡ []

-- the code's steps

-- an incomplete aggregate was added, whose tag is in the pool
pub record AddsTag (g h : Graph) (names : List (List ℕ)) (kind : AggKind) (tag : List ℕ) : Type 0 where
  pub name : NameId
  pub text : slice_get names name.0 ≡ Some tag
  pub is : h ≡ with_agg g (record { kind = kind; tag = Some name; members = None })

-- the graph in which an incomplete aggregate has got its members
abbrev pub completed : Graph → AggId → List Member → Option Graph
completed g a ms = elim (slice_get g.aggs a.0) [ None ↦ None | Some x ↦ (if may_hold g x ms then Some (with_members g a x ms) else None) ]

abbrev pub with_fields : Env → List Local → Env
with_fields env ls = record env { members = env.members ++ ls ∷ [] }

abbrev pub is_number : Option ℕ → ℕ → Bool
is_number None a = false
is_number (Some n) a = nat_eq n a

-- enums

abbrev pub enum_behind : List SeenAggregate → List ℕ → List SeenMember × Lines → LinesReading (List SeenAggregate)
enum_behind xs tag r = if is_among (map tag_of xs) tag then None else Some (xs ++ enum_with tag r.0 ∷ [], r.1)

abbrev pub one_enum : List SeenAggregate → List ℕ → Lines → LinesReading (List SeenAggregate)
one_enum xs tag lines = option_and_then (enum_behind xs tag) (read_members read_enumerator lines)

-- whether one more stands next, all up to it, and the lines behind them
abbrev pub NextAggregate : Type 0
NextAggregate = Bool × (List SeenAggregate × Lines)

abbrev pub one_more : List SeenAggregate × Lines → NextAggregate
one_more r = (true, r)

abbrev pub enum_if : List SeenAggregate → Lines → Lines → Option (List ℕ) → Option NextAggregate
enum_if xs lines behind None = Some (false, (xs, lines))
enum_if xs lines behind (Some tag) = option_map one_more (one_enum xs tag behind)

abbrev pub next_enum : List SeenAggregate → Lines → Option NextAggregate
next_enum xs [] = Some (false, (xs, []))
next_enum xs (line ∷ lines) = enum_if xs (line ∷ lines) lines (opened_tag line)

abbrev pub tags_apart : List SeenAggregate × Lines → LinesReading (List SeenAggregate)
tags_apart r = if are_different (map tag_of r.0) then Some r else None

-- enums behind aggregates, where all have tags that differ
unfoldable pub enums_from : ℕ → List SeenAggregate → Lines → LinesReading (List SeenAggregate)
enums_from k xs lines = option_and_then tags_apart (option_map (with_enums xs) (read_enums k lines))

-- where one was read: those behind it, or no more
abbrev pub enums_on : ℕ → NextAggregate → LinesReading (List SeenAggregate)
enums_on k (true, r) = enums_from k r.0 r.1
enums_on k (false, r) = Some r

-- tags

-- one more, whose tag is none of theirs
abbrev pub with_tag : List SeenAggregate → Tag → Option (List SeenAggregate)
with_tag xs x = if is_among (map tag_of xs) x.1 then None else Some (xs ++ incomplete x ∷ [])

abbrev pub tag_before : Lines → List SeenAggregate → NextAggregate
tag_before lines xs = (true, (xs, lines))

abbrev pub tag_if : List SeenAggregate → Lines → Lines → Option Tag → Option NextAggregate
tag_if xs lines behind None = Some (false, (xs, lines))
tag_if xs lines behind (Some x) = option_map (tag_before behind) (with_tag xs x)

abbrev pub next_tag : List SeenAggregate → Lines → Option NextAggregate
next_tag xs [] = Some (false, (xs, []))
next_tag xs (line ∷ lines) = tag_if xs (line ∷ lines) lines (lone_tag line)

abbrev pub tags_behind : List SeenAggregate → List Tag × Lines → List SeenAggregate × Lines
tags_behind xs r = (xs ++ map incomplete r.0, r.1)

-- structs and unions without members behind aggregates, where all have tags that differ
unfoldable pub tags_from : List SeenAggregate → Lines → LinesReading (List SeenAggregate)
tags_from xs lines = tags_apart (tags_behind xs (read_tags lines))

abbrev pub tags_on : NextAggregate → LinesReading (List SeenAggregate)
tags_on (true, r) = tags_from r.0 r.1
tags_on (false, r) = Some r

-- what falls with each line
abbrev pub bit : Bool → ℕ
bit true = 1
bit false = 0

-- structs and unions

abbrev pub tag_back : SeenAggregate → Tag
tag_back x = (x.kind, tag_of x)

-- each has not got its members
abbrev pub AreOpen : List SeenAggregate → Type 0
AreOpen [] = Unit {0}
AreOpen (x ∷ xs) = (x ≡ incomplete (tag_back x)) × AreOpen xs

-- each is a struct or union
abbrev pub ArePlain : List SeenAggregate → Type 0
ArePlain [] = Unit {0}
ArePlain (x ∷ xs) = (is_enum x.kind ≡ false) × ArePlain xs

abbrev pub first_tag : List SeenAggregate → Tag
first_tag [] = (Struct, [])
first_tag (x ∷ xs) = tag_back x

-- the kind and the tag of an aggregate
abbrev pub tag_at : ℕ → List SeenAggregate → Tag
tag_at a xs = first_tag (drop a xs)

abbrev pub complete_behind : List SeenAggregate → Tag → List SeenMember × Lines → LinesReading (List SeenAggregate)
complete_behind before x r = if stands_well before (complete_with x r.0) then Some (before ++ complete_with x r.0 ∷ [], r.1) else None

abbrev pub one_complete : (List Word → Option SeenMember) → List SeenAggregate → Tag → Lines → LinesReading (List SeenAggregate)
one_complete of before x lines = option_and_then (complete_behind before x) (read_members of lines)

-- behind the line that opens the aggregate with this number
abbrev pub own_if : List (List ℕ) → ℕ → Lines → Option (List ℕ) → Option Lines
own_if tags a behind None = None
own_if tags a behind (Some tag) = if is_number (find tag tags) a then Some behind else None

abbrev pub own_members : List (List ℕ) → ℕ → Lines → Option Lines
own_members tags a [] = None
own_members tags a (line ∷ lines) = own_if tags a lines (opened_tag line)

abbrev pub one_struct : (List Word → Option SeenMember) → List SeenAggregate → Tag → Lines → LinesReading (List SeenAggregate)
one_struct of before x [] = Some (before ++ incomplete x ∷ [], [])
one_struct of before x (line ∷ lines) = if is_opened (opened_tag line) x.1 then one_complete of before x lines else Some (before ++ incomplete x ∷ [], line ∷ lines)

abbrev pub stands_behind : List SeenAggregate → List SeenAggregate × Lines → LinesReading (List SeenAggregate)
stands_behind before r = if stand_well before r.0 then Some (before ++ r.0, r.1) else None

-- structs and unions behind aggregates, where each has members that it may have
unfoldable pub structs_behind : (List Word → Option SeenMember) → List SeenAggregate → List Tag → Lines → LinesReading (List SeenAggregate)
structs_behind of before xs lines = option_and_then (stands_behind before) (read_structs of xs lines)

-- structs and unions behind k aggregates: their tags, and their members
abbrev pub structs_after : Abi → ℕ → ℕ → List SeenAggregate × Lines → LinesReading (List SeenAggregate)
structs_after abi n k t = structs_behind (read_member (bases_from abi t.0) n) (take k t.0) (map tag_back (drop k t.0)) t.1

abbrev pub tagged_structs : Abi → ℕ → ℕ → List SeenAggregate → Lines → LinesReading (List SeenAggregate)
tagged_structs abi n k xs ls = option_and_then (structs_after abi n k) (tags_from xs ls)

-- what is added

-- the types with these numbers
abbrev pub types_at : List Node → List TypeId → List Shape
types_at nodes [] = []
types_at nodes (t ∷ ts) = shape nodes t.0 ∷ types_at nodes ts

-- where all that was added were parts of the types of some members, all that is added now are parts of the types of these
pub record FieldsAdded (g h : Graph) (ts us : List TypeId) : Type 0 where
  pub added : (f : Graph) → AddsParts f g (types_at g.nodes ts) → AddsParts f h (types_at h.nodes us)

-- all that was added are parts of the types of the members of aggregates, if each that is complete has a member
pub record MembersAdded (f g : Graph) (names : List (List ℕ)) : Type 0 where
  pub part : list_all is_filled (aggregates_in g names) ≡ true → AddsParts f g (member_types (aggregates_in g names))

-- where all that was added were such parts, so are all that are added now, and the data model stays
pub record AggregatesAdded (g h : Graph) (names later : List (List ℕ)) : Type 0 where
  pub added : (f : Graph) → MembersAdded f g names → MembersAdded f h later
  pub model : h.abi ≡ g.abi

-- what reading leaves

-- of aggregates, of which the first k have been read to the end: what is known of them, and what was added
pub record AggregatesRead (old new : Setting) (names later : List (List ℕ)) (k : ℕ) : Type 0 where
  pub holds : Holds new later k
  pub adds : AggregatesAdded old.graph new.graph names later

-- beside the aggregate with this number: those behind it, the tags, and how many there are
pub record OthersStay (old new : Setting) (names later : List (List ℕ)) (a : ℕ) : Type 0 where
  pub rest : drop (a + 1) (aggregates_in new.graph later) ≡ drop (a + 1) (aggregates_in old.graph names)
  pub tags : (env_in new).tags ≡ (env_in old).tags
  pub count : length new.graph.aggs ≡ length old.graph.aggs
