-- Device: the executable reading of a text's aggregates (C11 6.7.2.1 to 6.7.2.3) from lines of words: enums with their enumerators, the tags of structs and unions, and the members of those that are complete.
use Rattle.std.specs.Prelude.{ℕ, suc, zero, ◌&&◌, Bool, true, false, if◌then◌else◌, List, [], ◌∷◌, ◌++◌, Option, Some, None, map, pos}
use Rattle.std.specs.List.{list_all}
use Rattle.std.specs.Option.{option_map, option_and_then}
use Rattle.std.specs.Str.{bytes_eq}
use Rattle.cil_base.specs.declared.kinds.Abi.{Abi}
use Rattle.cil_base.specs.declared.kinds.IntKind.TheVariants.{Int as int}
use Rattle.cil_base.specs.Arithmetic.{fits}
use Rattle.type_graph.specs.declared.aggregates.AggKind.{AggKind}
use Rattle.type_graph.specs.declared.aggregates.AggKind.TheVariants.{Enum}
use Rattle.type_graph.specs.Shapes.{IntType}
use Rattle.cil_tree.specs.Typing.{is_enum}
use Rattle.cil_tree.specs.Names.{are_different}
use Rattle.cil_tree.specs.Programs.{SeenMember, SeenAggregate}
use Rattle.cil_text.specs.Allowed.{allowed, stand_well, is_filled}
use Rattle.cil_text.specs.Words.{Word, LeftBrace, RightBrace, Comma, Semicolon, Assign, TagWord, Name}
use Rattle.cil_text.specs.ReadTypes.{Bases, Named, read_decl}
use Rattle.cil_text.specs.ReadStmts.{Numbered, read_number}

abbrev pub Lines : Type 0
Lines = List (List Word)

-- what is read, and the lines behind it
abbrev pub LinesReading : Type 0 → Type 0
LinesReading A = Option (A × Lines)

-- `NAME = number ,`; the value is one of int (C11 6.7.2.2p2)
abbrev pub enumerator_at : List ℕ → Numbered × List Word → Option SeenMember
enumerator_at name (x, Comma ∷ []) = if fits int x.1 then Some (record { name = name; type = IntType int; value = x.1 }) else None
enumerator_at name _ = None

abbrev pub read_enumerator : List Word → Option SeenMember
read_enumerator (Name name ∷ Assign ∷ ws) = option_and_then (enumerator_at name) (read_number ws)
read_enumerator _ = None

-- a declarator and `;`
abbrev pub member_at : Named × List Word → Option SeenMember
member_at ((s, Some name), Semicolon ∷ []) = Some (record { name = name; type = s; value = pos 0 })
member_at _ = None

abbrev pub read_member : Bases → ℕ → List Word → Option SeenMember
read_member bases n ws = option_and_then member_at (read_decl bases n ws)

abbrev pub member_first : SeenMember → List SeenMember × Lines → List SeenMember × Lines
member_first m r = (m ∷ r.0, r.1)

abbrev pub is_close : List Word → Bool
is_close (RightBrace ∷ ws) = true
is_close _ = false

-- members up to the line that closes the aggregate
abbrev pub read_members : (List Word → Option SeenMember) → Lines → LinesReading (List SeenMember)
read_members of [] = None
read_members of (line ∷ lines) = if is_close line then Some ([], lines) else option_and_then (λ (m : SeenMember). option_map (member_first m) (read_members of lines)) (of line)

-- the tag in `enum T {`, `struct T {` and `union T {`
abbrev pub opened_tag : List Word → Option (List ℕ)
opened_tag (TagWord kind ∷ Name tag ∷ LeftBrace ∷ ws) = Some tag
opened_tag _ = None

-- the tag in `struct T ;` and `union T ;`
abbrev pub lone_tag : List Word → Option (AggKind × List ℕ)
lone_tag (TagWord kind ∷ Name tag ∷ Semicolon ∷ ws) = if is_enum kind then None else Some (kind, tag)
lone_tag _ = None

abbrev pub enum_with : List ℕ → List SeenMember → SeenAggregate
enum_with tag ms = record { kind = Enum; tag = Some tag; members = Some ms }

abbrev pub aggregate_first : SeenAggregate → List SeenAggregate × Lines → List SeenAggregate × Lines
aggregate_first x r = (x ∷ r.0, r.1)

-- enums, each a heading and its enumerators; n bounds their number
abbrev pub read_enums : ℕ → Lines → LinesReading (List SeenAggregate)
read_enums zero lines = Some ([], lines)
read_enums (suc n) [] = Some ([], [])
read_enums (suc n) (line ∷ lines) = elim (opened_tag line) [
  | None ↦ Some ([], line ∷ lines)
  | Some tag ↦ option_and_then (λ (r : List SeenMember × Lines). option_map (aggregate_first (enum_with tag r.0)) (read_enums n r.1)) (read_members read_enumerator lines)
]

abbrev pub Tag : Type 0
Tag = AggKind × List ℕ

abbrev pub tag_first : Tag → List Tag × Lines → List Tag × Lines
tag_first x r = (x ∷ r.0, r.1)

-- the tags of structs and unions
abbrev pub read_tags : Lines → List Tag × Lines
read_tags [] = ([], [])
read_tags (line ∷ lines) = elim (lone_tag line) [ None ↦ ([], line ∷ lines) | Some x ↦ tag_first x (read_tags lines) ]

abbrev pub complete_with : Tag → List SeenMember → SeenAggregate
complete_with x ms = record { kind = x.0; tag = Some x.1; members = Some ms }

abbrev pub incomplete : Tag → SeenAggregate
incomplete x = record { kind = x.0; tag = Some x.1; members = None }

abbrev pub is_opened : Option (List ℕ) → List ℕ → Bool
is_opened None tag = false
is_opened (Some t) tag = bytes_eq t tag

-- each struct or union with the members that stand next, if it is theirs
abbrev pub read_structs : (List Word → Option SeenMember) → List Tag → Lines → LinesReading (List SeenAggregate)
read_structs of [] lines = Some ([], lines)
read_structs of (x ∷ xs) [] = option_map (aggregate_first (incomplete x)) (read_structs of xs [])
read_structs of (x ∷ xs) (line ∷ lines) =
    if is_opened (opened_tag line) x.1
    then option_and_then (λ (r : List SeenMember × Lines). option_map (aggregate_first (complete_with x r.0)) (read_structs of xs r.1)) (read_members of lines)
    else option_map (aggregate_first (incomplete x)) (read_structs of xs (line ∷ lines))

abbrev pub tag_of : SeenAggregate → List ℕ
tag_of x = elim x.tag [ None ↦ [] | Some t ↦ t ]

abbrev pub tag_text_of : Tag → List ℕ
tag_text_of x = x.1

abbrev pub all_tags : List SeenAggregate → List Tag → List (List ℕ)
all_tags enums xs = map tag_of enums ++ map tag_text_of xs

abbrev pub with_enums : List SeenAggregate → List SeenAggregate × Lines → List SeenAggregate × Lines
with_enums enums r = (enums ++ r.0, r.1)

abbrev pub all_bases : Abi → List SeenAggregate → List Tag → Bases
all_bases abi enums xs = record { abi = abi; tags = all_tags enums xs }

abbrev pub structs_from : Abi → ℕ → List SeenAggregate → List Tag × Lines → LinesReading (List SeenAggregate)
structs_from abi n enums t = option_map (with_enums enums) (read_structs (read_member (all_bases abi enums t.0) n) t.0 t.1)

-- tags differ (C11 6.2.3), and each aggregate's members may be where it stands
abbrev pub aggregates_allowed : List SeenAggregate → Bool
aggregates_allowed xs = are_different (map tag_of xs) && stand_well [] xs

abbrev pub first_allowed : List SeenAggregate × Lines → Bool
first_allowed r = aggregates_allowed r.0

-- aggregates that may stand as they do, and the lines behind them
abbrev pub read_placed : Abi → ℕ → Lines → LinesReading (List SeenAggregate)
read_placed abi n lines = option_and_then (allowed first_allowed) (option_and_then (λ (r : List SeenAggregate × Lines). structs_from abi n r.0 (read_tags r.1)) (read_enums n lines))

abbrev pub first_filled : List SeenAggregate × Lines → Bool
first_filled r = list_all is_filled r.0

-- all aggregates, and the lines behind them
abbrev pub read_aggregates : Abi → ℕ → Lines → LinesReading (List SeenAggregate)
read_aggregates abi n lines = option_and_then (allowed first_filled) (read_placed abi n lines)
