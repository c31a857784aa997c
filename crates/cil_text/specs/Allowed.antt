-- Device: what a reader refuses beside what it cannot read: names of one scope that are alike (C11 6.2.1p4), and members that an aggregate cannot have where it stands (6.7.2.1p3, p18), with the aggregates known that stand before it.
use Rattle.std.specs.Prelude.{ℕ, ◌&&◌, ◌||◌, not, Bool, true, false, if◌then◌else◌, List, [], ◌∷◌, ◌++◌, Option, Some, None, is_some, map, slice_get}
use Rattle.std.specs.Option.{option_and_then}
use Rattle.type_graph.specs.declared.aggregates.AggKind.{AggKind}
use Rattle.type_graph.specs.Shapes.{Shape, VoidType, IntType, PtrType, ArrayType, FuncType, AggType}
use Rattle.type_graph.specs.Arena.{is_struct}
use Rattle.cil_tree.specs.Typing.{is_enum}
use Rattle.cil_tree.specs.Names.{are_different}
use Rattle.cil_tree.specs.Programs.{SeenMember, SeenAggregate}

-- what is allowed alone
abbrev pub allowed : {A : Type 0} → (A → Bool) → A → Option A
allowed ok x = if ok x then Some x else None

abbrev pub members_among : List SeenAggregate → ℕ → Option (List SeenMember)
members_among xs a = option_and_then (λ (x : SeenAggregate). x.members) (slice_get xs a)

-- a complete object type (C11 6.2.5p1), where these aggregates are known
abbrev pub is_complete : List SeenAggregate → Shape → Bool
is_complete xs VoidType = false
is_complete xs (IntType kind) = true
is_complete xs (PtrType q s) = true
is_complete xs (ArrayType q s None) = false
is_complete xs (ArrayType q s (Some n)) = is_complete xs s
is_complete xs (FuncType ret params proto variadic) = false
is_complete xs (AggType a) = is_some (members_among xs a)

-- an array of unknown bound whose element is complete
abbrev pub is_flexible : List SeenAggregate → Shape → Bool
is_flexible xs VoidType = false
is_flexible xs (IntType kind) = false
is_flexible xs (PtrType q s) = false
is_flexible xs (ArrayType q s None) = is_complete xs s
is_flexible xs (ArrayType q s (Some n)) = false
is_flexible xs (FuncType ret params proto variadic) = false
is_flexible xs (AggType a) = false

abbrev pub is_last : List SeenMember → Bool
is_last [] = true
is_last (m ∷ ms) = false

-- members are complete, but for a flexible array as a struct's last one behind another
abbrev pub can_hold : List SeenAggregate → AggKind → Bool → List SeenMember → Bool
can_hold xs kind behind [] = true
can_hold xs kind behind (m ∷ ms) = (is_complete xs m.type || (is_struct kind && (behind && (is_last ms && is_flexible xs m.type)))) && can_hold xs kind true ms

abbrev pub member_name_of : SeenMember → List ℕ
member_name_of m = m.name

-- the members of a struct or union have names that differ (C11 6.2.3); enumerators share the names of their scope, of which a reader asks nothing
abbrev pub are_named_apart : AggKind → List SeenMember → Bool
are_named_apart kind ms = is_enum kind || are_different (map member_name_of ms)

abbrev pub stands_well : List SeenAggregate → SeenAggregate → Bool
stands_well before x = elim x.members [ None ↦ true | Some ms ↦ can_hold before x.kind false ms && are_named_apart x.kind ms ]

-- each aggregate, behind those before it
abbrev pub stand_well : List SeenAggregate → List SeenAggregate → Bool
stand_well before [] = true
stand_well before (x ∷ xs) = stands_well before x && stand_well (before ++ x ∷ []) xs

-- an aggregate that has members, or enumerators, has one at least (C11 6.7.2.1p1, p8, 6.7.2.2p1)
abbrev pub is_filled : SeenAggregate → Bool
is_filled x = elim x.members [ None ↦ true | Some ms ↦ not (is_last ms) ]
