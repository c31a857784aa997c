-- Definition: the types of a translation unit (C11 6.2.5): a data model, and the list of struct, union and enumerated types, which a shape names by its number; completeness, members and sizes under them.
use Rattle.std.specs.Prelude.{ℕ, zero, suc, ℤ, Bool, true, false, not, ◌&&◌, ◌||◌, nat_eq, nat_lt, List, [], ◌∷◌, Option, Some, None, length, slice_get, is_some, if◌then◌else◌}
use Rattle.std.specs.Option.{option_map, option_and_then}
use Rattle.cil_base.specs.Limits.{object_bytes}
use Rattle.cil_base.specs.declared.kinds.Abi.{Abi}
use Rattle.cil_base.specs.declared.kinds.IntKind.{IntKind}
use Rattle.cil_base.specs.declared.kinds.IntKind.TheVariants.{Int as int}
use Rattle.cil_base.specs.declared.numbers.NameId.{NameId}
use Rattle.cil_base.specs.Integer.{size_of}
use Rattle.type_graph.specs.declared.aggregates.AggKind.{AggKind}
use Rattle.type_graph.specs.declared.aggregates.AggKind.TheVariants.{Struct, Union, Enum}
use Rattle.type_graph.specs.declared.layout.Layout.{Layout}
use Rattle.type_graph.specs.declared.nodes.Quals.{Quals}
use Rattle.type_graph.specs.Shapes.{Shape, VoidType, IntType, PtrType, ArrayType, FuncType, AggType}
use Rattle.type_graph.specs.Layouts.{AggLayout, Placed, nothing_placed, placed_behind, placed_over, finished, scalar, member_in, layout_in, whole_of}

-- a type with its qualifiers (6.2.5p26); those of an array stand on its element (6.7.3p9)
pub record CType : Type 0 where
  pub quals : Quals
  pub shape : Shape

-- a member of a structure or union, without a name where it is an anonymous one (6.7.2.1p13); or an enumerator with its value
pub record Member : Type 0 where
  pub name : Option NameId
  pub type : CType
  pub value : ℤ

-- a structure, union or enumerated type: incomplete while it has no members (6.2.5p22); `begun` from the `{` of its body to the `}`
pub record Aggregate : Type 0 where
  pub kind : AggKind
  pub tag : Option NameId
  pub members : Option (List Member)
  pub begun : Bool

pub record Types : Type 0 where
  pub abi : Abi
  pub aggs : List Aggregate

abbrev pub plain : Quals
plain = record { constant = false; restricted = false }

abbrev pub unqualified : Shape → CType
unqualified s = record { quals = plain; shape = s }

-- the qualifiers of both
abbrev pub joined : Quals → Quals → Quals
joined p q = record { constant = p.constant || q.constant; restricted = p.restricted || q.restricted }

-- qualified types (6.7.3)

-- the qualifiers of an array go to its element, those of a function type are dropped (6.7.3p9; the latter own)
abbrev pub with_quals : Quals → Quals → Shape → CType
with_quals q p (ArrayType r s bound) = array_of (with_quals q r s) bound
  where
    array_of : CType → Option ℕ → CType
    array_of c bound = record { quals = plain; shape = ArrayType c.quals c.shape bound }
with_quals q p (FuncType ret params proto variadic) = record { quals = plain; shape = FuncType ret params proto variadic }
with_quals q p s = record { quals = joined q p; shape = s }

abbrev pub qualified : Quals → CType → CType
qualified q c = with_quals q c.quals c.shape

-- a pointer to a type
abbrev pub pointer_to : CType → Shape
pointer_to c = PtrType c.quals c.shape

abbrev pub same_name : NameId → NameId → Bool
same_name x y = nat_eq x.0 y.0

abbrev pub is_void : Shape → Bool
is_void VoidType = true
is_void _ = false

abbrev pub is_array : Shape → Bool
is_array (ArrayType q s bound) = true
is_array _ = false

abbrev pub is_function : Shape → Bool
is_function (FuncType ret params proto variadic) = true
is_function _ = false

abbrev pub is_aggregate : Shape → Bool
is_aggregate (AggType a) = true
is_aggregate _ = false

-- what a pointer points to
abbrev pub pointee : Shape → Option CType
pointee (PtrType q s) = Some (record { quals = q; shape = s })
pointee _ = None

-- what an array is made of
abbrev pub element : Shape → Option CType
element (ArrayType q s bound) = Some (record { quals = q; shape = s })
element _ = None

-- an object type describes objects, completely or not (6.2.5p1); void is one that is never complete (p19)
abbrev pub is_object : Shape → Bool
is_object s = not (is_function s)

abbrev pub aggregate_at : Types → ℕ → Option Aggregate
aggregate_at t a = slice_get t.aggs a

abbrev pub members_of : Types → ℕ → Option (List Member)
members_of t a = option_and_then (λ (x : Aggregate). x.members) (aggregate_at t a)

abbrev pub aggregate_kind : Types → ℕ → Option AggKind
aggregate_kind t a = option_map (λ (x : Aggregate). x.kind) (aggregate_at t a)

-- the integer kind of an enumerated type is that of int (6.7.2.2p4, own)
abbrev pub enum_kind : Option AggKind → Option IntKind
enum_kind None = None
enum_kind (Some Struct) = None
enum_kind (Some Union) = None
enum_kind (Some Enum) = Some int

-- the kind of an integer type (6.2.5p17)
abbrev pub kind_in : Types → Shape → Option IntKind
kind_in t (IntType kind) = Some kind
kind_in t (AggType a) = enum_kind (aggregate_kind t a)
kind_in t _ = None

abbrev pub is_integer : Types → Shape → Bool
is_integer t s = is_some (kind_in t s)

-- scalar types (6.2.5p21)
abbrev pub is_scalar : Types → Shape → Bool
is_scalar t s = is_integer t s || is_some (pointee s)

-- a structure or union type
abbrev pub is_record : Types → Shape → Bool
is_record t s = is_aggregate s && not (is_integer t s)

-- complete object types (6.2.5p1, p19, p22)
abbrev pub complete : Types → Shape → Bool
complete t VoidType = false
complete t (IntType kind) = true
complete t (PtrType q s) = true
complete t (ArrayType q s None) = false
complete t (ArrayType q s (Some n)) = complete t s
complete t (FuncType ret params proto variadic) = false
complete t (AggType a) = is_some (members_of t a)

-- an array of unknown bound whose element is complete: a flexible array where it is a member (6.7.2.1p18)
abbrev pub is_flexible : Types → Shape → Bool
is_flexible t (ArrayType q s None) = complete t s
is_flexible t _ = false

-- no complete object type, where one is needed: an array of unknown bound will do where its bound is still to come
abbrev pub lacks_type : Types → Bool → Shape → Bool
lacks_type t bound_comes s = not (complete t s || (bound_comes && is_flexible t s))

-- sizes and offsets (6.5.3.4, 6.7.2.1p15 to p18)

-- members placed in order
abbrev pub placed_all : (Placed → Layout → Placed) → (Shape → Option Layout) → Placed → List Member → Option Placed
placed_all step of p [] = Some p
placed_all step of p (m ∷ ms) = option_and_then (λ (l : Layout). placed_all step of (step p l) ms) (of m.type.shape)

abbrev pub members_layout : AggKind → (Shape → Option Layout) → List Member → Option AggLayout
members_layout Struct of ms = option_map finished (placed_all placed_behind of nothing_placed ms)
members_layout Union of ms = option_map finished (placed_all placed_over of nothing_placed ms)
members_layout Enum of ms = Some (record { whole = scalar (size_of int); offsets = [] })

-- the layout of an aggregate within which others are nested at most so deep; no nesting is deeper than there are aggregates, since each is completed behind those within it
abbrev pub layout_within : ℕ → Types → ℕ → Option AggLayout
layout_within zero t a = None
layout_within (suc depth) t a = option_and_then (λ (x : Aggregate). option_and_then (members_layout x.kind (member_in t.abi (λ b. whole_of (layout_within depth t b)))) x.members) (aggregate_at t a)

abbrev pub aggregate_layout : Types → ℕ → Option AggLayout
aggregate_layout t a = layout_within (length t.aggs) t a

abbrev pub layout_of : Types → Shape → Option Layout
layout_of t s = layout_in t.abi (λ a. whole_of (aggregate_layout t a)) s

-- the size of a complete object type, none of another
abbrev pub size_in : Types → Shape → Option ℕ
size_in t s = option_map (λ (l : Layout). l.size) (layout_of t s)

abbrev pub alignment_in : Types → Shape → Option ℕ
alignment_in t s = option_map (λ (l : Layout). l.align) (layout_of t s)

-- the offset of a member, by its place
abbrev pub offset_in : Types → ℕ → ℕ → Option ℕ
offset_in t a i = option_and_then (λ (l : AggLayout). slice_get l.offsets i) (aggregate_layout t a)

abbrev pub is_above : ℕ → Option ℕ → Bool
is_above n None = false
is_above n (Some m) = nat_lt n m

-- the type has more bytes than a type may have (own)
abbrev pub is_too_big : Types → Shape → Bool
is_too_big t s = is_above object_bytes (size_in t s)

-- const parts (6.3.2.1p1)

abbrev pub any_of : {A : Type 0} → (A → Bool) → List A → Bool
any_of test [] = false
any_of test (x ∷ xs) = test x || any_of test xs

-- an object is const, or an array with const elements, or a structure or union with such a member, at any depth
abbrev pub has_constant : (ℕ → Bool) → Quals → Shape → Bool
has_constant of q (ArrayType p s bound) = q.constant || has_constant of p s
has_constant of q (AggType a) = q.constant || of a
has_constant of q _ = q.constant

abbrev pub constant_within : ℕ → Types → ℕ → Bool
constant_within zero t a = false
constant_within (suc depth) t a = elim (members_of t a) [ None ↦ false | Some ms ↦ any_of (λ (m : Member). has_constant (constant_within depth t) m.type.quals m.type.shape) ms ]

abbrev pub has_constant_part : Types → CType → Bool
has_constant_part t c = has_constant (constant_within (length t.aggs) t) c.quals c.shape

-- members by their names (6.5.2.3p1): those of an anonymous structure or union are members of the one around it (6.7.2.1p13)

-- a step to a member: the aggregate, the member's place in it, and the member
pub record Hop : Type 0 where
  pub aggregate : ℕ
  pub index : ℕ
  pub member : Member

abbrev pub hop_to : ℕ → ℕ → Member → Hop
hop_to a i m = record { aggregate = a; index = i; member = m }

abbrev pub within_shape : (ℕ → Option (List Hop)) → Shape → Option (List Hop)
within_shape look (AggType a) = look a
within_shape look _ = None

-- the steps to the name from one member
abbrev pub from_member : (ℕ → Option (List Hop)) → NameId → ℕ → ℕ → Member → Option (List Hop)
from_member look x a i m = elim m.name [ Some y ↦ if same_name x y then Some (hop_to a i m ∷ []) else None | None ↦ option_map (λ hops. hop_to a i m ∷ hops) (within_shape look m.type.shape) ]

abbrev pub from_members : (ℕ → Option (List Hop)) → NameId → ℕ → ℕ → List Member → Option (List Hop)
from_members look x a i [] = None
from_members look x a i (m ∷ ms) = elim (from_member look x a i m) [ Some hops ↦ Some hops | None ↦ from_members look x a (suc i) ms ]

abbrev pub path_within : ℕ → Types → NameId → ℕ → Option (List Hop)
path_within zero t x a = None
path_within (suc depth) t x a = elim (members_of t a) [ None ↦ None | Some ms ↦ from_members (path_within depth t x) x a 0 ms ]

-- the steps from a structure or union to its member of the name
abbrev pub member_path : Types → NameId → Shape → Option (List Hop)
member_path t x (AggType a) = if is_integer t (AggType a) then None else path_within (length t.aggs) t x a
member_path t x _ = None
