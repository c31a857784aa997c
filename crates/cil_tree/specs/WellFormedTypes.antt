-- Definition: which types a program may have (own, over C11 6.2.5 and 6.7.2.1 to 6.7.6), one rule for each sentence.
use Rattle.std.specs.Prelude.{◌≡◌, ℕ, suc, ◌<◌, ◌≤◌, ◌&&◌, ◌||◌, not, Bool, true, false, nat_lt, if◌then◌else◌, List, [], ◌∷◌, Option, Some, None, is_some, length, pos}
use Rattle.std.specs.List.{list_all}
use Rattle.std.specs.Ordering.{int_eq}
use Rattle.cil_base.specs.Limits.{object_bytes}
use Rattle.cil_base.specs.declared.kinds.IntKind.TheVariants.{Int as int}
use Rattle.cil_base.specs.Arithmetic.{fits}
use Rattle.type_graph.specs.declared.aggregates.Aggregate.{Aggregate}
use Rattle.type_graph.specs.declared.aggregates.Member.{Member}
use Rattle.type_graph.specs.declared.layout.Layout.{Layout}
use Rattle.type_graph.specs.declared.nodes.Quals.{Quals}
use Rattle.type_graph.specs.declared.nodes.Node.{Node}
use Rattle.type_graph.specs.declared.nodes.Node.TheVariants.{Ptr, Array}
use Rattle.type_graph.specs.Shapes.{Shape, Shapes, VoidType, IntType, PtrType, ArrayType, FuncType, AggType, NoTypes, MoreTypes, shape}
use Rattle.type_graph.specs.Arena.{Graph, complete_shape, members_fit, held}
use Rattle.type_graph.specs.Layouts.{AggLayout, layout, agg_layout}
use Rattle.cil_tree.specs.Typing.{same_shape, is_void, is_array, is_function, is_enum}

abbrev pub is_unqualified : Quals → Bool
is_unqualified q = not q.constant && not q.restricted

-- qualifiers are empty
abbrev pub node_is_unqualified : Node → Bool
node_is_unqualified (Ptr q) = is_unqualified q.quals
node_is_unqualified (Array q bound) = is_unqualified q.quals
node_is_unqualified _ = true

-- each member of an aggregate, if it has any
abbrev pub each_member : (Member → Bool) → Aggregate → Bool
each_member of x = elim x.members [ None ↦ true | Some ms ↦ list_all of ms ]

abbrev pub members_are_unqualified : Aggregate → Bool
members_are_unqualified x = each_member (λ (m : Member). is_unqualified m.ty.quals) x

-- each aggregate has a tag
abbrev pub has_tag : Aggregate → Bool
has_tag x = is_some x.tag

-- each enum is complete
abbrev pub enum_is_complete : Aggregate → Bool
enum_is_complete x = not (is_enum x.kind) || is_some x.members

-- an enumerator has type int, and its value is one of int (C11 6.7.2.2p2, p3); a member of a struct or union has value 0
abbrev pub member_fits : Graph → Bool → Member → Bool
member_fits g enum m = if enum then same_shape (shape g.nodes m.ty.of.0) (IntType int) && fits int m.value else int_eq m.value (pos 0)

abbrev pub members_have_kind : Graph → Aggregate → Bool
members_have_kind g x = each_member (member_fits g (is_enum x.kind)) x

-- a complete aggregate has a member
abbrev pub is_nonempty : List Member → Bool
is_nonempty [] = false
is_nonempty (m ∷ ms) = true

abbrev pub has_member : Aggregate → Bool
has_member x = elim x.members [ None ↦ true | Some ms ↦ is_nonempty ms ]

-- members of structs and unions are complete, but for a flexible array as a struct's last member behind another (C11 6.7.2.1p3, p18)
abbrev pub flexible_is_last : Graph → Aggregate → Bool
flexible_is_last g x = elim x.members [ None ↦ true | Some ms ↦ members_fit g x.kind false ms ]

-- enums have smaller numbers than structs and unions
abbrev pub enums_first : List Aggregate → Bool
enums_first [] = true
enums_first (x ∷ xs) = if is_enum x.kind then enums_first xs else list_all (λ (y : Aggregate). not (is_enum y.kind)) xs

-- the aggregate that a type has within itself has a smaller number
abbrev pub holds_below : ℕ → Shape → Bool
holds_below a s = elim (held s) [ None ↦ true | Some b ↦ nat_lt b a ]

abbrev mutual
  -- aggregates that are elements of an array anywhere in the type have smaller numbers
  pub elements_below : ℕ → Shape → Bool
  elements_below a VoidType = true
  elements_below a (IntType kind) = true
  elements_below a (PtrType q s) = elements_below a s
  elements_below a (ArrayType q s bound) = holds_below a s && elements_below a s
  elements_below a (FuncType ret params proto variadic) = elements_below a ret && all_elements_below a params
  elements_below a (AggType b) = true

  pub all_elements_below : ℕ → Shapes → Bool
  all_elements_below a NoTypes = true
  all_elements_below a (MoreTypes s more) = elements_below a s && all_elements_below a more

-- an aggregate stands after those that it holds by value, and after those that are elements of an array anywhere in its members' types
abbrev pub stands_after : Graph → ℕ → Aggregate → Bool
stands_after g a x = each_member (λ (m : Member). holds_below a (shape g.nodes m.ty.of.0) && elements_below a (shape g.nodes m.ty.of.0)) x

abbrev pub all_stand_after : Graph → ℕ → List Aggregate → Bool
all_stand_after g a [] = true
all_stand_after g a (x ∷ xs) = stands_after g a x && all_stand_after g (suc a) xs

-- an array's bound is at least 1
abbrev pub bound_fits : Option ℕ → Bool
bound_fits None = true
bound_fits (Some n) = nat_lt 0 n

-- an array's element is a complete object type, and its bound is at least 1
abbrev pub array_fits : Graph → Node → Bool
array_fits g (Array q bound) = complete_shape g.aggs (shape g.nodes q.of.0) && bound_fits bound
array_fits g _ = true

-- a function's result is no function and no array; a parameter is neither void nor function nor array
abbrev pub is_result : Shape → Bool
is_result s = not (is_function s) && not (is_array s)

abbrev pub is_parameter : Shape → Bool
is_parameter s = not (is_void s) && (not (is_function s) && not (is_array s))

abbrev pub are_parameters : Shapes → Bool
are_parameters NoTypes = true
are_parameters (MoreTypes s more) = is_parameter s && are_parameters more

abbrev pub function_fits : Shape → Bool
function_fits (FuncType ret params proto variadic) = is_result ret && are_parameters params
function_fits _ = true

abbrev pub has_parameter : Shapes → Bool
has_parameter NoTypes = false
has_parameter (MoreTypes s more) = true

-- an unprototyped function type has no parameters and is not variadic, and a variadic one has a parameter
abbrev pub prototype_fits : Shape → Bool
prototype_fits (FuncType ret params proto variadic) = (proto || (not (has_parameter params) && not variadic)) && (not variadic || has_parameter params)
prototype_fits _ = true

-- a rule for the shape of each type of the graph
abbrev pub each_shape : (Shape → Bool) → Graph → Type 0
each_shape of g = (t : ℕ) → t < length g.nodes → of (shape g.nodes t) ≡ true

-- a complete type has no more bytes than an object may have (own)
abbrev pub TypesAreSmall : Graph → Type 0
TypesAreSmall g = (t : ℕ) (l : Layout) → layout g t ≡ Some l → l.size ≤ object_bytes

-- nor has a complete aggregate, also where no type of the graph names it (own)
abbrev pub AggregatesAreSmall : Graph → Type 0
AggregatesAreSmall g = (a : ℕ) (l : AggLayout) → agg_layout g a ≡ Some l → l.whole.size ≤ object_bytes

-- the rules of types but for missing tags and the order of aggregates; numbers of types in range and kinds of the data model are what an arena always has
pub record TypesFit (g : Graph) : Type 0 where
  pub unqualified : list_all node_is_unqualified g.nodes ≡ true
  pub members_unqualified : list_all members_are_unqualified g.aggs ≡ true
  pub enums_complete : list_all enum_is_complete g.aggs ≡ true
  pub members_kind : list_all (members_have_kind g) g.aggs ≡ true
  pub members : list_all has_member g.aggs ≡ true
  pub flexible : list_all (flexible_is_last g) g.aggs ≡ true
  pub arrays : list_all (array_fits g) g.nodes ≡ true
  pub functions : each_shape function_fits g
  pub prototypes : each_shape prototype_fits g
  pub small : TypesAreSmall g
  pub small_aggregates : AggregatesAreSmall g

-- the rules of types
pub record AreTypes (g : Graph) : Type 0 where
  pub fit : TypesFit g
  pub tagged : list_all has_tag g.aggs ≡ true
  pub enums_first : enums_first g.aggs ≡ true
  pub ordered : all_stand_after g 0 g.aggs ≡ true
