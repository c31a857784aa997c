-- Device: the rules of types, gathered by type and by aggregate.
use Rattle.std.specs.Prelude.{◌≡◌, ℕ, suc, max, ◌<◌, ◌≤◌, ◌&&◌, ◌||◌, not, if◌then◌else◌, Bool, true, false, List, [], ◌∷◌, Option, Some, None, slice_get, length}
use Rattle.type_graph.specs.declared.aggregates.Aggregate.{Aggregate}
use Rattle.type_graph.specs.declared.aggregates.Member.{Member}
use Rattle.type_graph.specs.declared.nodes.Node.{Node}
use Rattle.type_graph.specs.Shapes.{Shape, Shapes, VoidType, IntType, PtrType, ArrayType, FuncType, AggType, NoTypes, MoreTypes, shape}
use Rattle.type_graph.specs.Arena.{Graph, held, complete, complete_shape, flexible_shape, members_fit}
use Rattle.type_graph.specs.declared.aggregates.AggKind.{AggKind}
use Rattle.std.specs.List.{list_all}
use Rattle.cil_tree.specs.Typing.{is_enum}
use Rattle.cil_check.specs.declared.elements.Tops.{Tops}
use Rattle.cil_tree.specs.WellFormedTypes.{is_unqualified, node_is_unqualified, has_tag, member_fits, is_nonempty, enums_first, array_fits, function_fits, prototype_fits, holds_below, elements_below}

-- the rules of one type
abbrev pub node_rules : Graph → Node → Shape → Bool
node_rules g n s = node_is_unqualified n && (array_fits g n && (function_fits s && prototype_fits s))

abbrev pub node_fits_at : Graph → ℕ → Bool
node_fits_at g t = elim (slice_get g.nodes t) [ None ↦ true | Some n ↦ node_rules g n (shape g.nodes t) ]

-- one more than the number of the aggregate that a type has within itself, 0 where there is none
abbrev pub held_top : Shape → ℕ
held_top s = elim (held s) [ None ↦ 0 | Some b ↦ suc b ]

abbrev mutual
  -- one more than the greatest number of an aggregate that is an element of an array anywhere in the type
  pub element_top : Shape → ℕ
  element_top VoidType = 0
  element_top (IntType kind) = 0
  element_top (PtrType q s) = element_top s
  element_top (ArrayType q s bound) = max (held_top s) (element_top s)
  element_top (FuncType ret params proto variadic) = max (element_top ret) (elements_top params)
  element_top (AggType b) = 0

  pub elements_top : Shapes → ℕ
  elements_top NoTypes = 0
  elements_top (MoreTypes s more) = max (element_top s) (elements_top more)

-- the members' types are among the first n
abbrev pub AreThere : ℕ → List Member → Type 0
AreThere n [] = Unit {0}
AreThere n (m ∷ ms) = (m.ty.of.0 < n) × AreThere n ms

abbrev pub is_empty : List Member → Bool
is_empty [] = true
is_empty (m ∷ ms) = false

-- a member of that type may stand before these
abbrev pub stands_here : Graph → Bool → Bool → List Member → ℕ → Bool
stands_here g in_struct behind rest t = complete g t || (in_struct && (behind && (is_empty rest && flexible_shape g.aggs (shape g.nodes t))))

-- the entry of a type in the table: what it has within itself, its greatest element of an array, and whether it is complete
pub record IsTop (g : Graph) (x : Tops) (s : Shape) : Type 0 where
  pub held : x.held ≡ held_top s
  pub elements : x.elements ≡ element_top s
  pub complete : x.complete ≡ complete_shape g.aggs s

-- the table has the entries of the first types
pub record AreTops (tops : List Tops) (g : Graph) : Type 0 where
  pub few : length tops ≤ length g.nodes
  pub each : (t : ℕ) (x : Tops) → slice_get tops t ≡ Some x → IsTop g x (shape g.nodes t)

-- a member holds by value, and has as elements of arrays, only aggregates below the number
abbrev pub member_is_after : Graph → ℕ → Member → Bool
member_is_after g a m = holds_below a (shape g.nodes m.ty.of.0) && elements_below a (shape g.nodes m.ty.of.0)

-- the rules of the members of an aggregate with the number
abbrev pub members_rules : Graph → ℕ → AggKind → List Member → Bool
members_rules g a kind ms = list_all (λ (m : Member). is_unqualified m.ty.quals) ms && (list_all (member_fits g (is_enum kind)) ms && (is_nonempty ms && (members_fit g kind false ms && list_all (member_is_after g a) ms)))

-- the rules of one aggregate
abbrev pub aggregate_rules : Graph → ℕ → Aggregate → Bool
aggregate_rules g a x = has_tag x && elim x.members [ None ↦ not (is_enum x.kind) | Some ms ↦ members_rules g a x.kind ms ]

abbrev pub aggregate_fits_at : Graph → ℕ → Bool
aggregate_fits_at g a = elim (slice_get g.aggs a) [ None ↦ true | Some x ↦ aggregate_rules g a x ]

-- no enum stands behind another aggregate, where one was seen or not
abbrev pub ordered : Bool → List Aggregate → Bool
ordered seen [] = true
ordered seen (x ∷ xs) = if is_enum x.kind then not seen && ordered seen xs else ordered true xs

-- the members of an aggregate are there
abbrev pub MembersThere : ℕ → Option (List Member) → Type 0
MembersThere n None = Unit {0}
MembersThere n (Some ms) = AreThere n ms

abbrev pub HasMembers : ℕ → Aggregate → Type 0
HasMembers n x = MembersThere n x.members

-- the rules of types but for sizes
pub record KeepRules (g : Graph) : Type 0 where
  pub nodes : (t : ℕ) → t < length g.nodes → node_fits_at g t ≡ true
  pub aggregates : (a : ℕ) → a < length g.aggs → aggregate_fits_at g a ≡ true
  pub enums : enums_first g.aggs ≡ true
