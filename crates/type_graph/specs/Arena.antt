-- Definition: an arena of types: a list of nodes, a list of aggregates, and the order in which aggregates were completed; which types are complete (C11 6.2.5p1).
use Rattle.std.specs.Prelude.{◌≡◌, ℕ, suc, ◌<◌, ◌^◌, Bool, true, false, ◌&&◌, ◌||◌, List, [], ◌∷◌, Option, Some, None, length, nat_eq, is_some, slice_get, MatchOption, if◌then◌else◌}
use Rattle.std.specs.Option.{option_and_then}
use Rattle.cil_base.specs.declared.kinds.Abi.{Abi}
use Rattle.cil_base.specs.declared.numbers.AggId.{AggId}
use Rattle.cil_base.specs.declared.numbers.TypeId.{TypeId}
use Rattle.cil_base.specs.Integer.{has_kind}
use Rattle.type_graph.specs.declared.aggregates.AggKind.{AggKind}
use Rattle.type_graph.specs.declared.aggregates.AggKind.TheVariants.{Struct, Union, Enum}
use Rattle.type_graph.specs.declared.aggregates.Member.{Member}
use Rattle.type_graph.specs.declared.aggregates.Aggregate.{Aggregate}
use Rattle.type_graph.specs.declared.nodes.Node.{Node}
use Rattle.type_graph.specs.declared.nodes.Node.TheVariants.{Void, Int, Ptr, Array, Func, Agg}
use Rattle.type_graph.specs.Shapes.{Shape, VoidType, IntType, PtrType, ArrayType, FuncType, AggType, shape}

pub record Graph : Type 0 where
  pub abi : Abi
  pub nodes : List Node
  pub aggs : List Aggregate
  pub completed : List AggId

-- what is added to a graph without types
abbrev pub empty_graph : Abi → Graph
empty_graph abi = record { abi = abi; nodes = []; aggs = []; completed = [] }

abbrev pub member_count : Aggregate → ℕ
member_count x = elim x.members [ None ↦ 0 | Some ms ↦ length ms ]

-- the members of an aggregate, none while it is incomplete
abbrev pub members_of : List Aggregate → ℕ → Option (List Member)
members_of aggs a = option_and_then (λ (x : Aggregate). x.members) (slice_get aggs a)

abbrev pub EachType : ℕ → List TypeId → Type 0
EachType n [] = Unit {0}
EachType n (t ∷ ts) = (t.0 < n) × EachType n ts

-- the node names only nodes below n and aggregates below m
abbrev pub NamesBelow : ℕ → ℕ → Node → Type 0
NamesBelow n m Void = Unit {0}
NamesBelow n m (Int kind) = Unit {0}
NamesBelow n m (Ptr q) = q.of.0 < n
NamesBelow n m (Array q bound) = q.of.0 < n
NamesBelow n m (Func proto variadic ret params) = (ret.0 < n) × EachType n params
NamesBelow n m (Agg a) = a.0 < m

-- an integer kind is one of the data model
abbrev pub HasKind : Abi → Node → Type 0
HasKind abi (Int kind) = has_kind abi kind ≡ true
HasKind abi Void = Unit {0}
HasKind abi (Ptr q) = Unit {0}
HasKind abi (Array q bound) = Unit {0}
HasKind abi (Func proto variadic ret params) = Unit {0}
HasKind abi (Agg a) = Unit {0}

-- complete object types (6.2.5p1): not void (p19), no array of unknown bound (p22), no aggregate before its end (p22), no function
abbrev pub complete_shape : List Aggregate → Shape → Bool
complete_shape aggs VoidType = false
complete_shape aggs (IntType kind) = true
complete_shape aggs (PtrType quals s) = true
complete_shape aggs (ArrayType quals s None) = false
complete_shape aggs (ArrayType quals s (Some n)) = complete_shape aggs s
complete_shape aggs (FuncType ret params proto variadic) = false
complete_shape aggs (AggType a) = is_some (members_of aggs a)

abbrev pub complete : Graph → ℕ → Bool
complete g t = complete_shape g.aggs (shape g.nodes t)

-- an array of unknown bound whose element is complete
abbrev pub flexible_shape : List Aggregate → Shape → Bool
flexible_shape aggs VoidType = false
flexible_shape aggs (IntType kind) = false
flexible_shape aggs (PtrType quals s) = false
flexible_shape aggs (ArrayType quals s None) = complete_shape aggs s
flexible_shape aggs (ArrayType quals s (Some n)) = false
flexible_shape aggs (FuncType ret params proto variadic) = false
flexible_shape aggs (AggType a) = false

abbrev pub is_struct : AggKind → Bool
is_struct Struct = true
is_struct Union = false
is_struct Enum = false

abbrev pub is_last : List Member → Bool
is_last [] = true
is_last (m ∷ ms) = false

-- the members that may complete an aggregate (6.7.2.1p3, p18): complete ones, and a flexible array as a struct's last member behind another
abbrev pub members_fit : Graph → AggKind → Bool → List Member → Bool
members_fit g kind behind [] = true
members_fit g kind behind (m ∷ ms) = (complete g m.ty.of.0 || (is_struct kind && (behind && (is_last ms && flexible_shape g.aggs (shape g.nodes m.ty.of.0))))) && members_fit g kind true ms

-- the aggregate that a type has within itself: its own, or that of its elements
abbrev pub held : Shape → Option ℕ
held VoidType = None
held (IntType kind) = None
held (PtrType quals s) = None
held (ArrayType quals s bound) = held s
held (FuncType ret params proto variadic) = None
held (AggType a) = Some a

-- the place of an aggregate in the order of completion, or the order's length
abbrev pub rank : List AggId → ℕ → ℕ
rank [] b = 0
rank (a ∷ order) b = if nat_eq a.0 b then 0 else suc (rank order b)

-- what a member has within itself was completed before the place r
abbrev pub HeldBelow : List AggId → ℕ → Shape → Type 0
HeldBelow order r s = MatchOption (held s) (Unit {0}) (λ b. rank order b < r)

-- the members' types are nodes, and what they have within themselves was completed before the place r
abbrev pub EachBelow : List Node → List AggId → ℕ → List Member → Type 0
EachBelow nodes order r [] = Unit {0}
EachBelow nodes order r (m ∷ ms) = (m.ty.of.0 < length nodes) × HeldBelow order r (shape nodes m.ty.of.0) × EachBelow nodes order r ms

-- a type that a member has: complete, or a flexible array
abbrev pub has_room : List Aggregate → Shape → Bool
has_room aggs s = complete_shape aggs s || flexible_shape aggs s

abbrev pub EachFits : List Aggregate → List Node → List Member → Type 0
EachFits aggs nodes [] = Unit {0}
EachFits aggs nodes (m ∷ ms) = (has_room aggs (shape nodes m.ty.of.0) ≡ true) × EachFits aggs nodes ms

-- how many aggregates have members
abbrev pub defined_count : List Aggregate → ℕ
defined_count [] = 0
defined_count (x ∷ aggs) = elim x.members [ None ↦ defined_count aggs | Some ms ↦ suc (defined_count aggs) ]

-- an arena: each node names earlier nodes and is there once, and nesting by value follows the order of completion, so that it ends
pub record IsArena (g : Graph) : Type 0 where
  pub few_nodes : length g.nodes < 2 ^ 32
  pub few_aggs : length g.aggs < 2 ^ 32
  pub grounded : (t : ℕ) (n : Node) → slice_get g.nodes t ≡ Some n → NamesBelow t (length g.aggs) n
  pub kinds : (t : ℕ) (n : Node) → slice_get g.nodes t ≡ Some n → HasKind g.abi n
  pub once : (s t : ℕ) (n : Node) → slice_get g.nodes s ≡ Some n → slice_get g.nodes t ≡ Some n → s ≡ t
  pub nested : (a : ℕ) (ms : List Member) → members_of g.aggs a ≡ Some ms → (rank g.completed a < length g.completed) × EachBelow g.nodes g.completed (rank g.completed a) ms
  pub fitting : (a : ℕ) (x : Aggregate) (ms : List Member) → slice_get g.aggs a ≡ Some x → x.members ≡ Some ms → members_fit g x.kind false ms ≡ true
  pub counted : length g.completed ≡ defined_count g.aggs
  pub ordered : (i : ℕ) (a : AggId) → slice_get g.completed i ≡ Some a → (is_some (members_of g.aggs a.0) ≡ true) × (rank g.completed a.0 ≡ i)
