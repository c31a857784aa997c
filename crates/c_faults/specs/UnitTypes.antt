-- Definition: the types of a translation unit as a graph (C11 6.2.5): those of its members and of what it declares with external linkage (6.2.2p2), each with the types in it; and what it declares so.
use Rattle.std.specs.Prelude.{ℕ, zero, suc, ◌+◌, Bool, true, false, not, List, [], ◌∷◌, ◌++◌, Option, Some, None, length, is_some, codes, decimal}
use Rattle.cil_base.specs.declared.kinds.Abi.{Abi}
use Rattle.cil_base.specs.declared.numbers.AggId.{AggId}
use Rattle.cil_base.specs.declared.numbers.NameId.{NameId}
use Rattle.cil_base.specs.declared.numbers.TypeId.{TypeId}
use Rattle.type_graph.specs.declared.aggregates.Aggregate.{Aggregate}
use Rattle.type_graph.specs.declared.aggregates.Member.{Member}
use Rattle.type_graph.specs.declared.nodes.Node.{Node}
use Rattle.type_graph.specs.declared.nodes.Node.TheVariants as node
use Rattle.type_graph.specs.declared.nodes.QualType.{QualType}
use Rattle.type_graph.specs.declared.nodes.Quals.{Quals}
use Rattle.type_graph.specs.Arena.{Graph}
use Rattle.type_graph.specs.Shapes.{Shape, Shapes, VoidType, IntType, PtrType, ArrayType, FuncType, AggType, NoTypes, MoreTypes}
use Rattle.c_rules.specs.Types.{Types, Member as UnitMember, Aggregate as UnitAggregate, same_name, any_of}
use Rattle.c_typing.specs.Scopes.{Linkage, External, Internal, NoLinkage, Entity, Env}
use Rattle.c_typing.specs.Faults.{place_of_text}

-- types, each behind those in it

-- the nodes so far, and the number of the type that is the last of them
pub record Listed : Type 0 where
  pub nodes : List Node
  pub number : TypeId

pub record AllListed : Type 0 where
  pub nodes : List Node
  pub numbers : List TypeId

abbrev pub last : List Node → Node → Listed
last ns n = record { nodes = ns ++ n ∷ []; number = record { 0 = length ns } }

abbrev pub over : (QualType → Node) → Quals → Listed → Listed
over f q l = last l.nodes (f (record { quals = q; of = l.number }))

abbrev pub over_all : (TypeId → List TypeId → Node) → TypeId → AllListed → Listed
over_all f result l = last l.nodes (f result l.numbers)

abbrev pub with_first : TypeId → AllListed → AllListed
with_first t l = record { nodes = l.nodes; numbers = t ∷ l.numbers }

abbrev mutual
  pub listed : List Node → Shape → Listed
  listed ns VoidType = last ns node.Void
  listed ns (IntType kind) = last ns (node.Int kind)
  listed ns (PtrType q s) = over node.Ptr q (listed ns s)
  listed ns (ArrayType q s bound) = over (λ t. node.Array t bound) q (listed ns s)
  listed ns (FuncType ret ps proto variadic) = over_all (λ r ts. node.Func proto variadic r ts) (listed ns ret).number (all_listed (listed ns ret).nodes ps)
  listed ns (AggType a) = last ns (node.Agg (record { 0 = a }))

  pub all_listed : List Node → Shapes → AllListed
  all_listed ns NoTypes = record { nodes = ns; numbers = [] }
  all_listed ns (MoreTypes s ss) = with_first (listed ns s).number (all_listed (listed ns s).nodes ss)

-- members

-- the name that an anonymous member gets (own): `__m___k`, with the least k that no other member of its structure or union has; a name that has no number yet has one behind all others
abbrev pub made_name : List (List ℕ) → ℕ → NameId
made_name names k = elim (place_of_text 0 (codes "__m___" ++ decimal k) names) [ Some x ↦ x | None ↦ record { 0 = length names + k } ]

abbrev pub is_taken : NameId → List NameId → Bool
is_taken x taken = any_of (same_name x) taken

-- at most so many are tried
abbrev pub free_name : ℕ → ℕ → List (List ℕ) → List NameId → NameId
free_name zero k names taken = made_name names k
free_name (suc n) k names taken = elim (is_taken (made_name names k) taken) [ false ↦ made_name names k | true ↦ free_name n (suc k) names taken ]

abbrev pub own_names : List UnitMember → List NameId
own_names [] = []
own_names (m ∷ ms) = elim m.name [ Some x ↦ x ∷ own_names ms | None ↦ own_names ms ]

abbrev pub name_in : List (List ℕ) → List NameId → Option NameId → NameId
name_in names taken (Some x) = x
name_in names taken None = free_name (length taken) 0 names taken

pub record MembersListed : Type 0 where
  pub nodes : List Node
  pub members : List Member

abbrev pub with_member : Member → MembersListed → MembersListed
with_member m l = record { nodes = l.nodes; members = m ∷ l.members }

abbrev pub member_of : NameId → UnitMember → TypeId → Member
member_of x m t = record { name = x; anonymous = not (is_some m.name); ty = record { quals = m.type.quals; of = t }; value = m.value }

abbrev pub members_listed : List (List ℕ) → List NameId → List Node → List UnitMember → MembersListed
members_listed names taken ns [] = record { nodes = ns; members = [] }
members_listed names taken ns (m ∷ ms) =
    with_member (member_of (name_in names taken m.name) m (listed ns m.type.shape).number) (members_listed names (name_in names taken m.name ∷ taken) (listed ns m.type.shape).nodes ms)

-- structures, unions and enumerated types

pub record AggregatesListed : Type 0 where
  pub nodes : List Node
  pub aggregates : List Aggregate

abbrev pub with_aggregate : UnitAggregate → Option (List Member) → AggregatesListed → AggregatesListed
with_aggregate x ms l = record { nodes = l.nodes; aggregates = record { kind = x.kind; tag = x.tag; members = ms } ∷ l.aggregates }

abbrev pub aggregates_listed : List (List ℕ) → List Node → List UnitAggregate → AggregatesListed
aggregates_listed names ns [] = record { nodes = ns; aggregates = [] }
aggregates_listed names ns (x ∷ xs) = elim x.members [
  | None ↦ with_aggregate x None (aggregates_listed names ns xs)
  | Some ms ↦ with_aggregate x (Some (members_listed names (own_names ms) ns ms).members) (aggregates_listed names (members_listed names (own_names ms) ns ms).nodes xs)
]

-- what a unit declares of an external name (6.2.2p2): its type there, whether it is a function that is defined with `( )` (6.7.6.3p14), and the token of the first declaration
pub record Declared : Type 0 where
  pub name : NameId
  pub type : TypeId
  pub bare : Bool
  pub first : ℕ

pub record DeclaredListed : Type 0 where
  pub nodes : List Node
  pub declared : List Declared

abbrev pub external_name : Entity → Option NameId
external_name e = elim e.linkage [ External ↦ e.name | Internal ↦ None | NoLinkage ↦ None ]

abbrev pub with_declared : NameId → Entity → TypeId → DeclaredListed → DeclaredListed
with_declared x e t l = record { nodes = l.nodes; declared = record { name = x; type = t; bare = e.bare; first = e.first } ∷ l.declared }

abbrev pub declared_listed : List Node → List Entity → DeclaredListed
declared_listed ns [] = record { nodes = ns; declared = [] }
declared_listed ns (e ∷ es) = elim (external_name e) [
  | None ↦ declared_listed ns es
  | Some x ↦ with_declared x e (listed ns e.type.shape).number (declared_listed (listed ns e.type.shape).nodes es)
]

-- the graph of a unit, and what it declares
pub record UnitTypes : Type 0 where
  pub graph : Graph
  pub declared : List Declared

abbrev pub unit_types : Abi → AggregatesListed → DeclaredListed → UnitTypes
unit_types abi a d = record { graph = record { abi = abi; nodes = d.nodes; aggs = a.aggregates; completed = [] }; declared = d.declared }

abbrev pub types_of : List (List ℕ) → Env → UnitTypes
types_of names env = unit_types env.types.abi (aggregates_listed names [] env.types.aggs) (declared_listed (aggregates_listed names [] env.types.aggs).nodes env.entities)
