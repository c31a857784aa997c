-- Definition: what a list of typed translation units does when it is linked and run: each object and function has its meaning by its own unit's types (C11 5.1.2, 6.2.4, 6.7.9, 6.9).
use Rattle.std.specs.Prelude.{ℕ, Bool, true, false, not, ◌&&◌, codes, List, [], map, take, Option, Some, None, option_map, slice_get}
use Rattle.std.specs.Str.{bytes_eq}
use Rattle.cil_base.specs.declared.kinds.Mode.{Mode}
use Rattle.cil_base.specs.declared.runs.Outcome.{Outcome}
use Rattle.byte_mem.specs.declared.values.Byte.{Byte}
use Rattle.byte_mem.specs.Steps.{◌>>=◌}
use Rattle.type_graph.specs.declared.aggregates.Aggregate.{Aggregate as GraphAggregate}
use Rattle.type_graph.specs.declared.aggregates.Member.{Member as GraphMember}
use Rattle.type_graph.specs.declared.nodes.Node.{Node}
use Rattle.type_graph.specs.Arena.{Graph}
use Rattle.type_graph.specs.Shapes.{Shape, VoidType, IntType, PtrType, ArrayType, FuncType, AggType, shape}
use Rattle.execution.specs.States.{State, with_memory, Result}
use Rattle.execution.specs.Data.{Datum}
use Rattle.execution.specs.Loops.{Body as Substatements}
use Rattle.execution.specs.Calls.{Enter, Meaning, Object, Code, value_at_end, returns, leaves}
use Rattle.execution.specs.Linking.{Linkable}
use Rattle.execution.specs.Runs.{run}
use Rattle.typed_tree.specs.declared.units.EntityKind.{EntityKind}
use Rattle.typed_tree.specs.declared.units.EntityKind.TheVariants.{External, Internal, StaticLocal, Literal}
use Rattle.typed_tree.specs.Units.{Unit as TypedTree, Entity as TreeEntity, Definition, Declared, Zero, Initialised, Body, Function}
use Rattle.c_rules.specs.Types.{Aggregate, Member, Types, is_function}
use Rattle.typed_values.specs.Units.{start_of}
use Rattle.c_semantics.specs.Values.{kind_of, kinds_of}
use Rattle.c_semantics.specs.Places.{Activation, array_number, numbers_from, arrays_in_stmts}
use Rattle.c_semantics.specs.Units.{activation, protect_parameters, zeros, image}
use Rattle.typed_semantics.specs.Statements.{block, t_meaning}

-- an object with static storage duration or a function, as it is linked and run
pub record TypedEntity : Type 0 where
  pub internal : Bool
  pub name : List ℕ
  pub shape : Shape
  pub read_only : Bool
  pub tentative : Bool
  pub definition : Definition

pub record TypedUnit : Type 0 where
  pub types : Types
  pub entities : List TypedEntity

-- functions (6.9.1)

-- how many objects an activation has: parameters and declared objects, compound literals, and arrays in values
abbrev pub object_count : Activation → Function → ℕ
object_count a f = array_number a (arrays_in_stmts f.body)

-- a body ends all objects of its activation (6.2.4p6): the parameters, which its call would end just behind it; each other one has been ended by its own block, if that was left
abbrev pub body_in : Activation → Function → Datum → Enter → State → Result Datum
body_in a f end enter s =
    leaves a.number (numbers_from 0 (object_count a f))
    (returns end (block a f f.body 0 (λ t. t_meaning a f enter (Substatements f.body 0) None (with_memory t (protect_parameters a 0 (take f.params f.locals) t.memory))) s))

abbrev pub body_meaning : Types → List ℕ → Function → Datum → Enter → ℕ → State → Result Datum
body_meaning t entities f end enter act s = body_in (activation t entities f act) f end enter s

abbrev pub function_meaning : Types → List ℕ → Bool → Function → Shape → Option Meaning
function_meaning t entities main f (FuncType ret params proto variadic) =
    Some (Code (record {
      abi = t.abi;
      parameters = kinds_of t params;
      result = kind_of t ret;
      start = start_of (FuncType ret params proto variadic);
      body = body_meaning t entities f (value_at_end main (kind_of t ret));
    }))
function_meaning t entities main f VoidType = None
function_meaning t entities main f (IntType kind) = None
function_meaning t entities main f (PtrType q s) = None
function_meaning t entities main f (ArrayType q s bound) = None
function_meaning t entities main f (AggType a) = None

-- objects (6.2.4p3, 6.7.9)

abbrev pub object : TypedEntity → Option (List Byte) → Option Meaning
object e bytes = option_map (Object e.read_only) bytes

-- the function that a run begins with (5.1.2.2.1p1)
abbrev pub is_main : TypedEntity → Bool
is_main e = not e.internal && bytes_eq e.name (codes "main")

abbrev pub definition_meaning : Types → TypedEntity → List ℕ → Definition → Option Meaning
definition_meaning t e entities Declared = None
definition_meaning t e entities Zero = object e (zeros t e.shape)
definition_meaning t e entities (Initialised is) = object e (zeros t e.shape >>= image t entities e.shape is)
definition_meaning t e entities (Body f) = function_meaning t entities (is_main e) f e.shape

abbrev pub linkable : Types → TypedEntity → Linkable
linkable t e = record { internal = e.internal; name = e.name; function = is_function e.shape; tentative = e.tentative; means = λ entities. definition_meaning t e entities e.definition }

abbrev pub linkables : TypedUnit → List Linkable
linkables u = map (linkable u.types) u.entities

-- the outcome of typed units that are linked and run in a mode, with those words and that input, within so many units of the budget
abbrev pub RunTyped : List TypedUnit → Mode → List (List ℕ) → List ℕ → ℕ → Outcome
RunTyped units mode words input n = run (map linkables units) mode words input n

-- typed trees of units, whose types are a graph and whose names are numbers of texts

abbrev pub member_of : List Node → GraphMember → Member
member_of nodes m = record { name = elim m.anonymous [ true ↦ None | false ↦ Some m.name ]; type = record { quals = m.ty.quals; shape = shape nodes m.ty.of.0 }; value = m.value }

abbrev pub aggregate_of : List Node → GraphAggregate → Aggregate
aggregate_of nodes x = record { kind = x.kind; tag = x.tag; members = option_map (map (member_of nodes)) x.members; begun = false }

abbrev pub types_of : Graph → Types
types_of g = record { abi = g.abi; aggs = map (aggregate_of g.nodes) g.aggs }

abbrev pub text_at : List (List ℕ) → ℕ → List ℕ
text_at texts n = elim (slice_get texts n) [ None ↦ [] | Some text ↦ text ]

abbrev pub is_external : EntityKind → Bool
is_external External = true
is_external Internal = false
is_external StaticLocal = false
is_external Literal = false

-- an object with external linkage that is defined without an initialiser is defined by tentative definitions alone (6.9.2p2)
abbrev pub is_zero : Definition → Bool
is_zero Declared = false
is_zero Zero = true
is_zero (Initialised is) = false
is_zero (Body f) = false

abbrev pub entity_of : List (List ℕ) → TreeEntity → TypedEntity
entity_of texts e = record { internal = not (is_external e.kind); name = text_at texts e.name.0; shape = e.shape; read_only = e.constant; tentative = is_external e.kind && is_zero e.definition; definition = e.definition }

abbrev pub unit_of : List (List ℕ) → TypedTree → TypedUnit
unit_of texts u = record { types = types_of u.types; entities = map (entity_of texts) u.entities }
