-- Definition: what the class of a type tells of it (C11 6.2.5).
use Rattle.std.specs.Prelude.{◌≡◌, ℕ, ◌<◌, List, Option, Some, None, length, slice_get}
use Rattle.std.specs.Option.{option_and_then, option_map}
use Rattle.cil_base.specs.declared.numbers.TypeId.{TypeId}
use Rattle.type_graph.specs.declared.aggregates.AggKind.{AggKind}
use Rattle.type_graph.specs.declared.aggregates.Aggregate.{Aggregate}
use Rattle.type_graph.specs.declared.nodes.Node.{Node}
use Rattle.type_graph.specs.declared.nodes.Node.TheVariants as node
use Rattle.type_graph.specs.Shapes.{Shape, VoidType, IntType, PtrType, ArrayType, FuncType, AggType, shape, shapes_of}
use Rattle.type_graph.specs.Arena.{Graph}
use Rattle.type_graph.specs.Layouts.{offset}
use Rattle.unit_types.specs.declared.class.Class.{Class}
use Rattle.unit_types.specs.declared.class.Class.TheVariants.{Void, Int, Ptr, Array, Func, Agg}

-- a type of the graph, whose number is below another
abbrev pub IsEarlier : Graph → ℕ → TypeId → Type 0
IsEarlier g t of = (of.0 < t) × (of.0 < length g.nodes)

-- the kind of an aggregate
abbrev pub kind_of : Graph → ℕ → Option AggKind
kind_of g a = option_map (λ (x : Aggregate). x.kind) (slice_get g.aggs a)

-- the class tells the shape of the type with that number; a number beyond the graph is told as void, which is what its shape is
abbrev pub Tells : Graph → ℕ → Class → Type 0
Tells g t Void = shape g.nodes t ≡ VoidType
Tells g t (Int kind) = shape g.nodes t ≡ IntType kind
Tells g t (Ptr q) = (shape g.nodes t ≡ PtrType q.quals (shape g.nodes q.of.0)) × IsEarlier g t q.of
Tells g t (Array q bound) = (shape g.nodes t ≡ ArrayType q.quals (shape g.nodes q.of.0) bound) × IsEarlier g t q.of
Tells g t (Func ret count proto variadic) = (params : List TypeId) × (shape g.nodes t ≡ FuncType (shape g.nodes ret.0) (shapes_of (shape g.nodes) params) proto variadic) × (length params ≡ count) × IsEarlier g t ret
Tells g t (Agg kind a) = (shape g.nodes t ≡ AggType a.0) × (kind_of g a.0 ≡ Some kind)

-- the offset of a member of a struct or union type, or of an enumerator, where the type is complete and has it
abbrev pub offset_in : Graph → Shape → ℕ → Option ℕ
offset_in g VoidType i = None
offset_in g (IntType kind) i = None
offset_in g (PtrType quals s) i = None
offset_in g (ArrayType quals s bound) i = None
offset_in g (FuncType ret params proto variadic) i = None
offset_in g (AggType a) i = offset g a i

-- the parameters of a node's function type
abbrev pub params_of : Node → Option (List TypeId)
params_of node.Void = None
params_of (node.Int kind) = None
params_of (node.Ptr q) = None
params_of (node.Array q bound) = None
params_of (node.Func proto variadic ret params) = Some params
params_of (node.Agg a) = None

-- a parameter of a function type
abbrev pub param_of : Graph → ℕ → ℕ → Option TypeId
param_of g t i = option_and_then (λ ps. slice_get ps i) (option_and_then params_of (slice_get g.nodes t))
