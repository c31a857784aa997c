-- Device: the types that the typing of expressions sees: a kind, a pointer to a type of the graph, or another type of the graph. A pointer to a type need not be in the graph itself.
use Rattle.std.specs.Prelude.{◌≡◌, ◌<◌, Bool, true, false, List, [], Option, length}
use Rattle.std.specs.Option.{option_map, option_and_then}
use Rattle.cil_base.specs.declared.numbers.TypeId.{TypeId}
use Rattle.type_graph.specs.Shapes.{Shape, VoidType, IntType, PtrType, ArrayType, FuncType, AggType, shape}
use Rattle.type_graph.specs.Arena.{Graph}
use Rattle.type_graph.specs.declared.nodes.Node.{Node}
use Rattle.cil_tree.specs.declared.expressions.Offset.{Offset, Field, Index'}
use Rattle.cil_tree.specs.Typing.{Scope, scope_of, member_type, element_type, type_of}
use Rattle.cil_tree.specs.View.{program_of, body_of, exp_of}
use Rattle.cil_check.specs.declared.scope.Scope.{Scope as Within}
use Rattle.cil_check.specs.declared.seen.Seen.{Seen}
use Rattle.cil_check.specs.declared.seen.Seen.TheVariants.{Int, Ptr, Other}

-- the type that is seen
abbrev pub seen_shape : Graph → Seen → Shape
seen_shape g (Int kind) = IntType kind
seen_shape g (Ptr q) = PtrType q.quals (shape g.nodes q.of.0)
seen_shape g (Other t) = shape g.nodes t.0

-- neither a kind nor a pointer
abbrev pub is_other : Shape → Bool
is_other VoidType = true
is_other (IntType kind) = false
is_other (PtrType q s) = false
is_other (ArrayType q s bound) = true
is_other (FuncType ret params proto variadic) = true
is_other (AggType a) = true

-- the types that it names are of the graph, and kinds and pointers are seen as such
abbrev pub IsThere : Graph → Seen → Type 0
IsThere g (Int kind) = Unit {0}
IsThere g (Ptr q) = q.of.0 < length g.nodes
IsThere g (Other t) = (t.0 < length g.nodes) × (is_other (shape g.nodes t.0) ≡ true)

abbrev pub told : Graph → Option Seen → Option Shape
told g o = option_map (seen_shape g) o

-- the type of a number that may be missing
abbrev pub at : Graph → Option TypeId → Option Shape
at g o = option_map (λ (t : TypeId). shape g.nodes t.0) o

-- a scope of which the graph alone is known
abbrev pub bare : Graph → Scope
bare g = record { program = record { graph = g; names = []; globals = [] }; locals = []; labels = [] }

-- the scope of a function
abbrev pub seen_scope : Within → Scope
seen_scope s = scope_of (program_of s.names.now s.unit.now) (body_of s.unit.now.graph.nodes s.names.now s.body.now)

-- the type of the part that one step leads to
abbrev pub steps_to : Scope → List Node → Offset → Shape → Option Shape
steps_to c nodes (Field number) s = member_type c.program.graph s number
steps_to c nodes (Index' p index) s = option_and_then (element_type s) (type_of c (exp_of nodes index))
