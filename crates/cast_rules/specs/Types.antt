-- Definition: what the rules of the operators ask of a type (C11 6.2.5, 6.3.2.1).
use Rattle.std.specs.Prelude.{ℕ, Bool, true, false, ◌||◌, ◌&&◌, not, Option, Some, None, if◌then◌else◌}
use Rattle.cil_base.specs.declared.kinds.IntKind.{IntKind}
use Rattle.cil_base.specs.declared.kinds.IntKind.TheVariants.{Int}
use Rattle.type_graph.specs.declared.aggregates.AggKind.{AggKind}
use Rattle.type_graph.specs.declared.aggregates.AggKind.TheVariants.{Struct, Union, Enum}
use Rattle.type_graph.specs.Arena.{Graph, complete_shape}
use Rattle.type_graph.specs.Shapes.{Shape, VoidType, IntType, PtrType, ArrayType, FuncType, AggType}
use Rattle.unit_types.specs.Classes.{kind_of}

abbrev pub is_enum_kind : Option AggKind → Bool
is_enum_kind None = false
is_enum_kind (Some Struct) = false
is_enum_kind (Some Union) = false
is_enum_kind (Some Enum) = true

-- an enumerated type (6.2.5p16)
abbrev pub is_enum : Graph → ℕ → Bool
is_enum g a = is_enum_kind (kind_of g a)

-- the kind of which a value of the type is, where it is a number: an enumerated type computes in int (6.7.2.2p4, own)
abbrev pub kind_in : Graph → Shape → Option IntKind
kind_in g VoidType = None
kind_in g (IntType kind) = Some kind
kind_in g (PtrType quals s) = None
kind_in g (ArrayType quals s bound) = None
kind_in g (FuncType ret params proto variadic) = None
kind_in g (AggType a) = if is_enum g a then Some Int else None

-- an arithmetic type (6.2.5p18): the integer types (6.2.5p17)
abbrev pub is_arithmetic : Graph → Shape → Bool
is_arithmetic g VoidType = false
is_arithmetic g (IntType kind) = true
is_arithmetic g (PtrType quals s) = false
is_arithmetic g (ArrayType quals s bound) = false
is_arithmetic g (FuncType ret params proto variadic) = false
is_arithmetic g (AggType a) = is_enum g a

-- an operand whose value is a pointer: a pointer, an array or a function (6.3.2.1p3, p4)
abbrev pub gives_pointer : Shape → Bool
gives_pointer VoidType = false
gives_pointer (IntType kind) = false
gives_pointer (PtrType quals s) = true
gives_pointer (ArrayType quals s bound) = true
gives_pointer (FuncType ret params proto variadic) = true
gives_pointer (AggType a) = false

-- an operand whose value has a scalar type (6.2.5p21)
abbrev pub gives_scalar : Graph → Shape → Bool
gives_scalar g s = is_arithmetic g s || gives_pointer s

-- a scalar type
abbrev pub is_scalar : Graph → Shape → Bool
is_scalar g VoidType = false
is_scalar g (IntType kind) = true
is_scalar g (PtrType quals s) = true
is_scalar g (ArrayType quals s bound) = false
is_scalar g (FuncType ret params proto variadic) = false
is_scalar g (AggType a) = is_enum g a

abbrev pub is_void : Shape → Bool
is_void VoidType = true
is_void (IntType kind) = false
is_void (PtrType quals s) = false
is_void (ArrayType quals s bound) = false
is_void (FuncType ret params proto variadic) = false
is_void (AggType a) = false

-- a struct, union or enum whose type is incomplete has no value (6.3.2.1p2)
abbrev pub is_unreadable : Graph → Shape → Bool
is_unreadable g VoidType = false
is_unreadable g (IntType kind) = false
is_unreadable g (PtrType quals s) = false
is_unreadable g (ArrayType quals s bound) = false
is_unreadable g (FuncType ret params proto variadic) = false
is_unreadable g (AggType a) = not (complete_shape g.aggs (AggType a))

-- a struct or union type (6.2.5p20)
abbrev pub is_record : Graph → Shape → Bool
is_record g VoidType = false
is_record g (IntType kind) = false
is_record g (PtrType quals s) = false
is_record g (ArrayType quals s bound) = false
is_record g (FuncType ret params proto variadic) = false
is_record g (AggType a) = not (is_enum g a)

abbrev pub is_function : Shape → Bool
is_function VoidType = false
is_function (IntType kind) = false
is_function (PtrType quals s) = false
is_function (ArrayType quals s bound) = false
is_function (FuncType ret params proto variadic) = true
is_function (AggType a) = false

-- an object type, complete or not, `void` among them (6.2.5p1, p19)
abbrev pub is_object : Shape → Bool
is_object s = not (is_function s)

-- an incomplete object type
abbrev pub is_incomplete : Graph → Shape → Bool
is_incomplete g s = is_object s && not (complete_shape g.aggs s)
