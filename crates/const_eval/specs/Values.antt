-- Definition: values that are known during translation (C11 6.6p2, p7), and what the operators of constant expressions give of them (own: no address is converted to an integer or compared).
use Rattle.std.specs.Prelude.{ℕ, Bool, true, false, ◌&&◌, Option, Some, None, if◌then◌else◌, ℤ, pos, ◌+ℤ◌, ◌*ℤ◌, neg_ℤ, int_le, unsigned_abs, not}
use Rattle.std.specs.Ordering.{int_eq}
use Rattle.std.specs.Option.{option_map, option_and_then}
use Rattle.cil_base.specs.Limits.{object_bytes}
use Rattle.cil_base.specs.declared.kinds.Abi.{Abi}
use Rattle.cil_base.specs.declared.kinds.IntKind.{IntKind}
use Rattle.cil_base.specs.declared.kinds.IntKind.TheVariants.{Int as int}
use Rattle.cil_base.specs.declared.numbers.EntityId.{EntityId}
use Rattle.cil_base.specs.declared.constants.Constant.{Constant}
use Rattle.cil_base.specs.declared.constants.Constant.TheVariants as constant
use Rattle.cil_base.specs.declared.operators.BinOp.{BinOp}
use Rattle.cil_base.specs.declared.operators.BinOp.TheVariants.{Mul, Div, Rem, Add, Sub, Shl, Shr, Lt, Gt, Le, Ge, Eq, Ne, And, Xor, Or}
use Rattle.cil_base.specs.declared.operators.UnOp.{UnOp}
use Rattle.cil_base.specs.declared.operators.UnOp.TheVariants.{Neg, Compl, Not}
use Rattle.cil_base.specs.Integer.{IsOf, wrapped, ulong_of}
use Rattle.cil_base.specs.Arithmetic.{fits, arith_of, unary_of, is_shift, told}
use Rattle.type_graph.specs.declared.aggregates.AggKind.{AggKind}
use Rattle.type_graph.specs.declared.aggregates.AggKind.TheVariants.{Struct, Union, Enum}
use Rattle.type_graph.specs.declared.layout.Layout.{Layout}
use Rattle.type_graph.specs.Arena.{Graph}
use Rattle.type_graph.specs.Layouts.{layout_in, agg_layout, whole_of}
use Rattle.type_graph.specs.Shapes.{Shape, VoidType, IntType, PtrType, ArrayType, FuncType, AggType}
use Rattle.unit_types.specs.Classes.{kind_of as aggregate_kind, offset_in}
use Rattle.const_eval.specs.declared.known.Spot.{Spot}
use Rattle.const_eval.specs.declared.known.Known.{Known}
use Rattle.const_eval.specs.declared.known.Known.TheVariants.{Integer, Number, Address, Function}
use Rattle.typed_tree.specs.declared.expressions.Logic.{Logic}
use Rattle.typed_tree.specs.declared.expressions.Logic.TheVariants.{And as both, Or as either}

-- the constant of a value: a number of pointer type is one of the unsigned kind of a pointer's size
abbrev pub constant_of : Abi → Known → Constant
constant_of abi (Integer kind n) = constant.Int kind n
constant_of abi (Number n) = constant.Int (ulong_of abi) n
constant_of abi (Address spot) = constant.Address spot.entity (pos spot.offset)
constant_of abi (Function n) = constant.Function n

-- the kind of an integer type: every enum has that of int (own)
abbrev pub enum_kind : Option AggKind → Option IntKind
enum_kind None = None
enum_kind (Some Struct) = None
enum_kind (Some Union) = None
enum_kind (Some Enum) = Some int

abbrev pub kind_in : Graph → Shape → Option IntKind
kind_in g VoidType = None
kind_in g (IntType kind) = Some kind
kind_in g (PtrType quals s) = None
kind_in g (ArrayType quals s bound) = None
kind_in g (FuncType ret params proto variadic) = None
kind_in g (AggType a) = enum_kind (aggregate_kind g a)

-- the size of a complete object type (C11 6.5.3.4)
abbrev pub size_in : Graph → Shape → Option ℕ
size_in g s = option_map (λ (l : Layout). l.size) (layout_in g.abi (λ b. whole_of (agg_layout g b)) s)

-- an integer constant of a type
abbrev pub integer_in : Graph → Shape → ℤ → Option Known
integer_in g s n = option_and_then (λ kind. if fits kind n then Some (Integer kind n) else None) (kind_in g s)

-- the object or the function that an entity is, at the type that is visible; of an object of unknown size (own) the largest is taken
abbrev pub size_or : Option ℕ → ℕ
size_or None = object_bytes
size_or (Some n) = n

abbrev pub object_in : Graph → Shape → EntityId → Known
object_in g s n = Address (record { entity = n; offset = 0; size = size_or (size_in g s) })

abbrev pub entity_in : Graph → Shape → EntityId → Known
entity_in g VoidType n = object_in g VoidType n
entity_in g (IntType kind) n = object_in g (IntType kind) n
entity_in g (PtrType quals s) n = object_in g (PtrType quals s) n
entity_in g (ArrayType quals s bound) n = object_in g (ArrayType quals s bound) n
entity_in g (FuncType ret params proto variadic) n = Function n
entity_in g (AggType a) n = object_in g (AggType a) n

-- 1 or 0 as int (C11 6.5.3.3p5, 6.5.8p6, 6.5.13p3)
abbrev pub told_as_int : Bool → Known
told_as_int holds = Integer int (told holds)

-- whether an integer differs from zero; of a pointer it is not known
abbrev pub truth_of : Known → Option Bool
truth_of (Integer kind n) = Some (not (int_eq n (pos 0)))
truth_of (Number n) = None
truth_of (Address spot) = None
truth_of (Function n) = None

-- what a first operand decides alone (C11 6.5.13p4, 6.5.14p4)
abbrev pub decided_by : Logic → Bool → Option Bool
decided_by both true = None
decided_by both false = Some false
decided_by either true = Some true
decided_by either false = None

-- a value converted to an integer kind (C11 6.3.1.2, 6.3.1.3)
abbrev pub to_integer : IntKind → Known → Option Known
to_integer kind (Integer from n) = Some (Integer kind (wrapped kind n))
to_integer kind (Number n) = None
to_integer kind (Address spot) = None
to_integer kind (Function n) = None

-- a value converted to a pointer type (C11 6.3.2.3)
abbrev pub to_pointer : Abi → Known → Known
to_pointer abi (Integer from n) = Number (wrapped (ulong_of abi) n)
to_pointer abi (Number n) = Number n
to_pointer abi (Address spot) = Address spot
to_pointer abi (Function n) = Function n

abbrev pub to_enum : Option IntKind → Known → Option Known
to_enum None known = None
to_enum (Some kind) known = to_integer kind known

abbrev pub converted_in : Graph → Shape → Known → Option Known
converted_in g VoidType known = None
converted_in g (IntType kind) known = to_integer kind known
converted_in g (PtrType quals s) known = Some (to_pointer g.abi known)
converted_in g (ArrayType quals s bound) known = None
converted_in g (FuncType ret params proto variadic) known = None
converted_in g (AggType a) known = to_enum (enum_kind (aggregate_kind g a)) known

-- a unary operator (C11 6.5.3.3)
abbrev pub unary_kind : UnOp → IntKind → IntKind
unary_kind Neg kind = kind
unary_kind Compl kind = kind
unary_kind Not kind = int

abbrev pub unary_in : UnOp → Known → Option Known
unary_in op (Integer kind n) = option_map (Integer (unary_kind op kind)) (unary_of op kind n)
unary_in op (Number n) = None
unary_in op (Address spot) = None
unary_in op (Function n) = None

-- the kind of what a binary operator gives of integers (C11 6.5.5 to 6.5.12)
abbrev pub binary_kind : BinOp → IntKind → IntKind
binary_kind Mul kind = kind
binary_kind Div kind = kind
binary_kind Rem kind = kind
binary_kind Add kind = kind
binary_kind Sub kind = kind
binary_kind Shl kind = kind
binary_kind Shr kind = kind
binary_kind Lt kind = int
binary_kind Gt kind = int
binary_kind Le kind = int
binary_kind Ge kind = int
binary_kind Eq kind = int
binary_kind Ne kind = int
binary_kind And kind = kind
binary_kind Xor kind = kind
binary_kind Or kind = kind

-- operands of one kind, but for the right one of a shift
abbrev pub computed_of : BinOp → IntKind → ℤ → ℤ → Option Known
computed_of op kind a b = option_map (Integer (binary_kind op kind)) (arith_of op kind a (if is_shift op then b else wrapped kind b))

-- an address that is some bytes away: in the same object, or at its end (C11 6.5.6p8)
abbrev pub moved_to : Spot → ℤ → Option Known
moved_to spot at = if int_le (pos 0) at && int_le at (pos spot.size) then Some (Address (record spot { offset = unsigned_abs at })) else None

abbrev pub moved_by : Spot → ℤ → Option Known
moved_by spot by = moved_to spot (pos spot.offset +ℤ by)

-- the sum of an address and an integer, in either order, in steps of a size
abbrev pub sum_of : Known → Known → ℕ → Option Known
sum_of (Address spot) (Integer kind n) size = moved_by spot (n *ℤ pos size)
sum_of (Integer kind n) (Address spot) size = moved_by spot (n *ℤ pos size)
sum_of _ _ size = None

-- the difference of an address and an integer
abbrev pub difference_of : Known → Known → ℕ → Option Known
difference_of (Address spot) (Integer kind n) size = moved_by spot (neg_ℤ (n *ℤ pos size))
difference_of _ _ size = None

-- the size of what a pointer points to
abbrev pub pointee_in : Graph → Shape → Option ℕ
pointee_in g VoidType = None
pointee_in g (IntType kind) = None
pointee_in g (PtrType quals s) = size_in g s
pointee_in g (ArrayType quals s bound) = None
pointee_in g (FuncType ret params proto variadic) = None
pointee_in g (AggType a) = None

-- a binary operator on an address and an integer
abbrev pub stepped_in : Graph → Shape → BinOp → Known → Known → Option Known
stepped_in g s Add left right = option_and_then (sum_of left right) (pointee_in g s)
stepped_in g s Sub left right = option_and_then (difference_of left right) (pointee_in g s)
stepped_in g s _ left right = None

-- a binary operator whose result has a type (C11 6.5.5 to 6.5.12)
abbrev pub binary_in : Graph → Shape → BinOp → Known → Known → Option Known
binary_in g s op (Integer kind a) (Integer other b) = computed_of op kind a b
binary_in g s op left right = stepped_in g s op left right

-- a member of a struct or union at an address (C11 6.5.2.3p3)
abbrev pub member_at : Graph → Shape → ℕ → Known → Option Known
member_at g s i (Address spot) = option_and_then (λ n. moved_by spot (pos n)) (offset_in g s i)
member_at g s i (Integer kind n) = None
member_at g s i (Number n) = None
member_at g s i (Function n) = None

-- an integer is a value of its kind
abbrev pub IsKnown : Known → Type 0
IsKnown (Integer kind n) = IsOf kind n
IsKnown (Number n) = Unit {0}
IsKnown (Address spot) = Unit {0}
IsKnown (Function n) = Unit {0}
