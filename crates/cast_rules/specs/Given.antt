-- Definition: the type of what an operator gives (C11 6.3.1.1p2, 6.3.1.8p1, 6.3.2.1p3, p4, 6.5.3 to 6.5.12).
use Rattle.std.specs.Prelude.{◌≡◌, Option, Some, None}
use Rattle.cil_base.specs.declared.kinds.Abi.{Abi}
use Rattle.cil_base.specs.declared.kinds.IntKind.{IntKind}
use Rattle.cil_base.specs.declared.kinds.IntKind.TheVariants.{Int}
use Rattle.cil_base.specs.declared.operators.UnOp.{UnOp}
use Rattle.cil_base.specs.declared.operators.UnOp.TheVariants.{Neg, Compl, Not}
use Rattle.cil_base.specs.declared.operators.BinOp.{BinOp}
use Rattle.cil_base.specs.Integer.{long_of}
use Rattle.cil_base.specs.Usual.{promoted}
use Rattle.operator_kinds.specs.Kinds.{given_kind}
use Rattle.type_graph.specs.Arena.{Graph}
use Rattle.type_graph.specs.Growth.{Grows, KeepsAggregates}
use Rattle.type_graph.specs.Shapes.{Shape, VoidType, IntType, PtrType, ArrayType, FuncType, AggType, shape}
use Rattle.typed_tree.specs.declared.expressions.TypedExp.{TypedExp}
use Rattle.unit_types.specs.Normal.{plain}
use Rattle.operator_kinds.specs.declared.groups.Group.{Group}
use Rattle.operator_kinds.specs.declared.groups.Group.TheVariants as group
use Rattle.cast_rules.specs.declared.operands.Operand.{Operand}
use Rattle.operator_kinds.specs.Groups.{group_of}
use Rattle.cast_rules.specs.Types.{kind_in}
use Rattle.cast_rules.specs.Values.{Paired, Numbers, PointerNumber, NumberPointer, Pointers, Others, pair_of}

-- an expression has a type of that shape
abbrev pub IsOf : Graph → Shape → TypedExp → Type 0
IsOf g s e = shape g.nodes e.ty.of.0 ≡ s

-- the type of the value of an operand: an array becomes a pointer to its first element, a function a pointer to it (6.3.2.1p3, p4)
abbrev pub value_shape : Shape → Shape
value_shape VoidType = VoidType
value_shape (IntType kind) = IntType kind
value_shape (PtrType quals s) = PtrType quals s
value_shape (ArrayType quals s bound) = PtrType quals s
value_shape (FuncType ret params proto variadic) = PtrType plain (FuncType ret params proto variadic)
value_shape (AggType a) = AggType a

-- the type to which the integer promotions take an integer type (6.3.1.1p2); an enumerated type goes to int (own)
abbrev pub promoted_shape : Graph → Shape → Shape
promoted_shape g s = elim (kind_in g s) [ None ↦ s | Some kind ↦ IntType (promoted kind) ]

-- what the value of an operand points to (6.5.3.2p4)
abbrev pub pointee_shape : Shape → Option Shape
pointee_shape VoidType = None
pointee_shape (IntType kind) = None
pointee_shape (PtrType quals s) = Some s
pointee_shape (ArrayType quals s bound) = Some s
pointee_shape (FuncType ret params proto variadic) = Some (FuncType ret params proto variadic)
pointee_shape (AggType a) = None

-- `-` and `~` compute in the promoted type, `!` gives an int (6.5.3.3p3 to p5)
abbrev pub unary_shape : UnOp → Graph → Shape → Shape
unary_shape Neg g s = promoted_shape g s
unary_shape Compl g s = promoted_shape g s
unary_shape Not g s = IntType Int

-- of a pointer and a number in either order: the pointer's own (6.5.6p8)
abbrev pub moved_shape : Paired → Option Shape
moved_shape (Numbers left right) = None
moved_shape (PointerNumber p s) = Some (PtrType p s)
moved_shape (NumberPointer q t) = Some (PtrType q t)
moved_shape (Pointers p s q t) = None
moved_shape Others = None

-- the element that a subscript designates (6.5.2.1p2)
abbrev pub element_shape : Paired → Option Shape
element_shape (Numbers left right) = None
element_shape (PointerNumber p s) = Some s
element_shape (NumberPointer q t) = Some t
element_shape (Pointers p s q t) = None
element_shape Others = None

-- what is subtracted from a pointer: a number leaves it its own type (6.5.6p8), a pointer gives a ptrdiff_t, which is long (6.5.6p9, own)
abbrev pub lessened_shape : Abi → Paired → Option Shape
lessened_shape abi (Numbers left right) = None
lessened_shape abi (PointerNumber p s) = Some (PtrType p s)
lessened_shape abi (NumberPointer q t) = None
lessened_shape abi (Pointers p s q t) = Some (IntType (long_of abi))
lessened_shape abi Others = None

-- of two operands of which one at least is a pointer; what is compared gives an int (6.5.8p6, 6.5.9p3)
abbrev pub pointers_shape : Group → Abi → Paired → Option Shape
pointers_shape group.Numbers abi pair = None
pointers_shape group.Shift abi pair = None
pointers_shape group.Add abi pair = moved_shape pair
pointers_shape group.Sub abi pair = lessened_shape abi pair
pointers_shape group.Order abi pair = Some (IntType Int)
pointers_shape group.Equality abi pair = Some (IntType Int)

-- of two operands that a binary operator takes
abbrev pub paired_shape : Group → Abi → Paired → Option Shape
paired_shape op abi (Numbers left right) = Some (IntType (given_kind op left right))
paired_shape op abi (PointerNumber p s) = pointers_shape op abi (PointerNumber p s)
paired_shape op abi (NumberPointer q t) = pointers_shape op abi (NumberPointer q t)
paired_shape op abi (Pointers p s q t) = pointers_shape op abi (Pointers p s q t)
paired_shape op abi Others = None

abbrev pub binary_shape : BinOp → Graph → Operand → Operand → Option Shape
binary_shape op g a b = paired_shape (group_of op) g.abi (pair_of g a b)

-- types were added alone
pub record Extends (old new : Graph) : Type 0 where
  pub grows : Grows old new
  pub aggregates : KeepsAggregates old new
