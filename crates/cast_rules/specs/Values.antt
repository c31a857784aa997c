-- Definition: what the value of an operand is, once an lvalue is read and an array or a function has become a pointer, and what the values of two operands are together (C11 6.2.5, 6.3.2.1p2 to p4).
use Rattle.std.specs.Prelude.{ℕ, if◌then◌else◌}
use Rattle.cil_base.specs.declared.kinds.IntKind.{IntKind}
use Rattle.cil_base.specs.declared.kinds.IntKind.TheVariants.{Int}
use Rattle.type_graph.specs.declared.nodes.Quals.{Quals}
use Rattle.type_graph.specs.Arena.{Graph}
use Rattle.type_graph.specs.Shapes.{Shape, VoidType, IntType, PtrType, ArrayType, FuncType, AggType, shape}
use Rattle.unit_types.specs.Normal.{plain}
use Rattle.cast_rules.specs.declared.operands.Operand.{Operand}
use Rattle.cast_rules.specs.Types.{is_enum}

-- none, a number of a kind, a pointer to a type with these qualifiers, or a struct or union
pub data Value : Type 0 where
  NoValue : Value
  Number : (kind : IntKind) → Value
  Pointer : (quals : Quals) (to : Shape) → Value
  Record' : (aggregate : ℕ) → Value

-- of an operand of a type; an enumerated type computes in int (6.7.2.2p4, own)
abbrev pub value_in : Graph → Shape → Value
value_in g VoidType = NoValue
value_in g (IntType kind) = Number kind
value_in g (PtrType quals s) = Pointer quals s
value_in g (ArrayType quals s bound) = Pointer quals s
value_in g (FuncType ret params proto variadic) = Pointer plain (FuncType ret params proto variadic)
value_in g (AggType a) = if is_enum g a then Number Int else Record' a

-- the type of an operand as it is written
abbrev pub shape_of : Graph → Operand → Shape
shape_of g e = shape g.nodes e.exp.ty.of.0

abbrev pub value_of : Graph → Operand → Value
value_of g e = value_in g (shape_of g e)

-- two numbers, a pointer and a number in either order, two pointers, or no such two
pub data Paired : Type 0 where
  Numbers : (left right : IntKind) → Paired
  PointerNumber : (quals : Quals) (to : Shape) → Paired
  NumberPointer : (quals : Quals) (to : Shape) → Paired
  Pointers : (left : Quals) (to : Shape) (right : Quals) (of : Shape) → Paired
  Others : Paired

abbrev pub pointer_with : Quals → Shape → Value → Paired
pointer_with p s NoValue = Others
pointer_with p s (Number kind) = PointerNumber p s
pointer_with p s (Pointer q t) = Pointers p s q t
pointer_with p s (Record' a) = Others

abbrev pub number_with : IntKind → Value → Paired
number_with kind NoValue = Others
number_with kind (Number right) = Numbers kind right
number_with kind (Pointer q t) = NumberPointer q t
number_with kind (Record' a) = Others

abbrev pub paired : Value → Value → Paired
paired NoValue v = Others
paired (Number kind) v = number_with kind v
paired (Pointer p s) v = pointer_with p s v
paired (Record' a) v = Others

abbrev pub pair_of : Graph → Operand → Operand → Paired
pair_of g a b = paired (value_of g a) (value_of g b)
