-- Definition: by which first constraint an operator over two operands, a subscript and a conditional are refused (C11 6.5.2.1, 6.5.5 to 6.5.12, 6.5.15), and the type that they have.
use Rattle.std.specs.Prelude.{ℕ, Bool, true, false, ◌||◌, ◌&&◌, not, nat_eq, Option, Some, None, is_some, if◌then◌else◌}
use Rattle.cil_base.specs.declared.faults.Code.{Code}
use Rattle.cil_base.specs.declared.faults.Code.TheVariants.{Incomplete, Operand as OperandCode}
use Rattle.cil_base.specs.declared.kinds.IntKind.{IntKind}
use Rattle.cil_base.specs.declared.operators.BinOp.{BinOp}
use Rattle.cil_base.specs.Usual.{common}
use Rattle.type_graph.specs.Arena.{Graph}
use Rattle.type_graph.specs.Shapes.{Shape, IntType}
use Rattle.cast_rules.specs.declared.operands.Operand.{Operand}
use Rattle.operator_kinds.specs.declared.groups.Group.{Group}
use Rattle.operator_kinds.specs.declared.groups.Group.TheVariants as group
use Rattle.operator_kinds.specs.Groups.{group_of}
use Rattle.cast_rules.specs.Meetings.{compatible, meeting, meeting_of}
use Rattle.cast_rules.specs.Rows.{row}
use Rattle.cast_rules.specs.Types.{is_unreadable, gives_scalar, is_object, is_incomplete}
use Rattle.cast_rules.specs.Values.{Value, NoValue, Number, Pointer, Record', Paired, Numbers, PointerNumber, NumberPointer, Pointers, Others, shape_of, value_of, pair_of}

-- both operands have arithmetic type; such two any operator takes, since each arithmetic type is an integer type (6.5.5p2, 6.5.7p2, 6.5.10p2)
abbrev pub are_numbers : Paired → Bool
are_numbers (Numbers left right) = true
are_numbers (PointerNumber p s) = false
are_numbers (NumberPointer q t) = false
are_numbers (Pointers p s q t) = false
are_numbers Others = false

-- both are arithmetic, or one is a pointer to an object type and the other an integer (6.5.6p2)
abbrev pub are_added : Paired → Bool
are_added (Numbers left right) = true
are_added (PointerNumber p s) = is_object s
are_added (NumberPointer q t) = is_object t
are_added (Pointers p s q t) = false
are_added Others = false

-- pointers to compatible object types, qualified in any way (6.5.6p3, 6.5.8p2)
abbrev pub are_compatible_objects : Graph → Shape → Shape → Bool
are_compatible_objects g s t = (is_object s && is_object t) && compatible g s t

-- both are arithmetic, or both are pointers to compatible object types, or the left one is a pointer to an object type and the right one an integer (6.5.6p3)
abbrev pub are_subtracted : Graph → Paired → Bool
are_subtracted g (Numbers left right) = true
are_subtracted g (PointerNumber p s) = is_object s
are_subtracted g (NumberPointer q t) = false
are_subtracted g (Pointers p s q t) = are_compatible_objects g s t
are_subtracted g Others = false

-- both are arithmetic, or both are pointers to compatible object types (6.5.8p2)
abbrev pub are_ordered : Graph → Paired → Bool
are_ordered g (Numbers left right) = true
are_ordered g (PointerNumber p s) = false
are_ordered g (NumberPointer q t) = false
are_ordered g (Pointers p s q t) = are_compatible_objects g s t
are_ordered g Others = false

-- the constraint of an operator; what is compared for equality is arithmetic, or meets (6.5.9p2)
abbrev pub are_operands : Group → Graph → Bool → Bool → Paired → Bool
are_operands group.Numbers g left_null right_null pair = are_numbers pair
are_operands group.Shift g left_null right_null pair = are_numbers pair
are_operands group.Add g left_null right_null pair = are_added pair
are_operands group.Sub g left_null right_null pair = are_subtracted g pair
are_operands group.Order g left_null right_null pair = are_ordered g pair
are_operands group.Equality g left_null right_null pair = are_numbers pair || is_some (meeting g left_null right_null pair)

-- what is added to a pointer, or to which one is added, steps over what that points to (6.5.6p2)
abbrev pub adds_over_incomplete : Graph → Paired → Bool
adds_over_incomplete g (Numbers left right) = false
adds_over_incomplete g (PointerNumber p s) = is_incomplete g s
adds_over_incomplete g (NumberPointer q t) = is_incomplete g t
adds_over_incomplete g (Pointers p s q t) = false
adds_over_incomplete g Others = false

-- what is subtracted from a pointer (6.5.6p3)
abbrev pub subtracts_over_incomplete : Graph → Paired → Bool
subtracts_over_incomplete g (Numbers left right) = false
subtracts_over_incomplete g (PointerNumber p s) = is_incomplete g s
subtracts_over_incomplete g (NumberPointer q t) = false
subtracts_over_incomplete g (Pointers p s q t) = is_incomplete g s || is_incomplete g t
subtracts_over_incomplete g Others = false

abbrev pub steps_over_incomplete : Group → Graph → Paired → Bool
steps_over_incomplete group.Numbers g pair = false
steps_over_incomplete group.Shift g pair = false
steps_over_incomplete group.Add g pair = adds_over_incomplete g pair
steps_over_incomplete group.Sub g pair = subtracts_over_incomplete g pair
steps_over_incomplete group.Order g pair = false
steps_over_incomplete group.Equality g pair = false

-- one of two operands has no value
abbrev pub is_one_unreadable : Graph → Operand → Operand → Bool
is_one_unreadable g a b = is_unreadable g (shape_of g a) || is_unreadable g (shape_of g b)

-- a binary operator (6.5.5 to 6.5.12)
abbrev pub binary_row : BinOp → Graph → Operand → Operand → Option Code
binary_row op g a b =
    row (is_one_unreadable g a b || steps_over_incomplete (group_of op) g (pair_of g a b)) Incomplete
    (row (not (are_operands (group_of op) g a.null b.null (pair_of g a b))) OperandCode None)

-- one operand of a subscript is a pointer to an object type, the other an integer (6.5.2.1p1)
abbrev pub is_subscript : Paired → Bool
is_subscript (Numbers left right) = false
is_subscript (PointerNumber p s) = is_object s
is_subscript (NumberPointer q t) = is_object t
is_subscript (Pointers p s q t) = false
is_subscript Others = false

-- a subscript (6.5.2.1): what the pointer points to is complete
abbrev pub subscript_row : Graph → Operand → Operand → Option Code
subscript_row g a b =
    row (is_one_unreadable g a b || adds_over_incomplete g (pair_of g a b)) Incomplete
    (row (not (is_subscript (pair_of g a b))) OperandCode None)

-- both are void, or both have one struct or union type (6.5.15p3)
abbrev pub is_one_type : Value → Value → Bool
is_one_type NoValue NoValue = true
is_one_type NoValue (Number kind) = false
is_one_type NoValue (Pointer q t) = false
is_one_type NoValue (Record' b) = false
is_one_type (Number kind) v = false
is_one_type (Pointer p s) v = false
is_one_type (Record' a) NoValue = false
is_one_type (Record' a) (Number kind) = false
is_one_type (Record' a) (Pointer q t) = false
is_one_type (Record' a) (Record' b) = nat_eq a b

-- the type of operands that are not both numbers: their own, or where they meet (6.5.15p3, p5, p6)
abbrev pub others_shape : Graph → Operand → Operand → Option Shape
others_shape g a b = if is_one_type (value_of g a) (value_of g b) then Some (shape_of g a) else meeting_of g a b

abbrev pub branch_shape : Graph → Operand → Operand → Option Shape
branch_shape g a b = by (pair_of g a b)
  where
    by : Paired → Option Shape
    by (Numbers left right) = Some (IntType (common left right))
    by (PointerNumber p s) = others_shape g a b
    by (NumberPointer q t) = others_shape g a b
    by (Pointers p s q t) = others_shape g a b
    by Others = others_shape g a b

-- a conditional: the first operand is scalar, and the others have a type together (6.5.15p2, p3)
abbrev pub conditional_row : Graph → Operand → Operand → Operand → Option Code
conditional_row g c a b =
    row (is_unreadable g (shape_of g c) || is_one_unreadable g a b) Incomplete
    (row (not (gives_scalar g (shape_of g c)) || not (is_some (branch_shape g a b))) OperandCode None)
