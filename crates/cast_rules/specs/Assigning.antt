-- Definition: what may be assigned to an object (C11 6.5.16.1p1), and by which first constraint a conversion as by assignment, an assignment, an increment and a decrement are refused (C11 6.5.2.4, 6.5.3.1, 6.5.16).
use Rattle.std.specs.Prelude.{Bool, true, false, ◌||◌, ◌&&◌, not, Option, Some, None}
use Rattle.cil_base.specs.declared.faults.Code.{Code}
use Rattle.cil_base.specs.declared.faults.Code.TheVariants.{Incomplete, NotLvalue, NotModifiable, Operand as OperandCode, Assignment}
use Rattle.cil_base.specs.declared.kinds.IntKind.TheVariants.{Bool as Boolean}
use Rattle.cil_base.specs.declared.operators.BinOp.{BinOp}
use Rattle.cil_base.specs.Kinds.{same_kind}
use Rattle.type_graph.specs.declared.nodes.Quals.{Quals}
use Rattle.type_graph.specs.Arena.{Graph}
use Rattle.type_graph.specs.Shapes.{Shape, VoidType, IntType, PtrType, ArrayType, FuncType, AggType}
use Rattle.typed_tree.specs.Places.{is_place}
use Rattle.typed_tree.specs.View.{typed_of}
use Rattle.cast_rules.specs.declared.operands.Operand.{Operand}
use Rattle.operator_kinds.specs.declared.groups.Group.{Group}
use Rattle.operator_kinds.specs.declared.groups.Group.TheVariants as group
use Rattle.operator_kinds.specs.Groups.{group_of}
use Rattle.cast_rules.specs.Meetings.{compatible, meet_in_void}
use Rattle.cast_rules.specs.Pairs.{steps_over_incomplete}
use Rattle.cast_rules.specs.Rows.{row}
use Rattle.cast_rules.specs.Types.{is_arithmetic, is_void, is_function, is_record, is_object, is_incomplete, is_unreadable}
use Rattle.cast_rules.specs.Values.{Value, NoValue, Number, Pointer, Record', Paired, Numbers, PointerNumber, NumberPointer, Pointers, Others, shape_of, value_of, pair_of}

-- the first qualifiers hold all of the second
abbrev pub has_all : Quals → Quals → Bool
has_all p q = (p.constant || not q.constant) && (p.restricted || not q.restricted)

abbrev pub is_number : Value → Bool
is_number NoValue = false
is_number (Number kind) = true
is_number (Pointer quals s) = false
is_number (Record' a) = false

abbrev pub is_address : Value → Bool
is_address NoValue = false
is_address (Number kind) = false
is_address (Pointer quals s) = true
is_address (Record' a) = false

-- the left operand has arithmetic type, and the right has arithmetic type
abbrev pub assigns_number : Graph → Shape → Operand → Bool
assigns_number g to e = is_arithmetic g to && is_number (value_of g e)

-- the left operand has a struct or union type that is compatible with the type of the right
abbrev pub assigns_record : Graph → Shape → Operand → Bool
assigns_record g to e = is_record g to && (is_record g (shape_of g e) && compatible g to (shape_of g e))

-- what the left pointer points to is compatible with what the right one points to, or one is void and the other an object type; and it has all its qualifiers
abbrev pub may_point : Graph → Quals → Shape → Quals → Shape → Bool
may_point g p s q t = has_all p q && (compatible g s t || meet_in_void s t)

abbrev pub points_to : Graph → Quals → Shape → Value → Bool
points_to g p s NoValue = false
points_to g p s (Number kind) = false
points_to g p s (Pointer q t) = may_point g p s q t
points_to g p s (Record' a) = false

-- both are pointers
abbrev pub assigns_pointer : Graph → Shape → Operand → Bool
assigns_pointer g VoidType e = false
assigns_pointer g (IntType kind) e = false
assigns_pointer g (PtrType p s) e = points_to g p s (value_of g e)
assigns_pointer g (ArrayType quals s bound) e = false
assigns_pointer g (FuncType ret params proto variadic) e = false
assigns_pointer g (AggType a) e = false

-- the left operand is a pointer, and the right is a null pointer constant
abbrev pub assigns_null : Shape → Operand → Bool
assigns_null VoidType e = false
assigns_null (IntType kind) e = false
assigns_null (PtrType p s) e = e.null
assigns_null (ArrayType quals s bound) e = false
assigns_null (FuncType ret params proto variadic) e = false
assigns_null (AggType a) e = false

-- the left operand has type _Bool, and the right is a pointer
abbrev pub assigns_truth : Graph → Shape → Operand → Bool
assigns_truth g VoidType e = false
assigns_truth g (IntType kind) e = same_kind kind Boolean && is_address (value_of g e)
assigns_truth g (PtrType p s) e = false
assigns_truth g (ArrayType quals s bound) e = false
assigns_truth g (FuncType ret params proto variadic) e = false
assigns_truth g (AggType a) e = false

-- the cases of 6.5.16.1p1
abbrev pub assignable : Graph → Shape → Operand → Bool
assignable g to e = assigns_number g to e || (assigns_record g to e || (assigns_pointer g to e || (assigns_null to e || assigns_truth g to e)))

-- a conversion as by assignment (6.5.16.1p1)
abbrev pub convert_row : Graph → Shape → Operand → Option Code
convert_row g to e = row (is_unreadable g (shape_of g e)) Incomplete (row (not (assignable g to e)) Assignment None)

-- an lvalue has an object type other than void (6.3.2.1p1)
abbrev pub is_lvalue : Graph → Operand → Bool
is_lvalue g e = is_place (typed_of g.nodes e.exp) && not (is_void (shape_of g e) || is_function (shape_of g e))

-- `=`, where it is known whether the left operand is modifiable (6.5.16p2, 6.5.16.1p1)
abbrev pub simple_row : Bool → Graph → Operand → Operand → Option Code
simple_row modifiable g place value =
    row (is_unreadable g (shape_of g value)) Incomplete
    (row (not (is_lvalue g place)) NotLvalue
    (row (not modifiable) NotModifiable
    (row (not (assignable g (shape_of g place) value)) Assignment None)))

-- what is added to a pointer, or subtracted from it (6.5.16.2p1)
abbrev pub is_moved : Group → Shape → Bool
is_moved group.Numbers s = false
is_moved group.Shift s = false
is_moved group.Add s = is_object s
is_moved group.Sub s = is_object s
is_moved group.Order s = false
is_moved group.Equality s = false

-- a pointer to an object type and an integer where that is added or subtracted; else both are arithmetic (6.5.16.2p1, p2)
abbrev pub are_compound_operands : Group → Paired → Bool
are_compound_operands op (Numbers left right) = true
are_compound_operands op (PointerNumber p s) = is_moved op s
are_compound_operands op (NumberPointer q t) = false
are_compound_operands op (Pointers p s q t) = false
are_compound_operands op Others = false

-- a compound assignment (6.5.16p2, 6.5.16.2p1, p2)
abbrev pub compound_row : Bool → BinOp → Graph → Operand → Operand → Option Code
compound_row modifiable op g place value =
    row (is_unreadable g (shape_of g value) || steps_over_incomplete (group_of op) g (pair_of g place value)) Incomplete
    (row (not (is_lvalue g place)) NotLvalue
    (row (not modifiable) NotModifiable
    (row (not (are_compound_operands (group_of op) (pair_of g place value))) OperandCode None)))

abbrev pub assign_row : Bool → Option BinOp → Graph → Operand → Operand → Option Code
assign_row modifiable op g place value = elim op [ None ↦ simple_row modifiable g place value | Some op ↦ compound_row modifiable op g place value ]

abbrev pub steps_over : Graph → Value → Bool
steps_over g NoValue = false
steps_over g (Number kind) = false
steps_over g (Pointer p s) = is_incomplete g s
steps_over g (Record' a) = false

-- the operand is of arithmetic type, or a pointer to an object type (6.5.2.4p1, 6.5.3.1p1)
abbrev pub is_stepped : Value → Bool
is_stepped NoValue = false
is_stepped (Number kind) = true
is_stepped (Pointer p s) = is_object s
is_stepped (Record' a) = false

-- `++` and `--` (6.5.2.4p1, 6.5.3.1p1)
abbrev pub step_row : Bool → Graph → Operand → Option Code
step_row modifiable g place =
    row (steps_over g (value_of g place)) Incomplete
    (row (not (is_lvalue g place)) NotLvalue
    (row (not modifiable) NotModifiable
    (row (not (is_stepped (value_of g place))) OperandCode None)))
