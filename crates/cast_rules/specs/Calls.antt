-- Definition: by which first constraint a call is refused, and which argument its parameter does not take (C11 6.5.2.2).
use Rattle.std.specs.Prelude.{ℕ, zero, suc, Bool, true, false, ◌||◌, ◌&&◌, not, nat_eq, nat_le, List, [], ◌∷◌, length, Option, Some, None, is_some, if◌then◌else◌}
use Rattle.cil_base.specs.declared.faults.Code.{Code}
use Rattle.cil_base.specs.declared.faults.Code.TheVariants.{Incomplete, Assignment, Call}
use Rattle.type_graph.specs.Arena.{Graph, complete_shape}
use Rattle.type_graph.specs.Shapes.{Shape, Shapes, VoidType, IntType, PtrType, ArrayType, FuncType, AggType, NoTypes, MoreTypes}
use Rattle.cast_rules.specs.declared.operands.Operand.{Operand}
use Rattle.cast_rules.specs.Assigning.{assignable}
use Rattle.cast_rules.specs.Rows.{row}
use Rattle.cast_rules.specs.Types.{is_void, is_unreadable}
use Rattle.cast_rules.specs.Values.{Value, NoValue, Number, Pointer, Record', shape_of, value_of}

-- a function type
pub record Function : Type 0 where
  pub ret : Shape
  pub params : Shapes
  pub proto : Bool
  pub variadic : Bool

abbrev pub function_in : Shape → Option Function
function_in VoidType = None
function_in (IntType kind) = None
function_in (PtrType quals s) = None
function_in (ArrayType quals s bound) = None
function_in (FuncType ret params proto variadic) = Some (record { ret = ret; params = params; proto = proto; variadic = variadic })
function_in (AggType a) = None

-- the function type that a value points to
abbrev pub pointed_function : Value → Option Function
pointed_function NoValue = None
pointed_function (Number kind) = None
pointed_function (Pointer quals s) = function_in s
pointed_function (Record' a) = None

abbrev pub called : Graph → Operand → Option Function
called g f = pointed_function (value_of g f)

abbrev pub shape_at : Shapes → ℕ → Option Shape
shape_at NoTypes i = None
shape_at (MoreTypes s ss) zero = Some s
shape_at (MoreTypes s ss) (suc i) = shape_at ss i

abbrev pub count_shapes : Shapes → ℕ
count_shapes NoTypes = 0
count_shapes (MoreTypes s ss) = suc (count_shapes ss)

-- an argument may not be assigned to its parameter (6.5.2.2p2), or is void and has none (own)
abbrev pub is_unassignable : Graph → Option Shape → Operand → Bool
is_unassignable g None e = is_void (shape_of g e)
is_unassignable g (Some to) e = not (assignable g to e)

-- the place of the first such argument, of those from a place on
abbrev pub first_from : Graph → Shapes → ℕ → List Operand → Option ℕ
first_from g params i [] = None
first_from g params i (e ∷ es) = if is_unassignable g (shape_at params i) e then Some i else first_from g params (suc i) es

abbrev pub first_of : Graph → Option Function → List Operand → Option ℕ
first_of g None es = None
first_of g (Some callee) es = first_from g callee.params 0 es

abbrev pub wrong_argument : Graph → Operand → List Operand → Option ℕ
wrong_argument g f es = first_of g (called g f) es

-- an operand has no value
abbrev pub is_any_unreadable : Graph → List Operand → Bool
is_any_unreadable g [] = false
is_any_unreadable g (e ∷ es) = is_unreadable g (shape_of g e) || is_any_unreadable g es

-- a call gives an incomplete type other than void (6.5.2.2p1)
abbrev pub has_incomplete_result : Graph → Option Function → Bool
has_incomplete_result g None = false
has_incomplete_result g (Some callee) = not (is_void callee.ret) && not (complete_shape g.aggs callee.ret)

-- a prototype agrees in the number of arguments; what has none takes any number (6.5.2.2p2)
abbrev pub takes_so_many : Function → ℕ → Bool
takes_so_many callee n = not callee.proto || (if callee.variadic then nat_le (count_shapes callee.params) n else nat_eq (count_shapes callee.params) n)

-- the called expression points to a function (6.5.2.2p1), which takes so many arguments
abbrev pub is_call : Option Function → ℕ → Bool
is_call None n = false
is_call (Some callee) n = takes_so_many callee n

-- a call (6.5.2.2p1, p2)
abbrev pub call_row : Graph → Operand → List Operand → Option Code
call_row g f es =
    row (is_any_unreadable g es || (is_unreadable g (shape_of g f) || has_incomplete_result g (called g f))) Incomplete
    (row (is_some (wrong_argument g f es)) Assignment
    (row (not (is_call (called g f) (length es))) Call None))
