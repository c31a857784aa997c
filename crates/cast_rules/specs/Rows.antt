-- Definition: for which operands each constraint is violated, and by which first constraint, in the order of their numbers, an operator over one operand, or over scalars, is refused (C11 6.3.2.1, 6.5.3, 6.5.4, 6.5.13, 6.5.14, 6.5.17, 6.8.4, 6.8.5).
use Rattle.std.specs.Prelude.{ℕ, Bool, true, false, ◌||◌, ◌&&◌, not, Option, Some, None, if◌then◌else◌}
use Rattle.cil_base.specs.declared.faults.Code.{Code}
use Rattle.cil_base.specs.declared.faults.Code.TheVariants.{Incomplete, NotLvalue, Operand, Cast, Condition, Register}
use Rattle.cil_base.specs.declared.operators.UnOp.{UnOp}
use Rattle.cil_base.specs.declared.operators.UnOp.TheVariants.{Neg, Compl, Not}
use Rattle.type_graph.specs.Arena.{Graph}
use Rattle.type_graph.specs.Layouts.{layout}
use Rattle.type_graph.specs.Shapes.{Shape, VoidType, IntType, PtrType, ArrayType, FuncType, AggType, shape}
use Rattle.cast_rules.specs.Types.{is_arithmetic, gives_pointer, gives_scalar, is_scalar, is_void, is_unreadable}

-- a constraint, where it is violated, before what comes behind it
abbrev pub row : Bool → Code → Option Code → Option Code
row violated code behind = if violated then Some code else behind

-- a value (6.3.2.1p2)
abbrev pub value_row : Graph → Shape → Option Code
value_row g s = row (is_unreadable g s) Incomplete None

-- `,` (6.5.17)
abbrev pub comma_row : Graph → Shape → Shape → Option Code
comma_row g a b = row (is_unreadable g a || is_unreadable g b) Incomplete None

-- the operands of `-` and `~` are arithmetic, that of `!` is scalar (6.5.3.3p1)
abbrev pub is_operand : UnOp → Graph → Shape → Bool
is_operand Neg g s = is_arithmetic g s
is_operand Compl g s = is_arithmetic g s
is_operand Not g s = gives_scalar g s

-- `-`, `~` and `!` (6.5.3.3); `+` as `-`
abbrev pub unary_row : UnOp → Graph → Shape → Option Code
unary_row op g s = row (is_unreadable g s) Incomplete (row (not (is_operand op g s)) Operand None)

-- `&&` and `||` (6.5.13p2, 6.5.14p2)
abbrev pub logical_row : Graph → Shape → Shape → Option Code
logical_row g a b = row (is_unreadable g a || is_unreadable g b) Incomplete (row (not (gives_scalar g a) || not (gives_scalar g b)) Operand None)

-- `*` (6.5.3.2p2)
abbrev pub indirect_row : Graph → Shape → Option Code
indirect_row g s = row (is_unreadable g s) Incomplete (row (not (gives_pointer s)) Operand None)

-- `&`, of what is an lvalue or a function and of what is declared `register` (6.5.3.2p1)
abbrev pub address_row : Bool → Bool → Option Code
address_row place register = row (not place) NotLvalue (row register Register None)

-- a cast to a type (6.5.4p2)
abbrev pub cast_row : Graph → Shape → Shape → Option Code
cast_row g to s = row (is_unreadable g s) Incomplete (row (not (is_void to) && not (is_scalar g to && gives_scalar g s)) Cast None)

-- the condition of an `if` or a loop (6.8.4.1p1, 6.8.5p2)
abbrev pub test_row : Graph → Shape → Option Code
test_row g s = row (is_unreadable g s) Incomplete (row (not (gives_scalar g s)) Condition None)

-- the controlling expression of a `switch` (6.8.4.2p1)
abbrev pub switch_row : Graph → Shape → Option Code
switch_row g s = row (is_unreadable g s) Incomplete (row (not (is_arithmetic g s)) Condition None)

-- what a type that has no size is: a function, or incomplete (6.2.5p1)
abbrev pub lacks_size : Shape → Code
lacks_size VoidType = Incomplete
lacks_size (IntType kind) = Incomplete
lacks_size (PtrType quals s) = Incomplete
lacks_size (ArrayType quals s bound) = Incomplete
lacks_size (FuncType ret params proto variadic) = Operand
lacks_size (AggType a) = Incomplete

-- `sizeof` and `_Alignof` (6.5.3.4p1)
abbrev pub size_row : Graph → ℕ → Option Code
size_row g t = elim (layout g t) [ None ↦ Some (lacks_size (shape g.nodes t)) | Some l ↦ None ]
