-- Definition: the constraints on expressions (C11 6.5, 6.8), one test a number, each over the operators that can violate it; the first one by number, and the token at which it stands (own).
use Rattle.std.specs.Prelude.{ℕ, suc, Bool, true, false, not, ◌&&◌, ◌||◌, nat_eq, nat_le, List, [], ◌∷◌, Option, Some, None, is_some, length, if◌then◌else◌}
use Rattle.std.specs.Option.{option_and_then}
use Rattle.cil_base.specs.declared.faults.Code.{Code}
use Rattle.cil_base.specs.declared.faults.Code.TheVariants.{IntegerRange, Undeclared, Label, Redeclared, Conflict, Specifiers, Tag, Incomplete, FunctionType, ArraySize, NotConstant, EnumRange, Assertion, Initialiser, NotLvalue, NotModifiable, Operand as OperandCode, Assignment, Member as MemberCode, Call, Cast, Return, Outside, Case, Condition, Reserved, Restrict, Register, Defined}
use Rattle.cil_base.specs.declared.operators.BinOp.TheVariants.{Add}
use Rattle.cil_base.specs.declared.operators.UnOp.{UnOp}
use Rattle.cil_base.specs.declared.operators.UnOp.TheVariants.{Neg, Compl, Not}
use Rattle.type_graph.specs.Shapes.{Shape, Shapes, NoTypes, MoreTypes}
use Rattle.typed_tree.specs.Tree.{shape_in}
use Rattle.typed_tree.specs.Places.{is_place}
use Rattle.c_rules.specs.Types.{Types, pointee, is_void, is_function, is_object, is_scalar, complete, any_of}
use Rattle.c_rules.specs.Conversions.{Operand, shape_of, kind_of, assignable, is_unreadable, is_lvalue}
use Rattle.c_rules.specs.Operators.{binary_sides, subscript_sides, compound_sides, step_shape, branch_shape, points_to_incomplete, steps_over_incomplete, is_modifiable}
use Rattle.c_rules.specs.Nodes.{Node, NameNode, ConstantNode, IndexNode, CallNode, MemberNode, ArrowNode, StepNode, AddressNode, IndirectNode, PlusNode, UnaryNode, BinaryNode, LogicalNode, ConditionalNode, AssignNode, ComputeNode, CommaNode, CastNode, SizeofNode, AlignofNode, TestNode, SwitchNode, ValueNode, ConvertNode, Callee, callee_of}

-- 1: a constant has no type of its list (6.4.4p2), or an escape is above the greatest byte (6.4.4.4p9)
abbrev pub has_no_type : Node → Bool
has_no_type (ConstantNode made) = not (is_some made)
has_no_type _ = false

-- a literal that is no expression: a static assertion's message, and one that initialises an array
abbrev pub has_wrong_escape : Option (List ℕ) → Bool
has_wrong_escape bytes = not (is_some bytes)

-- 2: an identifier has no visible declaration as an object, a function or an enumeration constant (6.5.1p2)
abbrev pub is_undeclared : Node → Bool
is_undeclared (NameNode found) = not (is_some found)
is_undeclared _ = false

-- 4: what is declared without linkage has a declaration in the same scope and name space already (6.7p3)
abbrev pub is_declared : {A : Type 0} → Option A → Bool
is_declared seen = is_some seen

-- 8: a complete type is needed

-- what a call gives other than void (6.5.2.2p1)
abbrev pub has_incomplete_result : Types → Option Callee → Bool
has_incomplete_result t None = false
has_incomplete_result t (Some c) = not (is_void c.result || complete t c.result)

-- an operand of `sizeof` and `_Alignof` (6.5.3.4p1); a function type is another constraint
abbrev pub has_no_size : Types → Shape → Bool
has_no_size t s = is_object s && not (complete t s)

-- an aggregate that is read (6.3.2.1p2), and what a pointer of pointer arithmetic points to (6.5.2.1p1, 6.5.2.4p1, 6.5.3.1p1, 6.5.6p2, 6.5.16.2p1)
abbrev pub is_incomplete : Types → Node → Bool
is_incomplete t (NameNode found) = false
is_incomplete t (ConstantNode made) = false
is_incomplete t (IndexNode a b) = is_unreadable t a || (is_unreadable t b || steps_over_incomplete t Add a b)
is_incomplete t (CallNode f xs) = is_unreadable t f || (any_of (is_unreadable t) xs || has_incomplete_result t (callee_of f))
is_incomplete t (MemberNode x path) = false
is_incomplete t (ArrowNode x path) = is_unreadable t x
is_incomplete t (StepNode form x) = points_to_incomplete t (pointee (shape_of x))
is_incomplete t (AddressNode x) = false
is_incomplete t (IndirectNode x) = is_unreadable t x
is_incomplete t (PlusNode x) = is_unreadable t x
is_incomplete t (UnaryNode op x) = is_unreadable t x
is_incomplete t (BinaryNode op a b) = is_unreadable t a || (is_unreadable t b || steps_over_incomplete t op a b)
is_incomplete t (LogicalNode op a b) = is_unreadable t a || is_unreadable t b
is_incomplete t (ConditionalNode c a b) = is_unreadable t c || (is_unreadable t a || is_unreadable t b)
is_incomplete t (AssignNode a b) = is_unreadable t b
is_incomplete t (ComputeNode op a b) = is_unreadable t b || steps_over_incomplete t op a b
is_incomplete t (CommaNode a b) = is_unreadable t a || is_unreadable t b
is_incomplete t (CastNode to x) = is_unreadable t x
is_incomplete t (SizeofNode s) = has_no_size t s
is_incomplete t (AlignofNode s) = has_no_size t s
is_incomplete t (TestNode x) = is_unreadable t x
is_incomplete t (SwitchNode x) = is_unreadable t x
is_incomplete t (ValueNode x) = is_unreadable t x
is_incomplete t (ConvertNode to x) = is_unreadable t x

-- 15: the operand of an assignment, of ++ and -- is no lvalue (6.5.2.4p1, 6.5.3.1p1, 6.5.16p2); that of & is neither an lvalue, nor a function, nor the result of * or [ ] (6.5.3.2p1)
abbrev pub is_no_lvalue : Node → Bool
is_no_lvalue (StepNode form x) = not (is_lvalue x.typed)
is_no_lvalue (AssignNode a b) = not (is_lvalue a.typed)
is_no_lvalue (ComputeNode op a b) = not (is_lvalue a.typed)
is_no_lvalue (AddressNode x) = not (is_place x.typed)
is_no_lvalue _ = false

-- 16: it is no modifiable lvalue (6.3.2.1p1)
abbrev pub is_not_modifiable : Types → Node → Bool
is_not_modifiable t (StepNode form x) = not (is_modifiable t x.typed)
is_not_modifiable t (AssignNode a b) = not (is_modifiable t a.typed)
is_not_modifiable t (ComputeNode op a b) = not (is_modifiable t a.typed)
is_not_modifiable t _ = false

-- 17: operands of types that the operator does not take

-- `-` and `~` take numbers, `!` scalars (6.5.3.3p1)
abbrev pub takes_unary : Types → UnOp → Operand → Bool
takes_unary t Neg x = is_some (kind_of t x)
takes_unary t Compl x = is_some (kind_of t x)
takes_unary t Not x = is_scalar t (shape_of x)

abbrev pub is_no_operand : Types → Node → Bool
is_no_operand t (IndexNode a b) = not (is_some (subscript_sides t a b))
is_no_operand t (StepNode form x) = not (is_some (step_shape t x))
is_no_operand t (IndirectNode x) = not (is_some (pointee (shape_of x)))
is_no_operand t (PlusNode x) = not (is_some (kind_of t x))
is_no_operand t (UnaryNode op x) = not (takes_unary t op x)
is_no_operand t (BinaryNode op a b) = not (is_some (binary_sides t op a b))
is_no_operand t (LogicalNode op a b) = not (is_scalar t (shape_of a) && is_scalar t (shape_of b))
is_no_operand t (ConditionalNode c a b) = not (is_scalar t (shape_of c) && is_some (branch_shape t a b))
is_no_operand t (ComputeNode op a b) = not (is_some (compound_sides t op a b))
is_no_operand t (SizeofNode s) = is_function s
is_no_operand t (AlignofNode s) = is_function s
is_no_operand t _ = false

-- 18: types outside those of simple assignment (6.5.16.1p1) in an assignment, an argument (6.5.2.2p2), a return or an initialiser. An argument without parameter has no type void (own)

-- the place of the first argument that its parameter does not take, from the left
abbrev pub first_argument : Types → Shapes → ℕ → List Operand → Option ℕ
first_argument t ps n [] = None
first_argument t NoTypes n (x ∷ xs) = elim (is_void (shape_of x)) [ true ↦ Some n | false ↦ first_argument t NoTypes (suc n) xs ]
first_argument t (MoreTypes p ps) n (x ∷ xs) = elim (assignable t p x) [ false ↦ Some n | true ↦ first_argument t ps (suc n) xs ]

abbrev pub wrong_argument : Types → Operand → List Operand → Option ℕ
wrong_argument t f xs = option_and_then (λ (c : Callee). first_argument t c.parameters 0 xs) (callee_of f)

abbrev pub is_not_assignable : Types → Node → Bool
is_not_assignable t (AssignNode a b) = not (assignable t (shape_in a.typed) b)
is_not_assignable t (ConvertNode to x) = not (assignable t to x)
is_not_assignable t (CallNode f xs) = is_some (wrong_argument t f xs)
is_not_assignable t _ = false

-- 19: `.` without such a member of a structure or union, `->` without a pointer to one (6.5.2.3p1, p2)
abbrev pub has_no_member : Node → Bool
has_no_member (MemberNode x path) = not (is_some path)
has_no_member (ArrowNode x path) = not (is_some path)
has_no_member _ = false

-- 20: the called expression is no pointer to a function (6.5.2.2p1), or its prototype does not agree in the number of arguments (p2)
abbrev pub count_shapes : Shapes → ℕ
count_shapes NoTypes = 0
count_shapes (MoreTypes s ss) = suc (count_shapes ss)

abbrev pub takes_so_many : Callee → ℕ → Bool
takes_so_many c n = not c.proto || (if c.variadic then nat_le (count_shapes c.parameters) n else nat_eq (count_shapes c.parameters) n)

abbrev pub is_no_call : Node → Bool
is_no_call (CallNode f xs) = elim (callee_of f) [ None ↦ true | Some c ↦ not (takes_so_many c (length xs)) ]
is_no_call _ = false

-- 21: a cast is to void, or from a scalar type to a scalar type (6.5.4p2)
abbrev pub is_no_cast : Types → Node → Bool
is_no_cast t (CastNode to x) = not (is_void to.shape || (is_scalar t to.shape && is_scalar t (shape_of x)))
is_no_cast t _ = false

-- 25: a controlling expression has no scalar type (6.8.4.1p1, 6.8.5p2), that of `switch` no integer type (6.8.4.2p1)
abbrev pub is_no_condition : Types → Node → Bool
is_no_condition t (TestNode x) = not (is_scalar t (shape_of x))
is_no_condition t (SwitchNode x) = not (is_some (kind_of t x))
is_no_condition t _ = false

-- 28: & of an object that is declared `register` (6.5.3.2p1)
abbrev pub is_register : Node → Bool
is_register (AddressNode x) = x.register
is_register _ = false

-- whether an operator violates a constraint; the others are those of declarations and statements
abbrev pub violates : Types → Node → Code → Bool
violates t n IntegerRange = has_no_type n
violates t n Undeclared = is_undeclared n
violates t n Incomplete = is_incomplete t n
violates t n NotLvalue = is_no_lvalue n
violates t n NotModifiable = is_not_modifiable t n
violates t n OperandCode = is_no_operand t n
violates t n Assignment = is_not_assignable t n
violates t n MemberCode = has_no_member n
violates t n Call = is_no_call n
violates t n Cast = is_no_cast t n
violates t n Condition = is_no_condition t n
violates t n Register = is_register n
violates t n _ = false

-- in the order of their numbers
abbrev pub all_codes : List Code
all_codes =
    IntegerRange ∷ Undeclared ∷ Label ∷ Redeclared ∷ Conflict ∷ Specifiers ∷ Tag ∷ Incomplete ∷ FunctionType ∷ ArraySize ∷ NotConstant ∷ EnumRange ∷ Assertion ∷ Initialiser ∷ NotLvalue
    ∷ NotModifiable ∷ OperandCode ∷ Assignment ∷ MemberCode ∷ Call ∷ Cast ∷ Return ∷ Outside ∷ Case ∷ Condition ∷ Reserved ∷ Restrict ∷ Register ∷ Defined ∷ []

-- the first of some constraints that a test finds violated
abbrev pub first_where : (Code → Bool) → List Code → Option Code
first_where test [] = None
first_where test (c ∷ cs) = elim (test c) [ true ↦ Some c | false ↦ first_where test cs ]

-- at one node the lower number comes first (own)
abbrev pub first_violated : Types → Node → Option Code
first_violated t n = first_where (violates t n) all_codes
