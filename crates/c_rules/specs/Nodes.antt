-- Definition: operators over their typed operands, and the typed expression that each is (C11 6.5). That no constraint is violated is said apart; where one is, what is said here counts for nothing.
use Rattle.std.specs.Prelude.{Bool, true, false, not, ◌&&◌, ◌||◌, ℤ, pos, List, [], ◌∷◌, Option, Some, None, is_some, if◌then◌else◌}
use Rattle.std.specs.Option.{option_map, option_and_then}
use Rattle.cil_base.specs.declared.kinds.IntKind.{IntKind}
use Rattle.cil_base.specs.declared.kinds.IntKind.TheVariants.{Int as int}
use Rattle.cil_base.specs.declared.operators.BinOp.{BinOp}
use Rattle.cil_base.specs.declared.operators.UnOp.{UnOp}
use Rattle.cil_base.specs.declared.operators.UnOp.TheVariants.{Neg, Compl, Not}
use Rattle.cil_base.specs.Integer.{ulong_of}
use Rattle.type_graph.specs.Shapes.{Shape, Shapes, VoidType, IntType, PtrType, FuncType, NoTypes, MoreTypes}
use Rattle.typed_tree.specs.declared.expressions.Logic.{Logic}
use Rattle.typed_tree.specs.declared.expressions.StepForm.{StepForm}
use Rattle.typed_tree.specs.Tree.{Typed, Form, Has, Integer, Address, Indirect, Subscript, Member, Convert, Unary, Binary, Logical, Conditional, Comma, Assign, Compute, Step, Call, Arguments, NoArguments, MoreArguments, shape_in, quals_in, acts}
use Rattle.typed_tree.specs.Places.{is_place}
use Rattle.c_rules.specs.Types.{CType, Hop, Types, plain, qualified, unqualified, pointer_to, pointee, is_void, is_array, size_in, alignment_in}
use Rattle.c_rules.specs.Conversions.{Operand, operand, node, same_effect, shape_of, kind_of, value_of, value_as, promoted_value, same_shape}
use Rattle.c_rules.specs.Operators.{Sides, binary_sides, subscript_sides, compound_sides, step_shape, branch_shape}
use Rattle.c_rules.specs.Evaluation.{is_zero}

pub data Node : Type 0 where
  -- an identifier: what it designates, if it has a visible declaration as an object, a function or an enumeration constant
  NameNode : (found : Option Operand) → Node
  -- a constant or a string literal, if it has a type
  ConstantNode : (made : Option Operand) → Node
  IndexNode : (left right : Operand) → Node
  CallNode : (callee : Operand) (arguments : List Operand) → Node
  -- with the steps to the member, if there is one
  MemberNode : (of : Operand) (path : Option (List Hop)) → Node
  ArrowNode : (of : Operand) (path : Option (List Hop)) → Node
  StepNode : (form : StepForm) (of : Operand) → Node
  AddressNode : (of : Operand) → Node
  IndirectNode : (of : Operand) → Node
  PlusNode : (of : Operand) → Node
  UnaryNode : (op : UnOp) (of : Operand) → Node
  BinaryNode : (op : BinOp) (left right : Operand) → Node
  LogicalNode : (op : Logic) (left right : Operand) → Node
  ConditionalNode : (condition yes no : Operand) → Node
  AssignNode : (left right : Operand) → Node
  ComputeNode : (op : BinOp) (left right : Operand) → Node
  CommaNode : (left right : Operand) → Node
  CastNode : (to : CType) (of : Operand) → Node
  SizeofNode : (of : Shape) → Node
  AlignofNode : (of : Shape) → Node
  -- the controlling expression of `if` and of loops (6.8.4.1p1, 6.8.5p2), and of `switch` (6.8.4.2p1)
  TestNode : (of : Operand) → Node
  SwitchNode : (of : Operand) → Node
  -- an expression statement (6.8.3), or an expression before or behind the `;` of a `for`
  ValueNode : (of : Operand) → Node
  -- a value for a place of that type: a `return` (6.8.6.4p3), an initialiser (6.7.9p11)
  ConvertNode : (to : Shape) (of : Operand) → Node

-- parts

abbrev pub int_shape : Shape
int_shape = IntType int

-- `size_t` (7.19p2)
abbrev pub size_shape : Types → Shape
size_shape t = IntType (ulong_of t.abi)

-- effects of several parts
abbrev pub acts_both : Typed → Typed → Bool
acts_both x y = acts x || acts y

-- an integer constant expression with the value 0 is a null pointer constant (6.3.2.3p3)
abbrev pub computed_operand : Types → Typed → Operand
computed_operand t e = record { typed = e; null = is_zero t e; register = false }

-- what counts for nothing
abbrev pub nothing : Operand
nothing = operand (node VoidType false (Integer (pos 0)))

abbrev pub given : {A : Type 0} → (A → Operand) → Option A → Operand
given of None = nothing
given of (Some a) = of a

abbrev pub integer_operand : Types → Shape → ℤ → Operand
integer_operand t s n = computed_operand t (node s false (Integer n))

-- a constant of a kind; an enumeration constant has type int (6.4.4.3p2)
abbrev pub constant_operand : Types → IntKind → ℤ → Operand
constant_operand t kind n = integer_operand t (IntType kind) n

-- an lvalue or a function of a type
abbrev pub place : CType → Bool → Form → Typed
place c effect form = Has c.quals c.shape effect form

-- members (6.5.2.3p3): the qualifiers of the object and of the member together; of a value that is no lvalue none
abbrev pub member_type : Typed → Hop → CType
member_type e h = if is_place e then qualified (quals_in e) h.member.type else unqualified h.member.type.shape

abbrev pub one_member : Typed → Hop → Typed
one_member e h = place (member_type e h) (acts e) (Member e h.aggregate h.index)

abbrev pub along : Typed → List Hop → Typed
along e [] = e
along e (h ∷ hs) = along (one_member e h) hs

-- `.` takes an lvalue, or the value of an expression that is none; a part of a register object is one
abbrev pub of_member : Operand → List Hop → Operand
of_member x hops = record { typed = along x.typed hops; null = false; register = x.register }

-- what a pointer points to (6.5.3.2p4)
abbrev pub indirect : Typed → CType → Typed
indirect e c = place c (acts e) (Indirect e)

abbrev pub pointed_to : Operand → Option Typed
pointed_to x = option_map (indirect (value_of x.typed)) (pointee (shape_of x))

-- `e -> m` is `( * e ) . m` (6.5.2.3p4)
abbrev pub of_arrow : Operand → List Hop → Operand
of_arrow x hops = given (λ e. operand (along e hops)) (pointed_to x)

-- an element of a register array is a part of a register object
abbrev pub is_register_array : Operand → Bool
is_register_array x = is_array (shape_in x.typed) && x.register

-- the element that a subscript designates, `* ( left + right )` (6.5.2.1p2)
abbrev pub element_type : Types → Sides → CType
element_type t s = elim (pointee s.result) [ None ↦ unqualified VoidType | Some c ↦ c ]

abbrev pub of_index : Types → Operand → Operand → Sides → Operand
of_index t a b s = record { typed = place (element_type t s) (acts_both a.typed b.typed) (Subscript (value_as s.left a) (value_as s.right b)); null = false; register = is_register_array a || is_register_array b }

abbrev pub of_binary : Types → BinOp → Operand → Operand → Sides → Operand
of_binary t op a b s = computed_operand t (node s.result (acts_both a.typed b.typed) (Binary op (value_as s.left a) (value_as s.right b)))

-- `-` and `~` promote and keep the promoted type, `!` compares with 0 and gives int (6.5.3.3p3 to p5)
abbrev pub unary_result : UnOp → Shape → Shape
unary_result Neg s = s
unary_result Compl s = s
unary_result Not s = int_shape

abbrev pub unary_value : Types → UnOp → Operand → Typed
unary_value t Neg x = promoted_value t x
unary_value t Compl x = promoted_value t x
unary_value t Not x = value_of x.typed

abbrev pub of_unary : Types → UnOp → Operand → Operand
of_unary t op x = computed_operand t (node (unary_result op (shape_in (unary_value t op x))) (acts x.typed) (Unary op (unary_value t op x)))

abbrev pub of_logical : Types → Logic → Operand → Operand → Operand
of_logical t op a b = computed_operand t (node int_shape true (Logical op (value_of a.typed) (value_of b.typed)))

abbrev pub of_conditional : Types → Operand → Operand → Operand → Shape → Operand
of_conditional t c a b s = computed_operand t (node s true (Conditional (value_of c.typed) (value_as s a) (value_as s b)))

-- the type of an assignment is that of its left operand behind lvalue conversion (6.5.16p3)
abbrev pub of_assign : Operand → Operand → Operand
of_assign a b = operand (node (shape_in a.typed) true (Assign a.typed (value_as (shape_in a.typed) b)))

abbrev pub of_compute : BinOp → Operand → Operand → Sides → Operand
of_compute op a b s = operand (node (shape_in a.typed) true (Compute op s.left a.typed (value_as s.right b)))

abbrev pub of_step : StepForm → Operand → Shape → Operand
of_step form x at = operand (node (shape_in x.typed) true (Step form at x.typed))

-- the operators `( void )` and `,` take values, the comma's type is that of its right operand (6.5.17p2)
abbrev pub of_comma : Operand → Operand → Operand
of_comma a b = operand (node (shape_of b) true (Comma (value_of a.typed) (value_of b.typed)))

-- casts (6.5.4): one to the type that the value has is no node, but for one to void

abbrev pub cast_to : Shape → Typed → Typed
cast_to to e = if same_shape (shape_in e) to && not (is_void to) then e else same_effect to e (Convert e)

-- a pointer to unqualified void
abbrev pub is_plain_void_pointer : Shape → Bool
is_plain_void_pointer s = same_shape s (PtrType plain VoidType)

-- an integer constant expression with the value 0 that is cast to `void *` is a null pointer constant too (6.3.2.3p3)
abbrev pub cast_is_null : Types → Shape → Operand → Typed → Bool
cast_is_null t to x e = is_zero t e || (is_plain_void_pointer to && (is_some (kind_of t x) && x.null))

abbrev pub of_cast : Types → Shape → Operand → Operand
of_cast t to x = record { typed = cast_to to (value_of x.typed); null = cast_is_null t to x (cast_to to (value_of x.typed)); register = false }

-- calls (6.5.2.2)

pub record Callee : Type 0 where
  pub result : Shape
  pub parameters : Shapes
  pub proto : Bool
  pub variadic : Bool

abbrev pub callee_shape : Shape → Option Callee
callee_shape (FuncType ret params proto variadic) = Some (record { result = ret; parameters = params; proto = proto; variadic = variadic })
callee_shape _ = None

-- the called expression is a pointer to a function (p1)
abbrev pub callee_of : Operand → Option Callee
callee_of x = option_and_then (λ (c : CType). callee_shape c.shape) (pointee (shape_of x))

-- arguments that have a parameter are converted as by assignment, others by the default promotions (p6, p7)
abbrev pub passed : Types → Shapes → List Operand → Arguments
passed t ps [] = NoArguments
passed t NoTypes (x ∷ xs) = MoreArguments (promoted_value t x) (passed t NoTypes xs)
passed t (MoreTypes p ps) (x ∷ xs) = MoreArguments (value_as p x) (passed t ps xs)

abbrev pub of_call : Types → Operand → List Operand → Callee → Operand
of_call t f xs c = operand (node c.result true (Call (value_of f.typed) (passed t c.parameters xs)))

-- the typed expression
abbrev pub typed_node : Types → Node → Operand
typed_node t (NameNode found) = given (λ x. x) found
typed_node t (ConstantNode made) = given (λ x. x) made
typed_node t (IndexNode a b) = given (of_index t a b) (subscript_sides t a b)
typed_node t (CallNode f xs) = given (of_call t f xs) (callee_of f)
typed_node t (MemberNode x path) = given (of_member x) path
typed_node t (ArrowNode x path) = given (of_arrow x) path
typed_node t (StepNode form x) = given (of_step form x) (step_shape t x)
typed_node t (AddressNode x) = operand (node (pointer_to (record { quals = quals_in x.typed; shape = shape_in x.typed })) (acts x.typed) (Address x.typed))
typed_node t (IndirectNode x) = given operand (pointed_to x)
typed_node t (PlusNode x) = computed_operand t (promoted_value t x)
typed_node t (UnaryNode op x) = of_unary t op x
typed_node t (BinaryNode op a b) = given (of_binary t op a b) (binary_sides t op a b)
typed_node t (LogicalNode op a b) = of_logical t op a b
typed_node t (ConditionalNode c a b) = given (of_conditional t c a b) (branch_shape t a b)
typed_node t (AssignNode a b) = of_assign a b
typed_node t (ComputeNode op a b) = given (of_compute op a b) (compound_sides t op a b)
typed_node t (CommaNode a b) = of_comma a b
typed_node t (CastNode to x) = of_cast t to.shape x
typed_node t (SizeofNode s) = given (λ n. integer_operand t (size_shape t) (pos n)) (size_in t s)
typed_node t (AlignofNode s) = given (λ n. integer_operand t (size_shape t) (pos n)) (alignment_in t s)
typed_node t (TestNode x) = operand (value_of x.typed)
typed_node t (SwitchNode x) = operand (promoted_value t x)
typed_node t (ValueNode x) = operand (value_of x.typed)
typed_node t (ConvertNode to x) = operand (value_as to x)
