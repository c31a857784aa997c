-- Definition: constant expressions (C11 6.6) over typed expressions: the value, none where it is no constant, and which expressions have the form of an integer constant expression. No address is converted to an integer or compared (own).
use Rattle.std.specs.Prelude.{ℕ, Bool, true, false, ◌&&◌, ◌||◌, Option, Some, None, is_some, if◌then◌else◌, ℤ, pos, ◌+ℤ◌, ◌*ℤ◌, neg_ℤ, int_le, unsigned_abs, not}
use Rattle.std.specs.Ordering.{int_eq}
use Rattle.std.specs.Option.{option_map, option_and_then}
use Rattle.cil_base.specs.Limits.{object_bytes}
use Rattle.cil_base.specs.declared.kinds.IntKind.{IntKind}
use Rattle.cil_base.specs.declared.kinds.IntKind.TheVariants.{Int as int}
use Rattle.cil_base.specs.declared.constants.Constant.{Constant}
use Rattle.cil_base.specs.declared.constants.Constant.TheVariants as constant
use Rattle.cil_base.specs.declared.operators.BinOp.{BinOp}
use Rattle.cil_base.specs.declared.operators.BinOp.TheVariants.{Add, Sub, Lt, Gt, Le, Ge, Eq, Ne}
use Rattle.cil_base.specs.declared.operators.UnOp.{UnOp}
use Rattle.cil_base.specs.declared.operators.UnOp.TheVariants.{Neg, Compl, Not}
use Rattle.cil_base.specs.Integer.{wrapped, ulong_of}
use Rattle.cil_base.specs.Arithmetic.{fits, arith_of, unary_of, told}
use Rattle.type_graph.specs.Shapes.{Shape, FuncType}
use Rattle.typed_tree.specs.declared.expressions.Logic.{Logic}
use Rattle.typed_tree.specs.declared.expressions.Logic.TheVariants.{And as both, Or as either}
use Rattle.typed_tree.specs.Tree.{Typed, Form, Has, Integer, Local, Literal, Entity, Load, Decay, Address, Indirect, Subscript, Member, Convert, Unary, Binary, Logical, Conditional, Comma, Assign, Compute, Step, Call}
use Rattle.c_rules.specs.Types.{CType, Types, kind_in, size_in, offset_in, pointee}

-- a value that is known during translation: an integer of a kind, a number of pointer type, a place of an object with static storage duration and the size of that object, a function
pub data Known : Type 0 where
  Whole : (kind : IntKind) (n : ℤ) → Known
  Number : (n : ℤ) → Known
  Place : (entity offset size : ℕ) → Known
  Code : (entity : ℕ) → Known

-- an integer of a type, which has it
abbrev pub whole_of : ℤ → IntKind → Option Known
whole_of n kind = if fits kind n then Some (Whole kind n) else None

-- an object at its visible type; one whose size is unknown counts as the greatest (own)
abbrev pub size_or_greatest : Option ℕ → ℕ
size_or_greatest None = object_bytes
size_or_greatest (Some n) = n

abbrev pub entity_of : Types → Shape → ℕ → Known
entity_of t (FuncType ret params proto variadic) n = Code n
entity_of t s n = Place n 0 (size_or_greatest (size_in t s))

-- whether a value differs from zero; of a pointer it is not known (own)
abbrev pub truth_of : Known → Option Bool
truth_of (Whole kind n) = Some (not (int_eq n (pos 0)))
truth_of (Number n) = None
truth_of (Place entity offset size) = None
truth_of (Code entity) = None

abbrev pub truth_in : Option Known → Option Bool
truth_in known = option_and_then truth_of known

abbrev pub told_as_int : Bool → Known
told_as_int holds = Whole int (told holds)

-- what a first operand decides alone (6.5.13p4, 6.5.14p4)
abbrev pub decided_by : Logic → Bool → Option Bool
decided_by both true = None
decided_by both false = Some false
decided_by either true = Some true
decided_by either false = None

-- conversions between integer types (6.3.1.2, 6.3.1.3)
abbrev pub to_kind : IntKind → Known → Option Known
to_kind kind (Whole from n) = Some (Whole kind (wrapped kind n))
to_kind kind (Number n) = None
to_kind kind (Place entity offset size) = None
to_kind kind (Code entity) = None

-- conversions to a pointer type (6.3.2.3): an integer counts as one of the unsigned kind of a pointer's size
abbrev pub to_pointer : Types → Known → Known
to_pointer t (Whole from n) = Number (wrapped (ulong_of t.abi) n)
to_pointer t (Number n) = Number n
to_pointer t (Place entity offset size) = Place entity offset size
to_pointer t (Code entity) = Code entity

abbrev pub converted_to : Types → Shape → Known → Option Known
converted_to t s known = elim (kind_in t s) [ Some kind ↦ to_kind kind known | None ↦ option_map (λ (p : CType). to_pointer t known) (pointee s) ]

-- a unary operator (6.5.3.3)
abbrev pub unary_kind : UnOp → IntKind → IntKind
unary_kind Neg kind = kind
unary_kind Compl kind = kind
unary_kind Not kind = int

abbrev pub unary_known : UnOp → Known → Option Known
unary_known op (Whole kind n) = option_map (Whole (unary_kind op kind)) (unary_of op kind n)
unary_known op (Number n) = None
unary_known op (Place entity offset size) = None
unary_known op (Code entity) = None

-- the kind of what an operator gives over operands of a kind (6.5.5 to 6.5.12)
abbrev pub result_kind : BinOp → IntKind → IntKind
result_kind Lt kind = int
result_kind Gt kind = int
result_kind Le kind = int
result_kind Ge kind = int
result_kind Eq kind = int
result_kind Ne kind = int
result_kind _ kind = kind

abbrev pub computed : BinOp → IntKind → ℤ → ℤ → Option Known
computed op kind a b = option_map (Whole (result_kind op kind)) (arith_of op kind a b)

-- a place some bytes away: in the same object, or at its end (6.5.6p8)
abbrev pub moved : ℕ → ℕ → ℤ → Option Known
moved entity size at = if int_le (pos 0) at && int_le at (pos size) then Some (Place entity (unsigned_abs at) size) else None

-- a place and an integer, in either order, in steps of a size (6.5.6p8)
abbrev pub sum_of : Known → Known → ℕ → Option Known
sum_of (Place entity offset size) (Whole kind n) step = moved entity size (pos offset +ℤ n *ℤ pos step)
sum_of (Whole kind n) (Place entity offset size) step = moved entity size (pos offset +ℤ n *ℤ pos step)
sum_of _ _ step = None

abbrev pub difference_of : Known → Known → ℕ → Option Known
difference_of (Place entity offset size) (Whole kind n) step = moved entity size (pos offset +ℤ neg_ℤ (n *ℤ pos step))
difference_of _ _ step = None

abbrev pub step_size : Types → Shape → Option ℕ
step_size t s = option_and_then (λ (p : CType). size_in t p.shape) (pointee s)

abbrev pub stepped : Types → Shape → BinOp → Known → Known → Option Known
stepped t s Add x y = option_and_then (sum_of x y) (step_size t s)
stepped t s Sub x y = option_and_then (difference_of x y) (step_size t s)
stepped t s _ x y = None

-- a binary operator (6.5.5 to 6.5.12)
abbrev pub binary_known : Types → Shape → BinOp → Known → Known → Option Known
binary_known t s op (Whole kind a) (Whole other b) = computed op kind a b
binary_known t s op x y = stepped t s op x y

-- a member at a place (6.5.2.3p3)
abbrev pub member_known : Types → ℕ → ℕ → Known → Option Known
member_known t a i (Place entity offset size) = option_and_then (λ n. moved entity size (pos offset +ℤ pos n)) (offset_in t a i)
member_known t a i (Whole kind n) = None
member_known t a i (Number n) = None
member_known t a i (Code entity) = None

abbrev pub logical_known : Option Bool → Option Known → Option Known
logical_known (Some holds) right = Some (told_as_int holds)
logical_known None right = option_map told_as_int (truth_in right)

abbrev pub chosen : Bool → Option Known → Option Known → Option Known
chosen true holds fails = holds
chosen false holds fails = fails

abbrev mutual
  -- the value of an expression that is no lvalue (6.6p6 to p9)
  pub value : Types → Typed → Option Known
  value t (Has q s effect form) = value_form t s form

  value_form : Types → Shape → Form → Option Known
  value_form t s (Integer n) = option_and_then (whole_of n) (kind_in t s)
  value_form t s (Local n) = None
  value_form t s (Literal n init) = None
  value_form t s (Entity n) = None
  value_form t s (Load e) = None
  value_form t s (Decay e) = address t e
  value_form t s (Address e) = address t e
  value_form t s (Indirect e) = None
  value_form t s (Subscript l r) = None
  value_form t s (Member e a i) = None
  value_form t s (Convert e) = option_and_then (converted_to t s) (value t e)
  value_form t s (Unary op e) = option_and_then (unary_known op) (value t e)
  value_form t s (Binary op l r) = option_and_then (λ x. option_and_then (binary_known t s op x) (value t r)) (value t l)
  -- the operand that is not evaluated is not looked at (6.6p3)
  value_form t s (Logical op l r) = option_and_then (λ holds. logical_known (decided_by op holds) (value t r)) (truth_in (value t l))
  value_form t s (Conditional test holds fails) = option_and_then (λ x. chosen x (value t holds) (value t fails)) (truth_in (value t test))
  value_form t s (Comma l r) = None
  value_form t s (Assign l r) = None
  value_form t s (Compute op at l r) = None
  value_form t s (Step form at e) = None
  value_form t s (Call f es) = None

  -- the address of what an lvalue designates, or the function (6.6p9)
  pub address : Types → Typed → Option Known
  address t (Has q s effect form) = address_form t s form

  address_form : Types → Shape → Form → Option Known
  address_form t s (Integer n) = None
  address_form t s (Local n) = None
  address_form t s (Literal n init) = None
  address_form t s (Entity n) = Some (entity_of t s n)
  address_form t s (Load e) = None
  address_form t s (Decay e) = None
  address_form t s (Address e) = None
  address_form t s (Indirect e) = value t e
  address_form t s (Subscript l r) = option_and_then (λ x. option_and_then (λ y. option_and_then (sum_of x y) (size_in t s)) (value t r)) (value t l)
  address_form t s (Member e a i) = option_and_then (member_known t a i) (address t e)
  address_form t s (Convert e) = None
  address_form t s (Unary op e) = None
  address_form t s (Binary op l r) = None
  address_form t s (Logical op l r) = None
  address_form t s (Conditional test holds fails) = None
  address_form t s (Comma l r) = None
  address_form t s (Assign l r) = None
  address_form t s (Compute op at l r) = None
  address_form t s (Step form at e) = None
  address_form t s (Call f es) = None

-- an integer constant expression's value (6.6p6)
abbrev pub number_of : Known → Option ℤ
number_of (Whole kind n) = Some n
number_of (Number n) = None
number_of (Place entity offset size) = None
number_of (Code entity) = None

abbrev pub integer_value : Types → Typed → Option ℤ
integer_value t e = option_and_then number_of (value t e)

-- an integer constant expression with the value 0 (6.3.2.3p3)
abbrev pub is_zero : Types → Typed → Bool
is_zero t e = elim (integer_value t e) [ None ↦ false | Some n ↦ int_eq n (pos 0) ]

-- the constant that a known value is: a number of pointer type has the unsigned kind of a pointer's size (own)
abbrev pub constant_of : Types → Known → Constant
constant_of t (Whole kind n) = constant.Int kind n
constant_of t (Number n) = constant.Int (ulong_of t.abi) n
constant_of t (Place entity offset size) = constant.Address (record { 0 = entity }) (pos offset)
constant_of t (Code entity) = constant.Function (record { 0 = entity })

abbrev pub constant_in : Types → Typed → Option Constant
constant_in t e = option_map (constant_of t) (value t e)

-- the form of an integer constant expression (6.6p3, p6): integer constants under conversions between integer types and operators on integers; what is not evaluated of `&&`, `||` and `? :` is not looked at (own)

abbrev pub decides : Logic → Option Bool → Bool
decides op (Some holds) = is_some (decided_by op holds)
decides op None = false

abbrev pub of_chosen : Option Bool → Bool → Bool → Bool
of_chosen (Some true) holds fails = holds
of_chosen (Some false) holds fails = fails
of_chosen None holds fails = holds && fails

abbrev mutual
  pub has_constant_form : Types → Typed → Bool
  has_constant_form t (Has q s effect form) = is_some (kind_in t s) && is_of_constants t form

  is_of_constants : Types → Form → Bool
  is_of_constants t (Integer n) = true
  is_of_constants t (Local n) = false
  is_of_constants t (Literal n init) = false
  is_of_constants t (Entity n) = false
  is_of_constants t (Load e) = false
  is_of_constants t (Decay e) = false
  is_of_constants t (Address e) = false
  is_of_constants t (Indirect e) = false
  is_of_constants t (Subscript l r) = false
  is_of_constants t (Member e a i) = false
  is_of_constants t (Convert e) = has_constant_form t e
  is_of_constants t (Unary op e) = has_constant_form t e
  is_of_constants t (Binary op l r) = has_constant_form t l && has_constant_form t r
  is_of_constants t (Logical op l r) = has_constant_form t l && (decides op (truth_in (value t l)) || has_constant_form t r)
  is_of_constants t (Conditional test holds fails) = has_constant_form t test && of_chosen (truth_in (value t test)) (has_constant_form t holds) (has_constant_form t fails)
  is_of_constants t (Comma l r) = false
  is_of_constants t (Assign l r) = false
  is_of_constants t (Compute op at l r) = false
  is_of_constants t (Step form at e) = false
  is_of_constants t (Call f es) = false
