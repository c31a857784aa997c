-- Definition: what the operators of C do with what their operands give (C11 6.3.2.1, 6.5), in a state that they may change.
use Rattle.std.specs.Prelude.{ℕ, Bool, true, false, List, [], ◌∷◌, Option, Some, None, pos, ℤ, slice_get}
use Rattle.cil_base.specs.declared.operators.BinOp.{BinOp}
use Rattle.cil_base.specs.declared.operators.BinOp.TheVariants.{Add, Sub}
use Rattle.cil_base.specs.declared.operators.UnOp.{UnOp}
use Rattle.cil_base.specs.Arithmetic.{told}
use Rattle.type_graph.specs.Shapes.{Shape}
use Rattle.byte_mem.specs.declared.pointers.ObjName.{ObjName}
use Rattle.byte_mem.specs.declared.pointers.ObjName.TheVariants.{Entity as UnitObject}
use Rattle.byte_mem.specs.declared.values.Byte.{Byte}
use Rattle.byte_mem.specs.declared.values.Value.{Value}
use Rattle.byte_mem.specs.declared.values.Value.TheVariants.{Int}
use Rattle.byte_mem.specs.Memory.{Memory, with_held, protect}
use Rattle.byte_mem.specs.Operator.{place_of}
use Rattle.execution.specs.States.{State, with_memory, Result, Goes, Undefined, bind, given, pure}
use Rattle.execution.specs.Data.{Datum, Single, Argument}
use Rattle.execution.specs.Calls.{Enter}
use Rattle.execution.specs.Runs.{writable}
use Rattle.typed_tree.specs.declared.expressions.Logic.{Logic}
use Rattle.typed_tree.specs.declared.expressions.StepForm.{StepForm}
use Rattle.typed_tree.specs.declared.expressions.StepForm.TheVariants.{PreIncrement, PreDecrement, PostIncrement, PostDecrement}
use Rattle.typed_tree.specs.Tree.{Inits, NoInits, MoreInits, Zero, Scalar, Constant', Aggregate, Bytes, shape_in}
use Rattle.c_rules.specs.Types.{CType, Hop, is_array}
use Rattle.c_rules.specs.Conversions.{Operand, shape_of}
use Rattle.c_rules.specs.Evaluation.{decided_by}
use Rattle.c_typing.specs.Initialisers.{Path}
use Rattle.c_rules.specs.Nodes.{int_shape}
use Rattle.c_rules.specs.Operators.{Sides}
use Rattle.typed_values.specs.Values.{single_in}
use Rattle.c_semantics.specs.Values.{kind_of, as_type, unary_value, binary_value, holds_of, value_at, member_at, member_value, around_member, part_from, is_const, stored, zeroed, filled, object_pointer}
use Rattle.c_semantics.specs.Places.{Activation, Here, part_of, local_of, literal_number}

infixl 10 ◌>>=◌
-- what is done in a state
abbrev pub Action : Type 0 → Type 0
Action A = State → Result A

abbrev pub ◌>>=◌ : {A B : Type 0} → Action A → (A → Action B) → Action B
◌>>=◌ first next = λ s. bind (first s) next

abbrev pub gives : {A : Type 0} → A → Action A
gives a = Goes a

-- what may be undefined
abbrev pub known : {A : Type 0} → Option A → Action A
known a = λ s. pure s a

-- what depends on the memory
abbrev pub seen : {A : Type 0} → (Memory → Option A) → Action A
seen f = λ s. pure s (f s.memory)

abbrev pub changes : (Memory → Option Memory) → Action (Unit {0})
changes f = λ s. given s (f s.memory) (λ m. Goes tt (with_memory s m))

-- what an expression gives: the place of an lvalue or function, which is a value (own), or a value
pub data Seen : Type 0 where
  At : (place : Value) → Seen
  Is : (datum : Datum) → Seen

abbrev pub is_value : Value → Seen
is_value v = Is (Single v)

abbrev pub is_number : ℤ → Seen
is_number n = is_value (Int n)

abbrev pub is_told : Bool → Seen
is_told holds = is_number (told holds)

abbrev pub single : Datum → Action Value
single d = known (single_in d)

-- the value of what an expression of a type gives (6.3.2.1p2 to p4)
abbrev pub valued : Activation → Shape → Seen → Action Datum
valued a s (At place) = seen (λ m. value_at a.types m s place)
valued a s (Is d) = gives d

abbrev pub placed : Seen → Action Value
placed (At place) = gives place
placed (Is d) = λ s. Undefined s

-- an operand's value
abbrev pub used : Activation → Operand → Action Seen → Action Datum
used a x go = do
  y ← go
  valued a (shape_in x.typed) y

-- an operand's value, converted to a type
abbrev pub taken : Activation → Operand → Shape → Action Seen → Action Datum
taken a x to go = do
  d ← used a x go
  known (as_type a.types (shape_of x) to d)

-- an operand that is a pointer
abbrev pub pointed : Activation → Operand → Action Seen → Action Value
pointed a x go = do
  d ← used a x go
  single d

-- whether an operand's value compares unequal to 0
abbrev pub tested : Activation → Operand → Action Seen → Action Bool
tested a x go = do
  d ← used a x go
  seen (λ m. holds_of a.types m (shape_of x) d)

-- the place that a pointer's value designates (6.5.3.2p4)
abbrev pub indirect : Value → Action Seen
indirect v = do
  w ← known (place_of v)
  gives (At w)

-- operators on values of the types to which the operands went (6.5.3.3, 6.5.5 to 6.5.12)
abbrev pub operated : Activation → UnOp → Shape → Datum → Action Seen
operated a op s d = do
  v ← single d
  w ← seen (λ m. unary_value a.types m op s v)
  gives (is_value w)

abbrev pub computed : Activation → BinOp → Shape → Shape → Datum → Datum → Action Datum
computed a op s r d e = do
  v ← single d
  w ← single e
  x ← seen (λ m. binary_value a.types m op s r v w)
  gives (Single x)

-- the element that a subscript designates, `* ( left + right )` (6.5.2.1p2)
abbrev pub subscripted : Activation → Sides → Datum → Datum → Action Seen
subscripted a z d e = do
  x ← computed a Add z.left z.right d e
  v ← single x
  indirect v

-- `&&` and `||` (6.5.13p4, 6.5.14p4): the second operand is evaluated where the first decides nothing
abbrev pub decided : Option Bool → Action Bool → Action Bool
decided (Some holds) second = gives holds
decided None second = second

abbrev pub logical : Logic → Action Bool → Action Bool → Action Seen
logical op first second = do
  x ← first
  y ← decided (decided_by op x) second
  gives (is_told y)

-- one of two (6.5.15p4)
abbrev pub chosen : {A : Type 0} → Bool → Action A → Action A → Action A
chosen true first second = first
chosen false first second = second

-- members (6.5.2.3p3): of a place, or of a value; where its member of array type is asked for, the outermost value of which it is a part stands in an object of its own (6.2.4p8), which has that number in the activation
abbrev pub array_object : Activation → ℕ → Option (List Byte × ℕ) → Action Seen
array_object a n value = λ s. given s value (λ x. Goes (At (object_pointer (local_of a n) x.1)) (with_memory s (with_held s.memory (local_of a n) (Some (writable x.0)))))

abbrev pub member_of_value : Activation → ℕ → Hop → Datum → Action Seen
member_of_value a n h d = do
  e ← known (member_value a.types h.aggregate h.index h.member.type.shape d)
  gives (Is e)

abbrev pub member : Activation → ℕ → Option (ℕ × ℕ) → Hop → Seen → Action Seen
member a n outer h (At place) = do
  v ← seen (λ m. member_at a.types m h.aggregate h.index place)
  gives (At v)
member a n outer h (Is d) = chosen (is_array h.member.type.shape) (array_object a n (around_member a.types outer h.aggregate h.index d)) (member_of_value a n h d)

abbrev pub along : Activation → ℕ → Option (ℕ × ℕ) → List Hop → Seen → Action Seen
along a n outer [] x = gives x
along a n outer (h ∷ hs) x = do
  y ← member a n outer h x
  along a n (part_of a.types outer h.aggregate h.index) hs y

-- assignment (6.5.16p3): the value is that of the left operand behind it
abbrev pub assigned : Activation → Shape → Value → Datum → Action Seen
assigned a s at d = do
  _ ← changes (stored a.types s at d)
  e ← seen (λ m. value_at a.types m s at)
  gives (Is e)

-- compound assignment (6.5.16.2p3) computes in the type `by`: the old value is read before the right operand is evaluated (own)
abbrev pub compound : Activation → BinOp → Shape → Shape → Shape → Value → Action Datum → Action Seen
compound a op by r s at right = do
  old ← seen (λ m. value_at a.types m s at)
  d ← known (as_type a.types s by old)
  e ← right
  x ← computed a op by r d e
  y ← known (as_type a.types by s x)
  assigned a s at y

-- ++ and -- add 1 and subtract it in the type `by` (6.5.2.4p2, 6.5.3.1p2)
abbrev pub operator_of : StepForm → BinOp
operator_of PreIncrement = Add
operator_of PreDecrement = Sub
operator_of PostIncrement = Add
operator_of PostDecrement = Sub

abbrev pub result_of : StepForm → Datum → Seen → Seen
result_of PreIncrement old new = new
result_of PreDecrement old new = new
result_of PostIncrement old new = Is old
result_of PostDecrement old new = Is old

abbrev pub stepped : Activation → StepForm → Shape → Shape → Value → Action Seen
stepped a form by s at = do
  old ← seen (λ m. value_at a.types m s at)
  d ← known (as_type a.types s by old)
  x ← computed a (operator_of form) by int_shape d (Single (Int (pos 1)))
  y ← known (as_type a.types by s x)
  z ← assigned a s at y
  gives (result_of form old z)

-- a call (6.5.2.2): what is called, and the arguments with their kinds, are evaluated; the caller's type of the result decides its kind (own)
abbrev pub called : Activation → Enter → Shape → Value → List Argument → Action Seen
called a enter result f xs = do
  d ← enter (record { abi = a.types.abi; callee = f; result = kind_of a.types result; arguments = xs })
  gives (Is d)

-- objects

abbrev pub unit_object : Activation → ℕ → Action Seen
unit_object a n = do
  e ← known (slice_get a.entities n)
  gives (At (object_pointer (UnitObject (record { 0 = e })) 0))

abbrev pub local_object : Activation → ℕ → Seen
local_object a n = At (object_pointer (local_of a n) 0)

-- initialisers (6.7.9)

-- an object that is initialised
pub record Object : Type 0 where
  pub name : ObjName
  pub type : CType

-- that of a compound literal in a function (6.5.2.5p5)
abbrev pub literal_object : Activation → ℕ → CType → Object
literal_object a n c = record { name = local_of a (literal_number a n); type = c }

-- what is done to a part of it
abbrev pub part_changes : Activation → Object → Path → (Shape → Value → Memory → Option Memory) → Action (Unit {0})
part_changes a o p change = do
  x ← known (part_from a.types p o.type.shape 0)
  changes (change x.0 (object_pointer o.name x.1))

abbrev pub zero_part : Activation → Object → Path → Action (Unit {0})
zero_part a o p = part_changes a o p (zeroed a.types)

abbrev pub fill_part : Activation → Object → Path → List ℕ → Action (Unit {0})
fill_part a o p bytes = part_changes a o p (λ s. filled a.types bytes)

abbrev pub store_part : Activation → Object → Path → Datum → Action (Unit {0})
store_part a o p d = part_changes a o p (λ s at. stored a.types s at d)

-- an object defined with a const type is read-only once it is initialised (6.7.3p6), and may be initialised again where its declaration is reached again (own)
abbrev pub protected : ObjName → Bool → Action (Unit {0})
protected name read_only = changes (λ m. Some (protect m name read_only))

abbrev pub initialised : Object → Action (Unit {0}) → Action (Unit {0})
initialised o go = do
  _ ← protected o.name false
  _ ← go
  protected o.name (is_const o.type)

-- what of an initialiser is still to be done, and where its next expression stands
pub record Rest : Type 0 where
  pub steps : Inits
  pub here : Here

-- the bytes that become zero before the next value
abbrev pub zeroes : Activation → Object → Inits → Action Inits
zeroes a o NoInits = gives NoInits
zeroes a o (MoreInits (Zero p) is) = do
  _ ← zero_part a o p
  zeroes a o is
zeroes a o (MoreInits (Scalar p e) is) = gives (MoreInits (Scalar p e) is)
zeroes a o (MoreInits (Constant' p c) is) = gives (MoreInits (Constant' p c) is)
zeroes a o (MoreInits (Aggregate p e) is) = gives (MoreInits (Aggregate p e) is)
zeroes a o (MoreInits (Bytes p bytes) is) = gives (MoreInits (Bytes p bytes) is)

-- the steps of an initialiser, of which its tree does those up to its last expression
abbrev pub steps_of : Activation → Object → Inits → Here → (Object → Rest → Action Rest) → Action (Unit {0})
steps_of a o is h go = do
  r ← go o (record { steps = is; here = h })
  _ ← zeroes a o r.steps
  gives tt

-- a value of the type that the part has; it is given with the place behind its expression
abbrev pub stores_value : Activation → Object → Path → Inits → Action (Datum × Here) → Action Rest
stores_value a o p is value = do
  x ← value
  _ ← store_part a o p x.0
  gives (record { steps = is; here = x.1 })

-- an expression of an initialiser does the next step: it is a value, converted as by assignment (6.7.9p11, p13), or a literal for an array of characters (p14)
abbrev pub next_step : Activation → Object → Here → (Shape → Action (Datum × Here)) → Inits → Action Rest
next_step a o h value NoInits = λ s. Undefined s
next_step a o h value (MoreInits (Zero p) is) = λ s. Undefined s
next_step a o h value (MoreInits (Scalar p e) is) = stores_value a o p is (value (shape_in e))
next_step a o h value (MoreInits (Constant' p c) is) = λ s. Undefined s
next_step a o h value (MoreInits (Aggregate p e) is) = stores_value a o p is (value (shape_in e))
next_step a o h value (MoreInits (Bytes p bytes) is) = do
  _ ← fill_part a o p bytes
  gives (record { steps = is; here = h })
