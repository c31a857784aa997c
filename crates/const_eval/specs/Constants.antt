-- Definition: the value of a constant expression (C11 6.6), none where it is no constant.
use Rattle.std.specs.Prelude.{Bool, true, false, Option, Some, None}
use Rattle.std.specs.Option.{option_map, option_and_then}
use Rattle.cil_base.specs.declared.constants.Constant.{Constant}
use Rattle.type_graph.specs.Arena.{Graph}
use Rattle.type_graph.specs.Shapes.{Shape}
use Rattle.typed_tree.specs.Tree.{Typed, Form, Has, Integer, Local, Literal, Entity, Load, Decay, Address, Indirect, Subscript, Member, Convert, Unary, Binary, Logical, Conditional, Comma, Assign, Compute, Step, Call, shape_in}
use Rattle.const_eval.specs.declared.known.Known.{Known}
use Rattle.const_eval.specs.Values.{constant_of, size_in, integer_in, entity_in, told_as_int, truth_of, decided_by, converted_in, unary_in, binary_in, sum_of, member_at}

-- the truth of a value that is known
abbrev pub truth_in : Option Known → Option Bool
truth_in known = option_and_then truth_of known

-- `&&` and `||`: where the first operand decides, the second is not looked at
abbrev pub logical_in : Option Bool → Option Known → Option Known
logical_in (Some holds) right = Some (told_as_int holds)
logical_in None right = option_map told_as_int (truth_in right)

-- `?:`: the one that the test chooses
abbrev pub chosen : Bool → Option Known → Option Known → Option Known
chosen true holds fails = holds
chosen false holds fails = fails

abbrev mutual
  -- the value of an expression that is no lvalue
  pub value : Graph → Typed → Option Known
  value g (Has quals shape effect form) = value_of g shape form

  value_of : Graph → Shape → Form → Option Known
  value_of g s (Integer n) = integer_in g s n
  value_of g s (Local n) = None
  value_of g s (Literal n init) = None
  value_of g s (Entity n) = None
  value_of g s (Load e) = None
  value_of g s (Decay e) = place g e
  value_of g s (Address e) = place g e
  value_of g s (Indirect e) = None
  value_of g s (Subscript l r) = None
  value_of g s (Member e a i) = None
  value_of g s (Convert e) = option_and_then (converted_in g s) (value g e)
  value_of g s (Unary op e) = option_and_then (unary_in op) (value g e)
  value_of g s (Binary op l r) = option_and_then (λ x. option_and_then (binary_in g s op x) (value g r)) (value g l)
  value_of g s (Logical op l r) = option_and_then (λ holds. logical_in (decided_by op holds) (value g r)) (truth_in (value g l))
  value_of g s (Conditional test holds fails) = option_and_then (λ t. chosen t (value g holds) (value g fails)) (truth_in (value g test))
  value_of g s (Comma l r) = None
  value_of g s (Assign l r) = None
  value_of g s (Compute op at l r) = None
  value_of g s (Step form at e) = None
  value_of g s (Call f es) = None

  -- the address of what an lvalue designates (C11 6.6p9), or the function
  pub place : Graph → Typed → Option Known
  place g (Has quals shape effect form) = place_of g shape form

  place_of : Graph → Shape → Form → Option Known
  place_of g s (Integer n) = None
  place_of g s (Local n) = None
  place_of g s (Literal n init) = None
  place_of g s (Entity n) = Some (entity_in g s (record { 0 = n }))
  place_of g s (Load e) = None
  place_of g s (Decay e) = None
  place_of g s (Address e) = None
  place_of g s (Indirect e) = value g e
  place_of g s (Subscript l r) = option_and_then (λ x. option_and_then (λ y. option_and_then (sum_of x y) (size_in g s)) (value g r)) (value g l)
  place_of g s (Member e a i) = option_and_then (member_at g (shape_in e) i) (place g e)
  place_of g s (Convert e) = None
  place_of g s (Unary op e) = None
  place_of g s (Binary op l r) = None
  place_of g s (Logical op l r) = None
  place_of g s (Conditional test holds fails) = None
  place_of g s (Comma l r) = None
  place_of g s (Assign l r) = None
  place_of g s (Compute op at l r) = None
  place_of g s (Step form at e) = None
  place_of g s (Call f es) = None

-- the constant
abbrev pub constant : Graph → Typed → Option Constant
constant g e = option_map (constant_of g.abi) (value g e)
