-- Definition: lvalues and functions (C11 6.3.2.1p1, p4).
use Rattle.std.specs.Prelude.{Bool, true, false}
use Rattle.typed_tree.specs.Tree.{Typed, Form, Has, Integer, Local, Literal, Entity, Load, Decay, Address, Indirect, Subscript, Member, Convert, Unary, Binary, Logical, Conditional, Comma, Assign, Compute, Step, Call}

abbrev mutual
  -- the expression is an lvalue, or a function
  pub is_place : Typed → Bool
  is_place (Has quals shape effect form) = is_place_form form

  pub is_place_form : Form → Bool
  is_place_form (Integer value) = false
  is_place_form (Local number) = true
  is_place_form (Literal number init) = true
  is_place_form (Entity number) = true
  is_place_form (Load place) = false
  is_place_form (Decay of) = false
  is_place_form (Address of) = false
  is_place_form (Indirect pointer) = true
  is_place_form (Subscript left right) = true
  is_place_form (Member of aggregate number) = is_place of
  is_place_form (Convert from) = false
  is_place_form (Unary op operand) = false
  is_place_form (Binary op left right) = false
  is_place_form (Logical op left right) = false
  is_place_form (Conditional test holds fails) = false
  is_place_form (Comma left right) = false
  is_place_form (Assign place value) = false
  is_place_form (Compute op at place value) = false
  is_place_form (Step form at place) = false
  is_place_form (Call callee given) = false
