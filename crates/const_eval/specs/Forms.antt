-- Definition: the form of an integer constant expression (C11 6.6p6): built of integer constants by conversions between integer types and by operators on integers; comma, assignments, steps and calls are none of them (6.6p3). What is not evaluated of `&&`, `||` and `?:` is not looked at (own).
use Rattle.std.specs.Prelude.{Bool, true, false, ◌&&◌, ◌||◌, Option, Some, None, is_some}
use Rattle.type_graph.specs.Arena.{Graph}
use Rattle.typed_tree.specs.Tree.{Typed, Form, Has, Integer, Local, Literal, Entity, Load, Decay, Address, Indirect, Subscript, Member, Convert, Unary, Binary, Logical, Conditional, Comma, Assign, Compute, Step, Call}
use Rattle.typed_tree.specs.declared.expressions.Logic.{Logic}
use Rattle.const_eval.specs.Values.{kind_in, decided_by}
use Rattle.const_eval.specs.Constants.{value, truth_in}

-- whether the first operand of `&&` or `||` decides alone
abbrev pub decides : Logic → Option Bool → Bool
decides op (Some holds) = is_some (decided_by op holds)
decides op None = false

-- `?:`: of the one that the test chooses, of both where it has no value
abbrev pub of_chosen : Option Bool → Bool → Bool → Bool
of_chosen (Some true) holds fails = holds
of_chosen (Some false) holds fails = fails
of_chosen None holds fails = holds && fails

abbrev mutual
  pub has_constant_form : Graph → Typed → Bool
  has_constant_form g (Has quals s effect form) = is_some (kind_in g s) && is_of_constants g form

  is_of_constants : Graph → Form → Bool
  is_of_constants g (Integer n) = true
  is_of_constants g (Local n) = false
  is_of_constants g (Literal n init) = false
  is_of_constants g (Entity n) = false
  is_of_constants g (Load e) = false
  is_of_constants g (Decay e) = false
  is_of_constants g (Address e) = false
  is_of_constants g (Indirect e) = false
  is_of_constants g (Subscript l r) = false
  is_of_constants g (Member e a i) = false
  is_of_constants g (Convert e) = has_constant_form g e
  is_of_constants g (Unary op e) = has_constant_form g e
  is_of_constants g (Binary op l r) = has_constant_form g l && has_constant_form g r
  is_of_constants g (Logical op l r) = has_constant_form g l && (decides op (truth_in (value g l)) || has_constant_form g r)
  is_of_constants g (Conditional test holds fails) = has_constant_form g test && of_chosen (truth_in (value g test)) (has_constant_form g holds) (has_constant_form g fails)
  is_of_constants g (Comma l r) = false
  is_of_constants g (Assign l r) = false
  is_of_constants g (Compute op at l r) = false
  is_of_constants g (Step form at e) = false
  is_of_constants g (Call f es) = false
