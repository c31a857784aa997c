-- Definition: what typed expressions of C do (C11 6.5) in the state where they run, operands from left to right (own): each conversion is a node, and each node has its type.
use Rattle.std.specs.Prelude.{ℕ, ◌+◌, Bool, List, [], ◌∷◌, None, pos}
use Rattle.cil_base.specs.declared.operators.BinOp.{BinOp}
use Rattle.cil_base.specs.declared.operators.UnOp.{UnOp}
use Rattle.byte_mem.specs.declared.values.Value.{Value}
use Rattle.typed_tree.specs.declared.expressions.StepForm.{StepForm}
use Rattle.c_typing.specs.Initialisers.{Path}
use Rattle.type_graph.specs.Shapes.{Shape}
use Rattle.execution.specs.States.{State, Result, Goes, Undefined}
use Rattle.execution.specs.Data.{Datum, Argument}
use Rattle.execution.specs.Calls.{Enter}
use Rattle.typed_tree.specs.Tree.{Typed, Form, Has, Integer, Local, Literal, Entity, Load, Decay, Address, Indirect, Subscript, Member, Convert, Unary, Binary, Logical, Conditional, Comma, Assign, Compute, Step, Call, Arguments, NoArguments, MoreArguments, Inits, NoInits, MoreInits, Zero, Scalar, Constant', Aggregate, Bytes, shape_in}
use Rattle.c_rules.specs.Types.{CType, Hop}
use Rattle.c_rules.specs.Operators.{sides}
use Rattle.c_semantics.specs.Values.{kind_of, cast_value, holds_of}
use Rattle.c_semantics.specs.Places.{Activation, outer_of, literal_number, array_number, arrays_in}
use Rattle.c_semantics.specs.Operations.{Action, ◌>>=◌, gives, known, seen, Seen, Is, is_value, is_number, single, valued, placed, indirect, operated, computed, subscripted, logical, chosen, member, assigned, compound, stepped, called, unit_object, local_object, Object, literal_object, zero_part, fill_part, store_part, initialised}

-- the value of what an expression gives (6.3.2.1p2 to p4)
abbrev pub value_of : Activation → Typed → Action Seen → Action Datum
value_of a e go = do
  x ← go
  valued a (shape_in e) x

abbrev pub single_of : Activation → Typed → Action Seen → Action Value
single_of a e go = do
  d ← value_of a e go
  single d

abbrev pub holds : Activation → Typed → Action Seen → Action Bool
holds a e go = do
  d ← value_of a e go
  seen (λ m. holds_of a.types m (shape_in e) d)

abbrev pub is_datum : Action Datum → Action Seen
is_datum go = do
  d ← go
  gives (Is d)

abbrev pub of_address : Action Seen → Action Seen
of_address go = do
  x ← go
  v ← placed x
  gives (is_value v)

abbrev pub of_indirect : Activation → Typed → Action Seen → Action Seen
of_indirect a e go = do
  v ← single_of a e go
  indirect v

abbrev pub of_subscript : Activation → Shape → Typed → Typed → Action Seen → Action Seen → Action Seen
of_subscript a s l r left right = do
  d ← value_of a l left
  e ← value_of a r right
  subscripted a (sides (shape_in l) (shape_in r) s) d e

-- a member, of that type
abbrev pub hop : CType → ℕ → ℕ → Hop
hop c a i = record { aggregate = a; index = i; member = record { name = None; type = c; value = pos 0 } }

abbrev pub of_member : Activation → ℕ → Hop → Typed → Action Seen → Action Seen
of_member a n h e go = do
  x ← go
  member a (array_number a n) (outer_of a.types e) h x

-- a conversion (6.3)
abbrev pub of_convert : Activation → Shape → Typed → Action Seen → Action Seen
of_convert a s e go = do
  d ← value_of a e go
  v ← known (cast_value a.types s d)
  gives (is_value v)

abbrev pub of_unary : Activation → UnOp → Typed → Action Seen → Action Seen
of_unary a op e go = do
  d ← value_of a e go
  operated a op (shape_in e) d

abbrev pub of_binary : Activation → BinOp → Typed → Typed → Action Seen → Action Seen → Action Seen
of_binary a op l r left right = do
  d ← value_of a l left
  e ← value_of a r right
  v ← computed a op (shape_in l) (shape_in r) d e
  gives (Is v)

abbrev pub of_conditional : Activation → Typed → Typed → Typed → Action Seen → Action Seen → Action Seen → Action Seen
of_conditional a c y n test first second = do
  b ← holds a c test
  d ← chosen b (value_of a y first) (value_of a n second)
  gives (Is d)

abbrev pub of_comma : Activation → Typed → Typed → Action Seen → Action Seen → Action Seen
of_comma a l r left right = do
  _ ← value_of a l left
  d ← value_of a r right
  gives (Is d)

abbrev pub of_assign : Activation → Typed → Typed → Action Seen → Action Seen → Action Seen
of_assign a l r left right = do
  x ← left
  at ← placed x
  d ← value_of a r right
  assigned a (shape_in l) at d

abbrev pub of_compute : Activation → BinOp → Shape → Typed → Typed → Action Seen → Action Seen → Action Seen
of_compute a op by l r left right = do
  x ← left
  at ← placed x
  compound a op by (shape_in r) (shape_in l) at (value_of a r right)

abbrev pub of_step : Activation → StepForm → Shape → Typed → Action Seen → Action Seen
of_step a form by e go = do
  x ← go
  at ← placed x
  stepped a form by (shape_in e) at

abbrev pub of_call : Activation → Enter → Shape → Typed → Action Seen → Action (List Argument) → Action Seen
of_call a enter s f go arguments = do
  v ← single_of a f go
  xs ← arguments
  called a enter s v xs

abbrev pub of_arguments : Activation → Typed → Action Seen → Action (List Argument) → Action (List Argument)
of_arguments a e go more = do
  d ← value_of a e go
  xs ← more
  gives (record { kind = kind_of a.types (shape_in e); datum = d } ∷ xs)

abbrev pub first_then : {A : Type 0} → Action (Unit {0}) → Action A → Action A
first_then first next = do
  _ ← first
  next

abbrev pub stores : Activation → Object → Path → Action Datum → Action (Unit {0})
stores a o p go = do
  d ← go
  store_part a o p d

abbrev mutual
  -- `k` arrays in values stand before the expression in its function
  pub t_exp : Activation → Enter → Typed → ℕ → State → Result Seen
  t_exp a enter (Has q s effect form) k st = t_form a enter (record { quals = q; shape = s }) form k st

  t_form : Activation → Enter → CType → Form → ℕ → State → Result Seen
  t_form a enter c (Integer n) k st = Goes (is_number n) st
  t_form a enter c (Local n) k st = Goes (local_object a n) st
  t_form a enter c (Literal n init) k st = first_then (initialised (literal_object a n c) (t_inits a enter (literal_object a n c) init k)) (gives (local_object a (literal_number a n))) st
  t_form a enter c (Entity n) k st = unit_object a n st
  t_form a enter c (Load e) k st = is_datum (value_of a e (t_exp a enter e k)) st
  t_form a enter c (Decay e) k st = is_datum (value_of a e (t_exp a enter e k)) st
  t_form a enter c (Address e) k st = of_address (t_exp a enter e k) st
  t_form a enter c (Indirect e) k st = of_indirect a e (t_exp a enter e k) st
  t_form a enter c (Subscript l r) k st = of_subscript a c.shape l r (t_exp a enter l k) (t_exp a enter r (k + arrays_in l)) st
  t_form a enter c (Member e g i) k st = of_member a (k + arrays_in e) (hop c g i) e (t_exp a enter e k) st
  t_form a enter c (Convert e) k st = of_convert a c.shape e (t_exp a enter e k) st
  t_form a enter c (Unary op e) k st = of_unary a op e (t_exp a enter e k) st
  t_form a enter c (Binary op l r) k st = of_binary a op l r (t_exp a enter l k) (t_exp a enter r (k + arrays_in l)) st
  t_form a enter c (Logical op l r) k st = logical op (holds a l (t_exp a enter l k)) (holds a r (t_exp a enter r (k + arrays_in l))) st
  t_form a enter c (Conditional x y z) k st = of_conditional a x y z (t_exp a enter x k) (t_exp a enter y (k + arrays_in x)) (t_exp a enter z (k + arrays_in x + arrays_in y)) st
  t_form a enter c (Comma l r) k st = of_comma a l r (t_exp a enter l k) (t_exp a enter r (k + arrays_in l)) st
  t_form a enter c (Assign l r) k st = of_assign a l r (t_exp a enter l k) (t_exp a enter r (k + arrays_in l)) st
  t_form a enter c (Compute op at l r) k st = of_compute a op at l r (t_exp a enter l k) (t_exp a enter r (k + arrays_in l)) st
  t_form a enter c (Step form at e) k st = of_step a form at e (t_exp a enter e k) st
  t_form a enter c (Call f es) k st = of_call a enter c.shape f (t_exp a enter f k) (t_arguments a enter es (k + arrays_in f)) st

  pub t_arguments : Activation → Enter → Arguments → ℕ → State → Result (List Argument)
  t_arguments a enter NoArguments k st = Goes [] st
  t_arguments a enter (MoreArguments e es) k st = of_arguments a e (t_exp a enter e k) (t_arguments a enter es (k + arrays_in e)) st

  -- the steps of an initialiser (6.7.9)
  pub t_inits : Activation → Enter → Object → Inits → ℕ → State → Result (Unit {0})
  t_inits a enter o NoInits k st = Goes tt st
  t_inits a enter o (MoreInits (Zero p) is) k st = first_then (zero_part a o p) (t_inits a enter o is k) st
  t_inits a enter o (MoreInits (Scalar p e) is) k st = first_then (stores a o p (value_of a e (t_exp a enter e k))) (t_inits a enter o is (k + arrays_in e)) st
  t_inits a enter o (MoreInits (Constant' p c) is) k st = Undefined st
  t_inits a enter o (MoreInits (Aggregate p e) is) k st = first_then (stores a o p (value_of a e (t_exp a enter e k))) (t_inits a enter o is (k + arrays_in e)) st
  t_inits a enter o (MoreInits (Bytes p bytes) is) k st = first_then (fill_part a o p bytes) (t_inits a enter o is k) st
