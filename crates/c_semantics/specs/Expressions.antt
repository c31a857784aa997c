-- Definition: what expressions of C do (C11 6.5) in the state where they run, operands from left to right (own); names are looked up while it runs, and operands are converted by their static types.
use Rattle.std.specs.Prelude.{ℕ, true, false, List, [], ◌∷◌, length, Option, Some, None, option_map, ℤ, pos, not, ◌&&◌}
use Rattle.std.specs.Option.{option_and_then}
use Rattle.type_graph.specs.Shapes.{Shape, Shapes, NoTypes, MoreTypes}
use Rattle.execution.specs.States.{State, Result, Goes, Undefined}
use Rattle.execution.specs.Data.{Datum, Single, Argument}
use Rattle.execution.specs.Calls.{Enter}
use Rattle.cil_base.specs.declared.kinds.IntKind.{IntKind}
use Rattle.cil_base.specs.declared.numbers.NameId.{NameId}
use Rattle.cil_base.specs.declared.operators.BinOp.{BinOp}
use Rattle.cil_base.specs.declared.operators.UnOp.TheVariants.{Neg, Compl, Not}
use Rattle.typed_tree.specs.declared.expressions.StepForm.{StepForm}
use Rattle.typed_tree.specs.Tree.{Typed, Has, Literal, Entity, Integer as IntegerForm, Local as LocalForm, Load as LoadForm, Decay as DecayForm, Address as AddressForm, Indirect as IndirectForm, Subscript as SubscriptForm, Member as MemberForm, Convert as ConvertForm, Unary as UnaryForm, Binary as BinaryForm, Logical as LogicalForm, Conditional as ConditionalForm, Comma as CommaForm, Assign as AssignForm, Compute as ComputeForm, Step as StepIn, Call as CallForm, shape_in}
use Rattle.c_tree.specs.declared.words.UnaryOp.{UnaryOp}
use Rattle.c_tree.specs.declared.words.UnaryOp.TheVariants.{Address, Indirection, Plus, Minus, Complement, Not as Negation}
use Rattle.c_tree.specs.Syntax.{ExprTree, Name, Integer, Character, Literals, Parentheses, Index, Call, Member, Arrow, Postfix, CompoundLiteral, Prefix, Unary, SizeofExpr, SizeofType, AlignofType, Cast, Binary, Logical, Conditional, Assign, Comma, ExprTrees, NoExprs, MoreExprs, InitTree, Single as Lone, Braces, Item, ItemTrees, NoItems, MoreItems}
use Rattle.c_rules.specs.Types.{CType, Hop, Types, pointee, is_void, member_path, size_in, alignment_in}
use Rattle.c_rules.specs.Conversions.{Operand, shape_of, promoted_shape, same_shape}
use Rattle.c_rules.specs.Constants.{integer_constant, character_constant}
use Rattle.c_rules.specs.Operators.{binary_sides, subscript_sides, compound_sides, step_shape, branch_shape}
use Rattle.c_rules.specs.Nodes.{callee_of}
use Rattle.c_typing.specs.Scopes.{Denotes, TypedefName, EnumerationConstant, Automatic, Static, unevaluated, visible_name}
use Rattle.c_typing.specs.Steps.{logic_of, postfix_form, prefix_form}
use Rattle.c_typing.specs.Walk.{expr, exprs, named_type}
use Rattle.c_semantics.specs.Values.{kind_of, cast_value}
use Rattle.c_semantics.specs.Places.{Activation, Here, outer_of, literal_number, array_number, with_parts, with_operand, with_operands}
use Rattle.c_semantics.specs.Walks.{designators}
use Rattle.c_semantics.specs.Operations.{Action, ◌>>=◌, gives, known, Seen, Is, is_value, is_number, placed, used, taken, pointed, tested, indirect, operated, computed, subscripted, logical, chosen, along, assigned, compound, stepped, called, unit_object, local_object, Object, literal_object, initialised, Rest, zeroes, steps_of, next_step}

-- an identifier is an lvalue, a function or a constant (6.5.1p2, 6.4.4.3)
abbrev pub denoted : Activation → Denotes → Action Seen
denoted a (TypedefName c) = λ s. Undefined s
denoted a (EnumerationConstant n) = gives (is_number n)
denoted a (Automatic n c register) = gives (local_object a n)
denoted a (Static n c) = unit_object a n

-- an argument goes to the type of its parameter, or is promoted (6.5.2.2p6, p7)
abbrev pub passed_shape : Types → Shapes → Operand → Shape
passed_shape t NoTypes x = promoted_shape t (shape_of x)
passed_shape t (MoreTypes p ps) x = p

abbrev pub parameters_behind : Shapes → Shapes
parameters_behind NoTypes = NoTypes
parameters_behind (MoreTypes p ps) = ps

-- a value that is cast to the type that it has stays as it is, but for one cast to void (6.5.4)
abbrev pub cast_to : Activation → Shape → Shape → Datum → Action Seen
cast_to a from to d = known (option_map Is (elim (same_shape from to && not (is_void to)) [ true ↦ Some d | false ↦ option_map Single (cast_value a.types to d) ]))

-- a constant (6.4.4)
abbrev pub of_number : Option ℤ → Action Seen
of_number n = do
  v ← known n
  gives (is_number v)

-- a size or an alignment (6.5.3.4p2, p3); what has none violates a constraint, and its number counts for nothing
abbrev pub measured : Option ℕ → Action Seen
measured None = gives (is_number (pos 0))
measured (Some n) = gives (is_number (pos n))

abbrev pub of_name : Activation → Option Denotes → Action Seen
of_name a found = do
  d ← known found
  denoted a d

-- a subscript (6.5.2.1)
abbrev pub of_index : Activation → Types → Operand → Operand → Action Seen → Action Seen → Action Seen
of_index a t x y left right = do
  z ← known (subscript_sides t x y)
  d ← taken a x z.left left
  e ← taken a y z.right right
  subscripted a z d e

-- a call: what is called, then the arguments (own)
abbrev pub of_call : Activation → Enter → Operand → Action Seen → (Shapes → Action (List Argument)) → Action Seen
of_call a enter x go arguments = do
  c ← known (callee_of x)
  f ← pointed a x go
  xs ← arguments c.parameters
  called a enter c.result f xs

abbrev pub of_arguments : Activation → Shape → Operand → Action Seen → Action (List Argument) → Action (List Argument)
of_arguments a to x go more = do
  d ← taken a x to go
  xs ← more
  gives (record { kind = kind_of a.types to; datum = d } ∷ xs)

-- members (6.5.2.3); an array in a value has that number among them
abbrev pub of_member : Activation → ℕ → Option (List Hop) → Operand → Action Seen → Action Seen
of_member a n path x go = do
  hops ← known path
  y ← go
  along a (array_number a n) (outer_of a.types x.typed) hops y

abbrev pub of_arrow : Activation → ℕ → Option (List Hop) → Operand → Action Seen → Action Seen
of_arrow a n path x go = do
  hops ← known path
  v ← pointed a x go
  y ← indirect v
  along a (array_number a n) None hops y

abbrev pub dot_path : Types → NameId → Operand → Option (List Hop)
dot_path t m x = member_path t m (shape_in x.typed)

abbrev pub arrow_path : Types → NameId → Operand → Option (List Hop)
arrow_path t m x = option_and_then (λ (c : CType). member_path t m c.shape) (pointee (shape_of x))

-- a cast (6.5.4)
abbrev pub of_cast : Activation → Shape → Operand → Action Seen → Action Seen
of_cast a to x go = do
  d ← used a x go
  cast_to a (shape_of x) to d

-- a binary operator (6.5.5 to 6.5.12)
abbrev pub of_binary : Activation → Types → BinOp → Operand → Operand → Action Seen → Action Seen → Action Seen
of_binary a t op x y left right = do
  z ← known (binary_sides t op x y)
  d ← taken a x z.left left
  e ← taken a y z.right right
  v ← computed a op z.left z.right d e
  gives (Is v)

-- the second operand or the third (6.5.15p4), which goes to the type of the result (p5, p6)
abbrev pub of_conditional : Activation → Types → Operand → Operand → Operand → Action Seen → Action Seen → Action Seen → Action Seen
of_conditional a t x y z test first second = do
  to ← known (branch_shape t y z)
  holds ← tested a x test
  d ← chosen holds (taken a y to first) (taken a z to second)
  gives (Is d)

-- the value of the left operand is not used (6.5.17p2)
abbrev pub of_comma : Activation → Operand → Operand → Action Seen → Action Seen → Action Seen
of_comma a x y left right = do
  _ ← used a x left
  d ← used a y right
  gives (Is d)

-- unary operators (6.5.3.2, 6.5.3.3)
abbrev pub of_unary : Activation → Types → UnaryOp → Operand → Action Seen → Action Seen
of_unary a t Address x go = do
  y ← go
  v ← placed y
  gives (is_value v)
of_unary a t Indirection x go = do
  v ← pointed a x go
  indirect v
of_unary a t Plus x go = do
  d ← taken a x (promoted_shape t (shape_of x)) go
  gives (Is d)
of_unary a t Minus x go = do
  d ← taken a x (promoted_shape t (shape_of x)) go
  operated a Neg (promoted_shape t (shape_of x)) d
of_unary a t Complement x go = do
  d ← taken a x (promoted_shape t (shape_of x)) go
  operated a Compl (promoted_shape t (shape_of x)) d
of_unary a t Negation x go = do
  d ← used a x go
  operated a Not (shape_of x) d

-- assignments (6.5.16): the place of the left operand, then the right operand (own)
abbrev pub of_assign : Activation → Types → Option BinOp → Operand → Operand → Action Seen → Action Seen → Action Seen
of_assign a t None x y left right = do
  l ← left
  at ← placed l
  d ← taken a y (shape_in x.typed) right
  assigned a (shape_in x.typed) at d
of_assign a t (Some op) x y left right = do
  z ← known (compound_sides t op x y)
  l ← left
  at ← placed l
  compound a op z.left z.right (shape_in x.typed) at (taken a y z.right right)

-- ++ and -- (6.5.2.4, 6.5.3.1)
abbrev pub of_step : Activation → Types → StepForm → Operand → Action Seen → Action Seen
of_step a t form x go = do
  by ← known (step_shape t x)
  y ← go
  at ← placed y
  stepped a form by (shape_in x.typed) at

-- a compound literal is an object of the block, which is initialised each time it is reached (6.5.2.5p5, 6.2.4p6); outside functions it is an object of the unit
abbrev pub of_literal : Activation → Typed → Here → (Object → Rest → Action Rest) → Action Seen
of_literal a (Has q s effect (Literal n is)) h go = do
  _ ← initialised (literal_object a n (record { quals = q; shape = s })) (steps_of a (literal_object a n (record { quals = q; shape = s })) is h go)
  gives (local_object a (literal_number a n))
of_literal a (Has q s effect (Entity n)) h go = unit_object a n
of_literal a (Has q s effect (IntegerForm n)) h go = λ t. Undefined t
of_literal a (Has q s effect (LocalForm n)) h go = λ t. Undefined t
of_literal a (Has q s effect (LoadForm e)) h go = λ t. Undefined t
of_literal a (Has q s effect (DecayForm e)) h go = λ t. Undefined t
of_literal a (Has q s effect (AddressForm e)) h go = λ t. Undefined t
of_literal a (Has q s effect (IndirectForm e)) h go = λ t. Undefined t
of_literal a (Has q s effect (SubscriptForm l r)) h go = λ t. Undefined t
of_literal a (Has q s effect (MemberForm e g i)) h go = λ t. Undefined t
of_literal a (Has q s effect (ConvertForm e)) h go = λ t. Undefined t
of_literal a (Has q s effect (UnaryForm op e)) h go = λ t. Undefined t
of_literal a (Has q s effect (BinaryForm op l r)) h go = λ t. Undefined t
of_literal a (Has q s effect (LogicalForm op l r)) h go = λ t. Undefined t
of_literal a (Has q s effect (ConditionalForm x y z)) h go = λ t. Undefined t
of_literal a (Has q s effect (CommaForm l r)) h go = λ t. Undefined t
of_literal a (Has q s effect (AssignForm l r)) h go = λ t. Undefined t
of_literal a (Has q s effect (ComputeForm op by l r)) h go = λ t. Undefined t
of_literal a (Has q s effect (StepIn form by e)) h go = λ t. Undefined t
of_literal a (Has q s effect (CallForm f xs)) h go = λ t. Undefined t

-- an expression of an initialiser, with the place behind it
abbrev pub of_value : Activation → Shape → Operand → Here → Action Seen → Action (Datum × Here)
of_value a to x k go = do
  d ← taken a x to go
  gives (d, k)

abbrev pub of_lone : Activation → Object → Rest → (Shape → Action (Datum × Here)) → Action Rest
of_lone a o r value = do
  is ← zeroes a o r.steps
  next_step a o r.here value is

abbrev pub then_rest : Action Rest → (Rest → Action Rest) → Action Rest
then_rest first next = do
  r ← first
  next r

abbrev mutual
  pub c_exp : Activation → Enter → ExprTree → Here → State → Result Seen
  c_exp a enter (Name at x) h s = of_name a (visible_name h.env x) s
  c_exp a enter (Integer at text) h s = of_number (option_map (λ (c : IntKind × ℤ). c.1) (integer_constant h.env.types.abi text)) s
  c_exp a enter (Character at text) h s = of_number (character_constant text) s
  -- the array of a literal is the object that the walk makes there (6.4.5p6)
  c_exp a enter (Literals at texts) h s = unit_object a (length h.env.entities) s
  c_exp a enter (Parentheses at e) h s = c_exp a enter e h s
  c_exp a enter (Index at l r) h s = with_operand (expr l) h (λ x k. with_operand (expr r) k (λ y j. of_index a j.env.types x y (c_exp a enter l h) (c_exp a enter r k))) s
  c_exp a enter (Call at f es) h s = with_operand (expr f) h (λ x k. with_operands (exprs es) k (λ ys j. of_call a enter x (c_exp a enter f h) (λ ps. c_arguments a enter j.env.types ps es k))) s
  c_exp a enter (Member at e m) h s = with_operand (expr e) h (λ x k. of_member a k.arrays (dot_path k.env.types m x) x (c_exp a enter e h)) s
  c_exp a enter (Arrow at e m) h s = with_operand (expr e) h (λ x k. of_arrow a k.arrays (arrow_path k.env.types m x) x (c_exp a enter e h)) s
  c_exp a enter (Postfix at e op) h s = with_operand (expr e) h (λ x k. of_step a k.env.types (postfix_form op) x (c_exp a enter e h)) s
  c_exp a enter (CompoundLiteral at t items comma) h s = with_parts (named_type t) h (λ c k. with_operand (expr (CompoundLiteral at t items comma)) h (λ x j. of_literal a x.typed k (λ o. c_init_items a enter o items))) s
  c_exp a enter (Prefix at op e) h s = with_operand (expr e) h (λ x k. of_step a k.env.types (prefix_form op) x (c_exp a enter e h)) s
  c_exp a enter (Unary at op e) h s = with_operand (expr e) h (λ x k. of_unary a k.env.types op x (c_exp a enter e h)) s
  -- the operand is not evaluated (6.5.3.4p2)
  c_exp a enter (SizeofExpr at e) h s = with_operand (unevaluated (expr e)) h (λ x k. measured (size_in k.env.types (shape_in x.typed))) s
  c_exp a enter (SizeofType at t) h s = with_parts (unevaluated (named_type t)) h (λ c k. measured (size_in k.env.types c.shape)) s
  c_exp a enter (AlignofType at t) h s = with_parts (unevaluated (named_type t)) h (λ c k. measured (alignment_in k.env.types c.shape)) s
  c_exp a enter (Cast at t e) h s = with_parts (named_type t) h (λ c k. with_operand (expr e) k (λ x j. of_cast a c.shape x (c_exp a enter e k))) s
  c_exp a enter (Binary at op l r) h s = with_operand (expr l) h (λ x k. with_operand (expr r) k (λ y j. of_binary a j.env.types op x y (c_exp a enter l h) (c_exp a enter r k))) s
  c_exp a enter (Logical at op l r) h s = with_operand (expr l) h (λ x k. with_operand (expr r) k (λ y j. logical (logic_of op) (tested a x (c_exp a enter l h)) (tested a y (c_exp a enter r k)))) s
  c_exp a enter (Conditional at c y n) h s =
      with_operand (expr c) h (λ x k. with_operand (expr y) k (λ v j. with_operand (expr n) j (λ w i. of_conditional a i.env.types x v w (c_exp a enter c h) (c_exp a enter y k) (c_exp a enter n j)))) s
  c_exp a enter (Assign at op l r) h s = with_operand (expr l) h (λ x k. with_operand (expr r) k (λ y j. of_assign a j.env.types op x y (c_exp a enter l h) (c_exp a enter r k))) s
  c_exp a enter (Comma at l r) h s = with_operand (expr l) h (λ x k. with_operand (expr r) k (λ y j. of_comma a x y (c_exp a enter l h) (c_exp a enter r k))) s

  -- arguments from the left (own), by the parameters' types
  pub c_arguments : Activation → Enter → Types → Shapes → ExprTrees → Here → State → Result (List Argument)
  c_arguments a enter t ps NoExprs h s = Goes [] s
  c_arguments a enter t ps (MoreExprs e es) h s = with_operand (expr e) h (λ x k. of_arguments a (passed_shape t ps x) x (c_exp a enter e h) (c_arguments a enter t (parameters_behind ps) es k)) s

  -- an initialiser (6.7.9p8): its expressions in the order of the text (own; p23)
  pub c_init : Activation → Enter → Object → InitTree → Rest → State → Result Rest
  c_init a enter o (Lone e) r s = of_lone a o r (λ to. with_operand (expr e) r.here (λ x k. of_value a to x k (c_exp a enter e r.here))) s
  c_init a enter o (Braces at is comma) r s = c_init_items a enter o is r s

  pub c_init_items : Activation → Enter → Object → ItemTrees → Rest → State → Result Rest
  c_init_items a enter o NoItems r s = Goes r s
  c_init_items a enter o (MoreItems (Item ds i) is) r s = with_parts (designators ds) r.here (λ u k. then_rest (c_init a enter o i (record r { here = k })) (c_init_items a enter o is)) s
