-- Device: the operators of C are matched where their operands are.
use Rattle.std.proofs.Common.{ℕ, Bool, true, false, List, [], ◌∷◌, Option, Some, None}
use Rattle.cil_base.specs.declared.operators.BinOp.{BinOp}
use Rattle.cil_base.specs.declared.operators.BinOp.TheVariants.{Add}
use Rattle.cil_base.specs.declared.operators.UnOp.{UnOp}
use Rattle.cil_base.specs.declared.operators.UnOp.TheVariants.{Neg, Compl, Not}
use Rattle.byte_mem.specs.declared.values.Byte.{Byte}
use Rattle.byte_mem.specs.declared.values.Value.{Value}
use Rattle.byte_mem.specs.declared.values.Value.TheVariants.{Int}
use Rattle.byte_mem.specs.Memory.{Memory, with_held, protect}
use Rattle.type_graph.specs.Shapes.{Shape, Shapes}
use Rattle.execution.specs.Data.{Datum, Single, Argument}
use Rattle.execution.specs.Calls.{Enter}
use Rattle.execution.specs.Runs.{writable}
use Rattle.typed_tree.specs.declared.expressions.Logic.{Logic}
use Rattle.typed_tree.specs.declared.expressions.StepForm.{StepForm}
use Rattle.typed_tree.specs.Tree.{Typed, Has, Integer, Local, Literal, Entity, Load, Decay, Address as Addressed, Indirect, Subscript, Member, Convert, Unary, Binary, Logical, Conditional, Comma, Assign, Compute, Step, Call, Inits, NoInits, MoreInits, Zero, Scalar, Constant', Aggregate, Bytes}
use Rattle.c_tree.specs.declared.words.UnaryOp.{UnaryOp}
use Rattle.c_tree.specs.declared.words.UnaryOp.TheVariants.{Address, Indirection, Plus, Minus, Complement, Not as Negation}
use Rattle.c_rules.specs.Types.{Types, Hop, is_array}
use Rattle.c_rules.specs.Conversions.{Operand, shape_of, promoted_shape}
use Rattle.c_rules.specs.Nodes.{int_shape}
use Rattle.c_typing.specs.Initialisers.{Path}
use Rattle.std.specs.Prelude.{ℤ, pos}
use Rattle.c_rules.specs.Operators.{Sides}
use Rattle.c_typing.specs.Scopes.{Denotes, TypedefName, EnumerationConstant, Automatic, Static}
use Rattle.typed_values.specs.Values.{single_in}
use Rattle.c_semantics.specs.Values.{as_type, unary_value, binary_value, value_at, stored, zeroed, filled, part_from, object_pointer, is_const}
use Rattle.c_semantics.specs.Places.{Activation, part_of, Here, local_of}
use Rattle.c_semantics.specs.Operations.{Action, Seen, At, Is, is_value, valued, placed, used, taken, pointed, tested, indirect, operated, computed, subscripted, decided, logical, chosen, array_object, member, along, assigned, compound, operator_of, result_of, stepped, called, unit_object, Object, literal_object, part_changes, initialised, Rest, zeroes, steps_of, stores_value, next_step}
use Rattle.c_semantics.specs.Expressions.{denoted, of_number, measured, of_name, of_index, of_call, of_arguments, of_member, of_arrow, of_cast, of_binary, of_conditional, of_comma, of_unary, of_assign, of_step, of_literal, of_value, of_lone, then_rest}
use Rattle.c_semantics.proofs.Matched.{Matched, Ready, gives_matched, undefined_matched, known_matched, seen_matched, memory_matched, changes_matched, bind_matched, enter_matched}

pub valued_m : {n more : ℕ} {base : List ℕ} (a : Activation) (s : Shape) (x : Seen) → Matched n more base (valued a s x) (valued a s x)
valued_m a s (At p) = seen_matched _
valued_m a s (Is d) = gives_matched d

pub placed_m : {n more : ℕ} {base : List ℕ} (x : Seen) → Matched n more base (placed x) (placed x)
placed_m (At p) = gives_matched p
placed_m (Is d) = undefined_matched

pub used_m : {n more : ℕ} {base : List ℕ} (a : Activation) (x : Operand) {go to : Action Seen} → Matched n more base go to → Matched n more base (used a x go) (used a x to)
used_m a x m = bind_matched m (λ y. valued_m a _ y)

pub taken_m : {n more : ℕ} {base : List ℕ} (a : Activation) (x : Operand) (s : Shape) {go to : Action Seen} → Matched n more base go to → Matched n more base (taken a x s go) (taken a x s to)
taken_m a x s m = bind_matched (used_m a x m) (λ d. known_matched _)

pub pointed_m : {n more : ℕ} {base : List ℕ} (a : Activation) (x : Operand) {go to : Action Seen} → Matched n more base go to → Matched n more base (pointed a x go) (pointed a x to)
pointed_m a x m = bind_matched (used_m a x m) (λ d. known_matched _)

pub tested_m : {n more : ℕ} {base : List ℕ} (a : Activation) (x : Operand) {go to : Action Seen} → Matched n more base go to → Matched n more base (tested a x go) (tested a x to)
tested_m a x m = bind_matched (used_m a x m) (λ d. seen_matched _)

pub indirect_m : {n more : ℕ} {base : List ℕ} (v : Value) → Matched n more base (indirect v) (indirect v)
indirect_m v = bind_matched (known_matched _) (λ w. gives_matched _)

pub operated_m : {n more : ℕ} {base : List ℕ} (a : Activation) (op : UnOp) (s : Shape) (d : Datum) → Matched n more base (operated a op s d) (operated a op s d)
operated_m a op s d = bind_matched {A = Value} (known_matched (single_in d)) (λ v. bind_matched {A = Value} (seen_matched (λ m. unary_value a.types m op s v)) (λ w. gives_matched (is_value w)))

pub computed_m : {n more : ℕ} {base : List ℕ} (a : Activation) (op : BinOp) (s r : Shape) (d e : Datum) → Matched n more base (computed a op s r d e) (computed a op s r d e)
computed_m a op s r d e = bind_matched {A = Value} (known_matched (single_in d)) (λ v. bind_matched {A = Value} (known_matched (single_in e)) (λ w. bind_matched {A = Value} (seen_matched (λ m. binary_value a.types m op s r v w)) (λ x. gives_matched (Single x))))

pub subscripted_m : {n more : ℕ} {base : List ℕ} (a : Activation) (z : Sides) (d e : Datum) → Matched n more base (subscripted a z d e) (subscripted a z d e)
subscripted_m a z d e = bind_matched {A = Datum} (computed_m a Add z.left z.right d e) (λ x. bind_matched {A = Value} (known_matched (single_in x)) (λ v. indirect_m v))

pub decided_m : {n more : ℕ} {base : List ℕ} (o : Option Bool) {go to : Action Bool} → Matched n more base go to → Matched n more base (decided o go) (decided o to)
decided_m (Some holds) m = gives_matched holds
decided_m None m = m

pub logical_m : {n more : ℕ} {base : List ℕ} (op : Logic) {go to next also : Action Bool} → Matched n more base go to → Matched n more base next also → Matched n more base (logical op go next) (logical op to also)
logical_m op m k = bind_matched m (λ x. bind_matched (decided_m _ k) (λ y. gives_matched _))

pub chosen_m : {A : Type 0} {n more : ℕ} {base : List ℕ} (b : Bool) {go to next also : Action A} → Matched n more base go to → Matched n more base next also → Matched n more base (chosen b go next) (chosen b to also)
chosen_m true m k = m
chosen_m false m k = k

pub array_object_m : {n more : ℕ} {base : List ℕ} (a : Activation) (i : ℕ) (o : Option (List Byte × ℕ)) → Matched n more base (array_object a i o) (array_object a i o)
array_object_m a i None = undefined_matched
array_object_m a i (Some x) = memory_matched _ (λ m. Some (with_held m (local_of a i) (Some (writable x.0))))

pub member_m : {n more : ℕ} {base : List ℕ} (a : Activation) (i : ℕ) (o : Option (ℕ × ℕ)) (h : Hop) (x : Seen) → Matched n more base (member a i o h x) (member a i o h x)
member_m a i o h (At p) = bind_matched (seen_matched _) (λ v. gives_matched _)
member_m a i o h (Is d) = chosen_m (is_array h.member.type.shape) (array_object_m a i _) (bind_matched (known_matched _) (λ e. gives_matched _))

pub along_m : {n more : ℕ} {base : List ℕ} (a : Activation) (i : ℕ) (o : Option (ℕ × ℕ)) (hs : List Hop) (x : Seen) → Matched n more base (along a i o hs x) (along a i o hs x)
along_m a i o [] x = gives_matched x
along_m a i o (h ∷ hs) x = bind_matched (member_m a i o h x) (λ y. along_m a i (part_of a.types o h.aggregate h.index) hs y)

pub assigned_m : {n more : ℕ} {base : List ℕ} (a : Activation) (s : Shape) (at : Value) (d : Datum) → Matched n more base (assigned a s at d) (assigned a s at d)
assigned_m a s at d = bind_matched {A = Unit {0}} (changes_matched (stored a.types s at d)) (λ u. bind_matched {A = Datum} (seen_matched (λ m. value_at a.types m s at)) (λ e. gives_matched (Is e)))

pub compound_m : {n more : ℕ} {base : List ℕ} (a : Activation) (op : BinOp) (by r s : Shape) (at : Value) {go to : Action Datum} → Matched n more base go to → Matched n more base (compound a op by r s at go) (compound a op by r s at to)
compound_m a op by r s at m = bind_matched {A = Datum} (seen_matched (λ x. value_at a.types x s at)) (λ old. bind_matched {A = Datum} (known_matched (as_type a.types s by old)) (λ d. bind_matched {A = Datum} m (λ e. bind_matched {A = Datum} (computed_m a op by r d e) (λ x. bind_matched {A = Datum} (known_matched (as_type a.types by s x)) (λ y. assigned_m a s at y)))))

pub stepped_m : {n more : ℕ} {base : List ℕ} (a : Activation) (form : StepForm) (by s : Shape) (at : Value) → Matched n more base (stepped a form by s at) (stepped a form by s at)
stepped_m a form by s at = bind_matched {A = Datum} (seen_matched (λ x. value_at a.types x s at)) (λ old. bind_matched {A = Datum} (known_matched (as_type a.types s by old)) (λ d. bind_matched {A = Datum} (computed_m a (operator_of form) by int_shape d (Single (Int (pos 1)))) (λ x. bind_matched {A = Datum} (known_matched (as_type a.types by s x)) (λ y. bind_matched {A = Seen} (assigned_m a s at y) (λ z. gives_matched (result_of form old z))))))

pub called_m : {n more : ℕ} {base : List ℕ} (a : Activation) {enter also : Enter} → Ready n more base enter also → (s : Shape) (f : Value) (xs : List Argument) → Matched n more base (called a enter s f xs) (called a also s f xs)
called_m a r s f xs = bind_matched (enter_matched r _) (λ d. gives_matched _)

pub unit_object_m : {n more : ℕ} {base : List ℕ} (a : Activation) (i : ℕ) → Matched n more base (unit_object a i) (unit_object a i)
unit_object_m a i = bind_matched (known_matched _) (λ e. gives_matched _)

pub part_changes_m : {n more : ℕ} {base : List ℕ} (a : Activation) (o : Object) (p : Path) (f : Shape → Value → Memory → Option Memory) → Matched n more base (part_changes a o p f) (part_changes a o p f)
part_changes_m a o p f = bind_matched {A = Shape × ℕ} (known_matched (part_from a.types p o.type.shape 0)) (λ x. changes_matched (f x.0 (object_pointer o.name x.1)))

pub initialised_m : {n more : ℕ} {base : List ℕ} (o : Object) {go to : Action (Unit {0})} → Matched n more base go to → Matched n more base (initialised o go) (initialised o to)
initialised_m o m = bind_matched {A = Unit {0}} (changes_matched (λ x. Some (protect x o.name false))) (λ u. bind_matched {A = Unit {0}} m (λ v. changes_matched (λ x. Some (protect x o.name (is_const o.type)))))

pub zeroes_m : {n more : ℕ} {base : List ℕ} (a : Activation) (o : Object) (is : Inits) → Matched n more base (zeroes a o is) (zeroes a o is)
zeroes_m a o NoInits = gives_matched _
zeroes_m a o (MoreInits (Zero p) is) = bind_matched {A = Unit {0}} (part_changes_m a o p (zeroed a.types)) (λ u. zeroes_m a o is)
zeroes_m a o (MoreInits (Scalar p e) is) = gives_matched _
zeroes_m a o (MoreInits (Constant' p c) is) = gives_matched _
zeroes_m a o (MoreInits (Aggregate p e) is) = gives_matched _
zeroes_m a o (MoreInits (Bytes p bytes) is) = gives_matched _

pub steps_of_m : {n more : ℕ} {base : List ℕ} (a : Activation) (o : Object) (is : Inits) (h : Here) {go to : Object → Rest → Action Rest} → ((o : Object) (r : Rest) → Matched n more base (go o r) (to o r)) → Matched n more base (steps_of a o is h go) (steps_of a o is h to)
steps_of_m a o is h m = bind_matched (m o _) (λ r. bind_matched (zeroes_m a o r.steps) (λ u. gives_matched tt))

pub stores_value_m : {n more : ℕ} {base : List ℕ} (a : Activation) (o : Object) (p : Path) (is : Inits) {go to : Action (Datum × Here)} → Matched n more base go to → Matched n more base (stores_value a o p is go) (stores_value a o p is to)
stores_value_m a o p is m = bind_matched m (λ x. bind_matched {A = Unit {0}} (part_changes_m a o p (λ s at. stored a.types s at x.0)) (λ u. gives_matched (record { steps = is; here = x.1 })))

pub next_step_m : {n more : ℕ} {base : List ℕ} (a : Activation) (o : Object) (h : Here) {go to : Shape → Action (Datum × Here)} → ((s : Shape) → Matched n more base (go s) (to s)) → (is : Inits) → Matched n more base (next_step a o h go is) (next_step a o h to is)
next_step_m a o h m NoInits = undefined_matched
next_step_m a o h m (MoreInits (Zero p) is) = undefined_matched
next_step_m a o h m (MoreInits (Scalar p e) is) = stores_value_m a o p is (m _)
next_step_m a o h m (MoreInits (Constant' p c) is) = undefined_matched
next_step_m a o h m (MoreInits (Aggregate p e) is) = stores_value_m a o p is (m _)
next_step_m a o h m (MoreInits (Bytes p bytes) is) = bind_matched {A = Unit {0}} (part_changes_m a o p (λ s. filled a.types bytes)) (λ u. gives_matched (record { steps = is; here = h }))

pub denoted_m : {n more : ℕ} {base : List ℕ} (a : Activation) (d : Denotes) → Matched n more base (denoted a d) (denoted a d)
denoted_m a (TypedefName c) = undefined_matched
denoted_m a (EnumerationConstant v) = gives_matched _
denoted_m a (Automatic i c r) = gives_matched _
denoted_m a (Static i c) = unit_object_m a i

pub of_number_m : {n more : ℕ} {base : List ℕ} (o : Option ℤ) → Matched n more base (of_number o) (of_number o)
of_number_m o = bind_matched (known_matched o) (λ v. gives_matched _)

pub measured_m : {n more : ℕ} {base : List ℕ} (o : Option ℕ) → Matched n more base (measured o) (measured o)
measured_m None = gives_matched _
measured_m (Some size) = gives_matched _

pub of_name_m : {n more : ℕ} {base : List ℕ} (a : Activation) (o : Option Denotes) → Matched n more base (of_name a o) (of_name a o)
of_name_m a o = bind_matched (known_matched o) (λ d. denoted_m a d)

pub of_index_m : {n more : ℕ} {base : List ℕ} (a : Activation) (t : Types) (x y : Operand) {go to next also : Action Seen} → Matched n more base go to → Matched n more base next also → Matched n more base (of_index a t x y go next) (of_index a t x y to also)
of_index_m a t x y m k = bind_matched (known_matched _) (λ z. bind_matched (taken_m a x _ m) (λ d. bind_matched (taken_m a y _ k) (λ e. subscripted_m a z d e)))

pub of_call_m : {n more : ℕ} {base : List ℕ} (a : Activation) {enter also : Enter} (x : Operand) {go to : Action Seen} {xs ys : Shapes → Action (List Argument)} → Ready n more base enter also → Matched n more base go to → ((ps : Shapes) → Matched n more base (xs ps) (ys ps)) → Matched n more base (of_call a enter x go xs) (of_call a also x to ys)
of_call_m a x r m k = bind_matched (known_matched _) (λ c. bind_matched (pointed_m a x m) (λ f. bind_matched (k _) (λ zs. called_m a r _ f zs)))

pub of_arguments_m : {n more : ℕ} {base : List ℕ} (a : Activation) (s : Shape) (x : Operand) {go to : Action Seen} {xs ys : Action (List Argument)} → Matched n more base go to → Matched n more base xs ys → Matched n more base (of_arguments a s x go xs) (of_arguments a s x to ys)
of_arguments_m a s x m k = bind_matched (taken_m a x s m) (λ d. bind_matched k (λ zs. gives_matched _))

pub of_member_m : {n more : ℕ} {base : List ℕ} (a : Activation) (i : ℕ) (path : Option (List Hop)) (x : Operand) {go to : Action Seen} → Matched n more base go to → Matched n more base (of_member a i path x go) (of_member a i path x to)
of_member_m a i path x m = bind_matched (known_matched path) (λ hops. bind_matched m (λ y. along_m a _ _ hops y))

pub of_arrow_m : {n more : ℕ} {base : List ℕ} (a : Activation) (i : ℕ) (path : Option (List Hop)) (x : Operand) {go to : Action Seen} → Matched n more base go to → Matched n more base (of_arrow a i path x go) (of_arrow a i path x to)
of_arrow_m a i path x m = bind_matched (known_matched path) (λ hops. bind_matched (pointed_m a x m) (λ v. bind_matched (indirect_m v) (λ y. along_m a _ _ hops y)))

pub of_cast_m : {n more : ℕ} {base : List ℕ} (a : Activation) (s : Shape) (x : Operand) {go to : Action Seen} → Matched n more base go to → Matched n more base (of_cast a s x go) (of_cast a s x to)
of_cast_m a s x m = bind_matched (used_m a x m) (λ d. known_matched _)

pub of_binary_m : {n more : ℕ} {base : List ℕ} (a : Activation) (t : Types) (op : BinOp) (x y : Operand) {go to next also : Action Seen} → Matched n more base go to → Matched n more base next also → Matched n more base (of_binary a t op x y go next) (of_binary a t op x y to also)
of_binary_m a t op x y m k = bind_matched (known_matched _) (λ z. bind_matched (taken_m a x _ m) (λ d. bind_matched (taken_m a y _ k) (λ e. bind_matched {A = Datum} (computed_m a op z.left z.right d e) (λ v. gives_matched (Is v)))))

pub of_conditional_m : {n more : ℕ} {base : List ℕ} (a : Activation) (t : Types) (x y z : Operand) {test test_also go to next also : Action Seen} → Matched n more base test test_also → Matched n more base go to → Matched n more base next also → Matched n more base (of_conditional a t x y z test go next) (of_conditional a t x y z test_also to also)
of_conditional_m a t x y z c m k = bind_matched (known_matched _) (λ s. bind_matched (tested_m a x c) (λ holds. bind_matched (chosen_m holds (taken_m a y s m) (taken_m a z s k)) (λ d. gives_matched _)))

pub of_comma_m : {n more : ℕ} {base : List ℕ} (a : Activation) (x y : Operand) {go to next also : Action Seen} → Matched n more base go to → Matched n more base next also → Matched n more base (of_comma a x y go next) (of_comma a x y to also)
of_comma_m a x y m k = bind_matched (used_m a x m) (λ u. bind_matched (used_m a y k) (λ d. gives_matched _))

pub of_unary_m : {n more : ℕ} {base : List ℕ} (a : Activation) (t : Types) (op : UnaryOp) (x : Operand) {go to : Action Seen} → Matched n more base go to → Matched n more base (of_unary a t op x go) (of_unary a t op x to)
of_unary_m a t Address x m = bind_matched m (λ y. bind_matched (placed_m y) (λ v. gives_matched _))
of_unary_m a t Indirection x m = bind_matched (pointed_m a x m) (λ v. indirect_m v)
of_unary_m a t Plus x m = bind_matched (taken_m a x _ m) (λ d. gives_matched _)
of_unary_m a t Minus x m = bind_matched (taken_m a x (promoted_shape t (shape_of x)) m) (λ d. operated_m a Neg (promoted_shape t (shape_of x)) d)
of_unary_m a t Complement x m = bind_matched (taken_m a x (promoted_shape t (shape_of x)) m) (λ d. operated_m a Compl (promoted_shape t (shape_of x)) d)
of_unary_m a t Negation x m = bind_matched (used_m a x m) (λ d. operated_m a Not (shape_of x) d)

pub of_assign_m : {n more : ℕ} {base : List ℕ} (a : Activation) (t : Types) (op : Option BinOp) (x y : Operand) {go to next also : Action Seen} → Matched n more base go to → Matched n more base next also → Matched n more base (of_assign a t op x y go next) (of_assign a t op x y to also)
of_assign_m a t None x y m k = bind_matched m (λ l. bind_matched (placed_m l) (λ at. bind_matched (taken_m a y _ k) (λ d. assigned_m a _ at d)))
of_assign_m a t (Some op) x y m k = bind_matched (known_matched _) (λ z. bind_matched m (λ l. bind_matched (placed_m l) (λ at. compound_m a op z.left z.right _ at (taken_m a y _ k))))

pub of_step_m : {n more : ℕ} {base : List ℕ} (a : Activation) (t : Types) (form : StepForm) (x : Operand) {go to : Action Seen} → Matched n more base go to → Matched n more base (of_step a t form x go) (of_step a t form x to)
of_step_m a t form x m = bind_matched (known_matched _) (λ by. bind_matched m (λ y. bind_matched (placed_m y) (λ at. stepped_m a form by _ at)))

pub of_literal_m : {n more : ℕ} {base : List ℕ} (a : Activation) (e : Typed) (h : Here) {go to : Object → Rest → Action Rest} → ((o : Object) (r : Rest) → Matched n more base (go o r) (to o r)) → Matched n more base (of_literal a e h go) (of_literal a e h to)
of_literal_m a (Has q s effect (Literal n is)) h m =
    bind_matched {A = Unit {0}} (initialised_m (literal_object a n (record { quals = q; shape = s })) (steps_of_m a (literal_object a n (record { quals = q; shape = s })) is h m)) (λ u. gives_matched _)
of_literal_m a (Has q s effect (Entity n)) h m = unit_object_m a n
of_literal_m a (Has q s effect (Integer n)) h m = undefined_matched
of_literal_m a (Has q s effect (Local n)) h m = undefined_matched
of_literal_m a (Has q s effect (Load e)) h m = undefined_matched
of_literal_m a (Has q s effect (Decay e)) h m = undefined_matched
of_literal_m a (Has q s effect (Addressed e)) h m = undefined_matched
of_literal_m a (Has q s effect (Indirect e)) h m = undefined_matched
of_literal_m a (Has q s effect (Subscript l r)) h m = undefined_matched
of_literal_m a (Has q s effect (Member e g i)) h m = undefined_matched
of_literal_m a (Has q s effect (Convert e)) h m = undefined_matched
of_literal_m a (Has q s effect (Unary op e)) h m = undefined_matched
of_literal_m a (Has q s effect (Binary op l r)) h m = undefined_matched
of_literal_m a (Has q s effect (Logical op l r)) h m = undefined_matched
of_literal_m a (Has q s effect (Conditional x y z)) h m = undefined_matched
of_literal_m a (Has q s effect (Comma l r)) h m = undefined_matched
of_literal_m a (Has q s effect (Assign l r)) h m = undefined_matched
of_literal_m a (Has q s effect (Compute op at l r)) h m = undefined_matched
of_literal_m a (Has q s effect (Step form at e)) h m = undefined_matched
of_literal_m a (Has q s effect (Call f es)) h m = undefined_matched

pub of_value_m : {n more : ℕ} {base : List ℕ} (a : Activation) (s : Shape) (x : Operand) (k : Here) {go to : Action Seen} → Matched n more base go to → Matched n more base (of_value a s x k go) (of_value a s x k to)
of_value_m a s x k m = bind_matched (taken_m a x s m) (λ d. gives_matched _)

pub of_lone_m : {n more : ℕ} {base : List ℕ} (a : Activation) (o : Object) (r : Rest) {go to : Shape → Action (Datum × Here)} → ((s : Shape) → Matched n more base (go s) (to s)) → Matched n more base (of_lone a o r go) (of_lone a o r to)
of_lone_m a o r m = bind_matched (zeroes_m a o r.steps) (λ is. next_step_m a o r.here m is)

pub then_rest_m : {n more : ℕ} {base : List ℕ} {go to : Action Rest} {next also : Rest → Action Rest} → Matched n more base go to → ((r : Rest) → Matched n more base (next r) (also r)) → Matched n more base (then_rest go next) (then_rest to also)
then_rest_m m k = bind_matched m k
