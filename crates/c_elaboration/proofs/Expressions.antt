-- Device: what an expression does is what its typed form does (6.5).
use Rattle.std.proofs.Common.{◌≡◌, ℕ, ◌+◌, Bool, true, false, not, List, [], ◌∷◌, ◌++◌, length, Option, Some, None, option_map, is_some, refl, sym, ap, ◌∙◌, ap₂, subst, append_assoc, append-nil, add-zero, add_assoc}
use Rattle.std.specs.Prelude.{ℤ, pos, if◌then◌else◌}
use Rattle.std.specs.Option.{option_and_then}
use Rattle.cil_base.specs.declared.kinds.IntKind.{IntKind}
use Rattle.cil_base.specs.declared.kinds.IntKind.TheVariants.{Int as int}
use Rattle.cil_base.specs.declared.faults.Code.{Code}
use Rattle.cil_base.specs.declared.faults.Code.TheVariants as code
use Rattle.cil_base.specs.declared.faults.Feature.TheVariants as feature
use Rattle.cil_base.specs.declared.numbers.NameId.{NameId}
use Rattle.cil_base.specs.declared.operators.BinOp.{BinOp}
use Rattle.cil_base.specs.declared.operators.UnOp.TheVariants.{Neg, Compl}
use Rattle.type_graph.specs.Shapes.{Shape, Shapes, VoidType, IntType, PtrType, ArrayType, FuncType, AggType, NoTypes, MoreTypes}
use Rattle.execution.specs.States.{State, Result}
use Rattle.execution.specs.Data.{Datum, Argument}
use Rattle.execution.specs.Calls.{Enter}
use Rattle.typed_tree.specs.declared.expressions.StepForm.{StepForm}
use Rattle.typed_tree.specs.Tree.{Typed, NoArguments, MoreArguments, Literal as LiteralObject, Entity as StaticObject, Init, Zero, Scalar, Aggregate, Bytes, Inits, NoInits, shape_in}
use Rattle.c_tree.specs.declared.words.UnaryOp.{UnaryOp}
use Rattle.c_tree.specs.declared.words.UnaryOp.TheVariants.{Address, Indirection, Plus, Minus, Complement, Not as Negation}
use Rattle.c_tree.specs.Syntax.{ExprTree, Name, Integer, Character, Literals, Parentheses, Index, Call, Member, Arrow, Postfix, CompoundLiteral, Prefix, Unary, SizeofExpr, SizeofType, AlignofType, Cast, Binary, Logical, Conditional, Assign, Comma, ExprTrees, NoExprs, MoreExprs, InitTree, Single as Lone, Braces, Item, ItemTrees, NoItems, MoreItems, DesignatorTrees, NoDesignators}
use Rattle.c_tree.specs.Places.{first_expr, first_type_name, first_item}
use Rattle.c_rules.specs.Types.{CType, Types, Hop, is_void, pointee, kind_in, member_path, size_in, alignment_in}
use Rattle.c_rules.specs.Conversions.{Operand, operand, shape_of, kind_of, value_shape, promoted_shape, value_of as value_node, value_as}
use Rattle.c_rules.specs.Constants.{integer_constant, character_constant, string_literal}
use Rattle.c_rules.specs.Constraints.{takes_so_many, first_violated}
use Rattle.c_rules.specs.Operators.{binary_sides, subscript_sides, compound_sides, step_shape, branch_shape}
use Rattle.c_typing.specs.Scopes.{Env, Denotes, TypedefName, EnumerationConstant, Automatic, Static, Walk, Found, Good, ◌>>=◌, following, pure, unevaluated, visible_name, refuses_if, excludes_if, with_entity}
use Rattle.c_rules.specs.Nodes.{Node, NameNode, ConstantNode, IndexNode, CallNode, StepNode, BinaryNode, LogicalNode, ConditionalNode, CommaNode, CastNode, SizeofNode, AlignofNode, Callee, callee_of, given, place, along as along_node, indirect as indirect_node, passed, constant_operand, integer_operand, size_shape, typed_node}
use Rattle.c_rules.specs.Nodes as node
use Rattle.c_typing.specs.Declarators.{at_first}
use Rattle.c_typing.specs.Initialisers.{Part, Frame, Filling, AValue, ALiteral, is_character_array, inits, beginning, whole_part}
use Rattle.c_typing.specs.Statements.{Place}
use Rattle.c_typing.specs.Steps.{at_node, by_node, by_operand, by_sized, at_call, uses_name, designates, made_entity, nameless, literal_type, literal_of, logic_of, postfix_form, prefix_form, unary_node, assign_node, member_node, arrow_node, ats_of, with_value, with_literal, in_flexible}
use Rattle.c_typing.specs.Walk.{is_static_here, may_be_initialised, literal_in, alone, brace_at, part_for, fitted, literal_for, object_by, item_by, with_brace, braced, braces_for, number_of_literal, literal_object, filled, compound_literal, expr, exprs, initialise, items_in, item, designation, named_type}
use Rattle.c_semantics.specs.Places.{Activation, Here, here_behind, found, none, undefined, with_parts, with_operand, with_operands, literal_number, array_number, arrays_in, arrays_in_operands, arrays_in_init, arrays_in_inits}
use Rattle.c_semantics.specs.Walks.{designators as walked_designators}
use Rattle.c_semantics.specs.Operations.{Action, ◌>>=◌ as ◌>>>◌, gives, Seen, single, taken, pointed, indirect, called, unit_object, local_object, logical, tested, along, fill_part, Object, literal_object as object_literal, initialised, Rest, zeroes, steps_of, next_step}
use Rattle.c_semantics.specs.Expressions as syntax
use Rattle.c_semantics.specs.Expressions.{of_number, measured, of_name, dot_path, arrow_path, passed_shape, parameters_behind, c_exp, c_arguments, c_init, c_init_items}
use Rattle.typed_semantics.specs.Expressions as typed
use Rattle.typed_semantics.specs.Expressions.{t_exp, t_arguments, t_inits}
use Rattle.c_elaboration.proofs.Actions.{then_then, then_gives}
use Rattle.c_elaboration.proofs.Unviolated.{stepped, node_given, some_of, second_holds, has_a_type, is_declared, takes_operands, has_member, is_call}
use Rattle.c_elaboration.proofs.Forms.{OfRecords}
use Rattle.c_elaboration.proofs.Members.{found_path, along_is}
use Rattle.c_elaboration.proofs.Operands.{used_is, taken_is, arrays_of_value, arrays_as}
use Rattle.c_elaboration.proofs.Operators.{ruled, index_is, binary_is, tested_is, behind_tested, conditional_is, comma_is, assign_is, compute_is, operated_is, negated_is, plus_is, indirect_is, cast_is, member_is, argument_is}
use Rattle.c_elaboration.proofs.Recorded.{recorded}
use Rattle.c_elaboration.proofs.Initialisers.{AreZero, zero_append, append_arrays, retaken, taken_itself, doing, one_does, append_does, zeroes_are, Does, next_is, stored_is}
use Rattle.c_elaboration.proofs.Fillings.{good, faults_here, part_here, fitted_here, designation_here, IsStep, OfScalar, OfWhole, Adds, value_adds, AddsBytes, literal_adds, brace_adds}

-- where the walk finds something, it is what follows

pub operand_found : {B : Type 0} (walk : Walk Operand) (h : Here) (next : Operand → Here → State → Result B) (y : Operand × Env) → walk h.env ≡ Good y → with_operand walk h next ≡ next y.0 (here_behind (λ (x : Operand). arrays_in x.typed) h y)
operand_found {B} walk h next y e = ap (λ (r : Found (Operand × Env)). found (λ (x : Operand). arrays_in x.typed) (undefined {B = B}) h next r) e

operands_found : {B : Type 0} (walk : Walk (List Operand)) (h : Here) (next : List Operand → Here → State → Result B) (y : List Operand × Env) → walk h.env ≡ Good y → with_operands walk h next ≡ next y.0 (here_behind arrays_in_operands h y)
operands_found {B} walk h next y e = ap (λ (r : Found (List Operand × Env)). found arrays_in_operands (undefined {B = B}) h next r) e

parts_found : {A B : Type 0} (walk : Walk A) (h : Here) (next : A → Here → State → Result B) (y : A × Env) → walk h.env ≡ Good y → with_parts walk h next ≡ next y.0 (here_behind none h y)
parts_found {A} {B} walk h next y e = ap (λ (r : Found (A × Env)). found none (undefined {B = B}) h next r) e

passed_more : (t : Types) (ps : Shapes) (x : Operand) (xs : List Operand) → passed t ps (x ∷ xs) ≡ MoreArguments (value_as (passed_shape t ps x) x) (passed t (parameters_behind ps) xs)
passed_more t NoTypes x xs = refl
passed_more t (MoreTypes p ps) x xs = refl

passed_none : (t : Types) (ps : Shapes) → passed t ps [] ≡ NoArguments
passed_none t NoTypes = refl
passed_none t (MoreTypes p ps) = refl

number_is_not_void : (t : Types) (x : Operand) → not (is_some (kind_of t x)) ≡ false → is_void (shape_in x.typed) ≡ false
number_is_not_void t x e = by (shape_in x.typed) e
  where
    by : (s : Shape) → not (is_some (kind_in t (value_shape s))) ≡ false → is_void s ≡ false
    by VoidType i = cc
    by (IntType k) i = refl
    by (PtrType q s) i = refl
    by (ArrayType q s n) i = refl
    by (FuncType r ss p v) i = refl
    by (AggType n) i = refl

module _ (a : Activation) (enter : Enter) where
  -- an expression does what the walk makes of it
  abbrev pub Means : ExprTree → Type 0
  Means e = (h : Here) (y : Operand × Env) → expr e h.env ≡ Good y → c_exp a enter e h ≡ t_exp a enter y.0.typed h.arrays

  given_is : {A : Type 0} (f : A → Operand) (o : Option A) (z : A) (k : ℕ) → o ≡ Some z → t_exp a enter (f z).typed k ≡ t_exp a enter (given f o).typed k
  given_is {A} f o z k e = ap (λ (p : Option A). t_exp a enter (given f p).typed k) (sym e)

  walked : (n : Node) (env : Env) (y : Operand × Env) (k : ℕ) → y ≡ (typed_node env.types n, env) → t_exp a enter (typed_node env.types n).typed k ≡ t_exp a enter y.0.typed k
  walked n env y k e = ap (λ (w : Operand × Env). t_exp a enter w.0.typed k) (sym e)

  -- operators with one operand, and with two
  one : (e : ExprTree) → Means e → (at : Code → ℕ) (n : Types → Operand → Node) (does : Types → ℕ → Operand → Action Seen → Action Seen)
      → ((t : Types) (x : Operand) (k : ℕ) → OfRecords x.typed → first_violated t (n t x) ≡ None → does t (k + arrays_in x.typed) x (t_exp a enter x.typed k) ≡ t_exp a enter (typed_node t (n t x)).typed k)
      → (h : Here) (y : Operand × Env) → following (λ x v. at_node at (n v.types x) v) (expr e h.env) ≡ Good y
      → with_operand (expr e) h (λ x k. does k.env.types k.arrays x (c_exp a enter e h)) ≡ t_exp a enter y.0.typed h.arrays
  one e means at n does law h y g =
      let i = stepped {A = Operand} (expr e h.env) (λ x v. at_node at (n v.types x) v) y g in
      let w = node_given at (n i.0.1.types i.0.0) i.0.1 y i.2 in
      operand_found (expr e) h (λ x k. does k.env.types k.arrays x (c_exp a enter e h)) i.0 i.1
      ∙ (ap (does i.0.1.types (h.arrays + arrays_in i.0.0.typed) i.0.0) (means h i.0 i.1)
      ∙ (law i.0.1.types i.0.0 h.arrays (recorded e h.env i.0 i.1) w.0
      ∙ walked (n i.0.1.types i.0.0) i.0.1 y h.arrays w.1))

  two : (l r : ExprTree) → Means l → Means r → (at : Code → ℕ) (n : Operand → Operand → Node) (does : Types → Operand → Operand → Action Seen → Action Seen → Action Seen)
      → ((t : Types) (x z : Operand) (k : ℕ) → first_violated t (n x z) ≡ None → does t x z (t_exp a enter x.typed k) (t_exp a enter z.typed (k + arrays_in x.typed)) ≡ t_exp a enter (typed_node t (n x z)).typed k)
      → (h : Here) (y : Operand × Env) → following (λ x. expr r >>= (λ z. at_node at (n x z))) (expr l h.env) ≡ Good y
      → with_operand (expr l) h (λ x k. with_operand (expr r) k (λ z j. does j.env.types x z (c_exp a enter l h) (c_exp a enter r k))) ≡ t_exp a enter y.0.typed h.arrays
  two l r first second at n does law h y g =
      let i = stepped {A = Operand} (expr l h.env) (λ x. expr r >>= (λ z. at_node at (n x z))) y g in
      let j = stepped {A = Operand} (expr r i.0.1) (λ z. at_node at (n i.0.0 z)) y i.2 in
      let w = node_given at (n i.0.0 j.0.0) j.0.1 y j.2 in
      let k : Here = here_behind (λ (x : Operand). arrays_in x.typed) h i.0 in
      operand_found (expr l) h (λ x k. with_operand (expr r) k (λ z j. does j.env.types x z (c_exp a enter l h) (c_exp a enter r k))) i.0 i.1
      ∙ (operand_found (expr r) k (λ z j. does j.env.types i.0.0 z (c_exp a enter l h) (c_exp a enter r k)) j.0 j.1
      ∙ (ap₂ (does j.0.1.types i.0.0 j.0.0) (first h i.0 i.1) (second k j.0 j.1)
      ∙ (law j.0.1.types i.0.0 j.0.0 h.arrays w.0
      ∙ walked (n i.0.0 j.0.0) j.0.1 y h.arrays w.1)))

  -- identifiers and constants
  named : (t : Types) (o : Option Denotes) (k : ℕ) → not (is_some (option_and_then (designates t) o)) ≡ false → of_name a o ≡ t_exp a enter (given (λ (x : Operand). x) (option_and_then (designates t) o)).typed k
  named t None k e = cc
  named t (Some (TypedefName c)) k e = cc
  named t (Some (EnumerationConstant n)) k e = refl
  named t (Some (Automatic n c r)) k e = refl
  named t (Some (Static n c)) k e = refl

  constant : (t : Types) (o : Option (IntKind × ℤ)) (k : ℕ) → not (is_some (option_map (λ (x : IntKind × ℤ). constant_operand t x.0 x.1) o)) ≡ false
      → of_number (option_map (λ (x : IntKind × ℤ). x.1) o) ≡ t_exp a enter (given (λ (x : Operand). x) (option_map (λ (x : IntKind × ℤ). constant_operand t x.0 x.1) o)).typed k
  constant t None k e = cc
  constant t (Some x) k e = refl

  constant_is : (at : ℕ) (o : Option (IntKind × ℤ)) (env : Env) (y : Operand × Env) (k : ℕ) → at_node (by_node at) (ConstantNode (option_map (λ (x : IntKind × ℤ). constant_operand env.types x.0 x.1) o)) env ≡ Good y
      → of_number (option_map (λ (x : IntKind × ℤ). x.1) o) ≡ t_exp a enter y.0.typed k
  constant_is at o env y k e =
      let n : Node = ConstantNode (option_map (λ (x : IntKind × ℤ). constant_operand env.types x.0 x.1) o) in
      let w = node_given (by_node at) n env y e in
      constant env.types o k (has_a_type env.types n w.0) ∙ walked n env y k w.1

  value_with : (o : Option ℤ) → of_number o ≡ of_number (option_map (λ (x : IntKind × ℤ). x.1) (option_map (λ v. (int, v)) o))
  value_with None = refl
  value_with (Some v) = refl

  abbrev pub literal_node : List ℕ → ℕ → Node
  literal_node bytes n = ConstantNode (Some (operand (place (literal_type bytes) false (StaticObject n))))

  literal_ends : (at : ℕ) (bytes : List ℕ) (env : Env) (y : Operand × Env) (k : ℕ) (b : Bool) → following (λ n. at_node (by_node at) (literal_node bytes n)) (made_entity b (nameless at (literal_type bytes) (inits (Zero [] ∷ Bytes [] bytes ∷ []))) env) ≡ Good y
      → unit_object a (length env.entities) ≡ t_exp a enter y.0.typed k
  literal_ends at bytes env y k true e = walked (literal_node bytes (length env.entities)) (with_entity (nameless at (literal_type bytes) (inits (Zero [] ∷ Bytes [] bytes ∷ []))) env) y k (node_given (by_node at) (literal_node bytes (length env.entities)) (with_entity (nameless at (literal_type bytes) (inits (Zero [] ∷ Bytes [] bytes ∷ []))) env) y e).1
  literal_ends at bytes env y k false e = walked (literal_node bytes (length env.entities)) env y k (node_given (by_node at) (literal_node bytes (length env.entities)) env y e).1

  literal_is : (at : ℕ) (o : Option (List ℕ)) (env : Env) (y : Operand × Env) (k : ℕ) → literal_of at o env ≡ Good y → unit_object a (length env.entities) ≡ t_exp a enter y.0.typed k
  literal_is at None env y k e =
      let w = node_given (by_node at) (ConstantNode None) env y e in
      absurd_none env.types w.0
    where
      absurd_none : (t : Types) → first_violated t (ConstantNode None) ≡ None → unit_object a (length env.entities) ≡ t_exp a enter y.0.typed k
      absurd_none t f = cc
  literal_is at (Some bytes) env y k e = literal_ends at bytes env y k env.evaluated e

  -- operators by their nodes
  binary : (t : Types) (op : BinOp) (x z : Operand) (k : ℕ) → first_violated t (BinaryNode op x z) ≡ None
      → syntax.of_binary a t op x z (t_exp a enter x.typed k) (t_exp a enter z.typed (k + arrays_in x.typed)) ≡ t_exp a enter (typed_node t (BinaryNode op x z)).typed k
  binary t op x z k f =
      let s = some_of (binary_sides t op x z) (takes_operands t (BinaryNode op x z) f) in
      binary_is a enter t op x z s.0 s.1 k ∙ given_is (node.of_binary t op x z) (binary_sides t op x z) s.0 k s.1

  index : (t : Types) (x z : Operand) (k : ℕ) → first_violated t (IndexNode x z) ≡ None
      → syntax.of_index a t x z (t_exp a enter x.typed k) (t_exp a enter z.typed (k + arrays_in x.typed)) ≡ t_exp a enter (typed_node t (IndexNode x z)).typed k
  index t x z k f =
      let s = some_of (subscript_sides t x z) (takes_operands t (IndexNode x z) f) in
      index_is a enter t x z s.0 s.1 (node.element_type t s.0).shape k ∙ given_is (node.of_index t x z) (subscript_sides t x z) s.0 k s.1

  assign : (t : Types) (op : Option BinOp) (x z : Operand) (k : ℕ) → first_violated t (assign_node op x z) ≡ None
      → syntax.of_assign a t op x z (t_exp a enter x.typed k) (t_exp a enter z.typed (k + arrays_in x.typed)) ≡ t_exp a enter (typed_node t (assign_node op x z)).typed k
  assign t None x z k f = assign_is a enter t x z k
  assign t (Some op) x z k f =
      let s = some_of (compound_sides t op x z) (takes_operands t (assign_node (Some op) x z) f) in
      compute_is a enter t op x z s.0 s.1 k ∙ given_is (node.of_compute op x z) (compound_sides t op x z) s.0 k s.1

  step : (form : StepForm) (t : Types) (m : ℕ) (x : Operand) (k : ℕ) → OfRecords x.typed → first_violated t (StepNode form x) ≡ None
      → syntax.of_step a t form x (t_exp a enter x.typed k) ≡ t_exp a enter (typed_node t (StepNode form x)).typed k
  step form t m x k o f =
      let s = some_of (step_shape t x) (takes_operands t (StepNode form x) f) in
      ruled (step_shape t x) s.0 (λ by. typed.of_step a form by x.typed (t_exp a enter x.typed k)) s.1 ∙ given_is (node.of_step form x) (step_shape t x) s.0 k s.1

  unary : (op : UnaryOp) (t : Types) (x : Operand) (k : ℕ) → OfRecords x.typed → first_violated t (unary_node op x) ≡ None
      → syntax.of_unary a t op x (t_exp a enter x.typed k) ≡ t_exp a enter (typed_node t (unary_node op x)).typed k
  unary Address t x k o f = refl
  unary Indirection t x k o f =
      let c = some_of (pointee (shape_of x)) (takes_operands t (unary_node Indirection x) f) in
      indirect_is a enter x k ∙ ap (λ (p : Option CType). t_exp a enter (given operand (option_map (indirect_node (value_node x.typed)) p)).typed k) (sym c.1)
  unary Plus t x k o f = plus_is a enter t x k o (number_is_not_void t x (takes_operands t (unary_node Plus x) f))
  unary Minus t x k o f = operated_is a enter Neg x (promoted_shape t (shape_of x)) k
  unary Complement t x k o f = operated_is a enter Compl x (promoted_shape t (shape_of x)) k
  unary Negation t x k o f = negated_is a enter t x k

  dot : (m : NameId) (t : Types) (x : Operand) (k : ℕ) → OfRecords x.typed → first_violated t (member_node t m x) ≡ None
      → syntax.of_member a (k + arrays_in x.typed) (dot_path t m x) x (t_exp a enter x.typed k) ≡ t_exp a enter (typed_node t (member_node t m x)).typed k
  dot m t x k o f =
      let p = some_of (member_path t m (shape_in x.typed)) (has_member t (member_node t m x) f) in
      member_is a enter x (member_path t m (shape_in x.typed)) p.0 k p.1 o (found_path t m (shape_in x.typed) p.0 p.1) ∙ given_is (node.of_member x) (member_path t m (shape_in x.typed)) p.0 k p.1

  arrow : (m : NameId) (t : Types) (x : Operand) (k : ℕ) → OfRecords x.typed → first_violated t (arrow_node t m x) ≡ None
      → syntax.of_arrow a (k + arrays_in x.typed) (arrow_path t m x) x (t_exp a enter x.typed k) ≡ t_exp a enter (typed_node t (arrow_node t m x)).typed k
  arrow m t x k o f =
      let p = some_of (arrow_path t m x) (has_member t (arrow_node t m x) f) in
      given_pointee (pointee (shape_of x)) p.0 p.1
      ∙ given_is (node.of_arrow x) (arrow_path t m x) p.0 k p.1
    where
      given_pointee : (c : Option CType) (hops : List Hop) → option_and_then (λ (c : CType). member_path t m c.shape) c ≡ Some hops
          → syntax.of_arrow a (k + arrays_in x.typed) (option_and_then (λ (c : CType). member_path t m c.shape) c) x (t_exp a enter x.typed k)
          ≡ t_exp a enter (given (λ (e : Typed). operand (along_node e hops)) (option_map (indirect_node (value_node x.typed)) c)).typed k
      given_pointee None hops e = cc
      given_pointee (Some c) hops e =
          ruled (member_path t m c.shape) hops (λ hs. pointed a x (t_exp a enter x.typed k) >>> (λ v. indirect v >>> along a (array_number a (k + arrays_in x.typed)) None hs)) e
          ∙ (sym (then_then (pointed a x (t_exp a enter x.typed k)) indirect (along a (array_number a (k + arrays_in x.typed)) None hops))
          ∙ (ap (λ (go : Action Seen). go >>> along a (array_number a (k + arrays_in x.typed)) None hops) (indirect_is a enter x k)
          ∙ along_is a enter (k + arrays_in x.typed) (indirect_node (value_node x.typed) c) hops k None tt (λ i. cc) (ap (λ n. k + n) (sym (arrays_of_value x.typed))) (λ i. cc)))

  conditional : (t : Types) (x y w : Operand) (k : ℕ) → first_violated t (ConditionalNode x y w) ≡ None
      → syntax.of_conditional a t x y w (t_exp a enter x.typed k) (t_exp a enter y.typed (k + arrays_in x.typed)) (t_exp a enter w.typed (k + arrays_in x.typed + arrays_in y.typed)) ≡ t_exp a enter (typed_node t (ConditionalNode x y w)).typed k
  conditional t x y w k f =
      let s = some_of (branch_shape t y w) (second_holds _ (is_some (branch_shape t y w)) (takes_operands t (ConditionalNode x y w) f)) in
      conditional_is a enter t x y w s.0 s.1 k ∙ given_is (node.of_conditional t x y w) (branch_shape t y w) s.0 k s.1

  call : (t : Types) (x : Operand) (ys : List Operand) (k : ℕ) (arguments : Shapes → Action (List Argument)) → first_violated t (CallNode x ys) ≡ None
      → ((ps : Shapes) → arguments ps ≡ t_arguments a enter (passed t ps ys) (k + arrays_in x.typed))
      → syntax.of_call a enter x (t_exp a enter x.typed k) arguments ≡ t_exp a enter (typed_node t (CallNode x ys)).typed k
  call t x ys k arguments f each =
      let c = callee_some (callee_of x) (is_call t (CallNode x ys) f) in
      ruled (callee_of x) c.0 (λ (d : Callee). pointed a x (t_exp a enter x.typed k) >>> (λ v. arguments d.parameters >>> (λ xs. called a enter d.result v xs))) c.1
      ∙ (ap (λ (go : Action Datum). (go >>> single) >>> (λ v. arguments c.0.parameters >>> (λ xs. called a enter c.0.result v xs))) (sym (used_is a enter x k))
      ∙ (ap (λ (go : Action (List Argument)). typed.of_call a enter c.0.result (value_node x.typed) (t_exp a enter (value_node x.typed) k) go) (each c.0.parameters ∙ ap (λ n. t_arguments a enter (passed t c.0.parameters ys) (k + n)) (sym (arrays_of_value x.typed)))
      ∙ given_is (node.of_call t x ys) (callee_of x) c.0 k c.1))
    where
      callee_some : (o : Option Callee) → ◌≡◌ {A = Bool} (elim o [ None ↦ true | Some c ↦ not (takes_so_many c (length ys)) ]) false → (c : Callee) × (o ≡ Some c)
      callee_some None e = cc
      callee_some (Some c) e = (c, refl)

  sized : (t : Types) (o : Option ℕ) (k : ℕ) → measured o ≡ t_exp a enter (given (λ n. integer_operand t (size_shape t) (pos n)) o).typed k
  sized t None k = refl
  sized t (Some n) k = refl

  measured_is : (at : Code → ℕ) (n : Node) (env : Env) (y : Operand × Env) (k : ℕ) (o : Option ℕ) → at_node at n env ≡ Good y
      → typed_node env.types n ≡ given (λ n. integer_operand env.types (size_shape env.types) (pos n)) o → measured o ≡ t_exp a enter y.0.typed k
  measured_is at n env y k o e i = sized env.types o k ∙ (ap (λ (x : Operand). t_exp a enter x.typed k) (sym i) ∙ walked n env y k (node_given at n env y e).1)

  -- initialisers (6.7.9): a tree does the steps that the walk adds for it

  pub record Fills (o : Object) (go : Rest → Action Rest) (before behind : List Init) (from env : Env) : Type 0 where
    pub new : List Init
    pub adds : behind ≡ before ++ new
    pub does : (n : ℕ) (q : Place) (zs rest : List Init) → AreZero zs
        → Does a enter o (go (record { steps = inits (zs ++ (new ++ rest)); here = record { env = from; arrays = n; place = q } })) (zs ++ new) rest (record { env = from; arrays = n; place = q }) env

  -- the steps are the same in another grouping
  regrouped : (o : Object) (go : Rest → Action Rest) (xs ys all other rest : List Init) (h : Here) (env : Env) → xs ≡ ys → all ≡ other
      → Does a enter o (go (record { steps = inits xs; here = h })) all rest h env → Does a enter o (go (record { steps = inits ys; here = h })) other rest h env
  regrouped o go xs ys all other rest h env e f d = subst (λ zs. Does a enter o (go (record { steps = inits zs; here = h })) other rest h env) e (subst (λ zs. Does a enter o (go (record { steps = inits xs; here = h })) zs rest h env) f d)

  abbrev pub place_at : Env → ℕ → Place → Here
  place_at env n q = record { env = env; arrays = n; place = q }

  abbrev pub value_at : ExprTree → Env → ℕ → Place → Shape → Action (Datum × Here)
  value_at e env n q to = with_operand (expr e) (place_at env n q) (λ x k. syntax.of_value a to x k (c_exp a enter e (place_at env n q)))

  fills_value : (e : ExprTree) → Means e → (o : Object) (at : ℕ) (p : Part) (f : Filling) (from : Env) (v : Operand × Env) → expr e from ≡ Good v → (y : Filling × Env) → with_value false at p v.0 f v.1 ≡ Good y
      → Fills o (c_init a enter o (Lone e)) f.steps y.0.steps from y.1
  fills_value e means o at p f from v g y i = record {
    new = w.1.zeros ++ w.1.step ∷ [];
    adds = w.1.adds;
    does = λ n q zs rest z. regrouped o (c_init a enter o (Lone e)) ((zs ++ w.1.zeros) ++ (w.1.step ∷ rest)) (zs ++ ((w.1.zeros ++ w.1.step ∷ []) ++ rest)) ((zs ++ w.1.zeros) ++ w.1.step ∷ []) (zs ++ (w.1.zeros ++ w.1.step ∷ [])) rest (place_at from n q) y.1
        (append_assoc zs w.1.zeros (w.1.step ∷ rest) ∙ ap (λ xs. zs ++ xs) (sym (append_assoc w.1.zeros (w.1.step ∷ []) rest))) (append_assoc zs w.1.zeros (w.1.step ∷ []))
        (next_is a enter o (zs ++ w.1.zeros) rest w.1.step (place_at from n q) y.1 (value_at e from n q) (zero_append zs w.1.zeros z w.1.are) (stays w.1.step w.1.is rest) (steps n q rest w.1.step w.1.is));
  }
    where
      w : (y.1 ≡ v.1) × Adds p v.0 f.steps y.0.steps
      w = value_adds at p v.0 f v.1 y i

      stays : (i : Init) → IsStep p v.0 i → (rest : List Init) → zeroes a o (inits (i ∷ rest)) ≡ gives (inits (i ∷ rest))
      stays i OfScalar rest = refl
      stays i OfWhole rest = refl

      given_at : (n : ℕ) (q : Place) (to : Shape) → value_at e from n q to ≡ (taken a v.0 to (t_exp a enter v.0.typed n) >>> (λ d. gives (d, place_at v.1 (n + arrays_in v.0.typed) q)))
      given_at n q to =
          operand_found (expr e) (place_at from n q) (λ x k. syntax.of_value a to x k (c_exp a enter e (place_at from n q))) v g
          ∙ ap (λ (go : Action Seen). taken a v.0 to go >>> (λ d. gives (d, place_at v.1 (n + arrays_in v.0.typed) q))) (means (place_at from n q) v g)

      steps : (n : ℕ) (q : Place) (rest : List Init) (i : Init) → IsStep p v.0 i
          → next_step a o (place_at from n q) (value_at e from n q) (inits (i ∷ rest)) ≡ (one_does a enter o i n >>> (λ u. gives (record { steps = inits rest; here = place_at y.1 (n + arrays_in_init i) q })))
      steps n q rest i OfScalar =
          let x : Typed = value_as p.type.shape v.0 in
          stored_is a enter o p.path x n (place_at v.1 (n + arrays_in v.0.typed) q) rest (value_at e from n q (shape_in x))
          (given_at n q (shape_in x) ∙ ap (λ (go : Action Datum). go >>> (λ d. gives (d, place_at v.1 (n + arrays_in v.0.typed) q))) (retaken a v.0 p.type.shape (t_exp a enter v.0.typed n) ∙ sym (taken_is a enter v.0 p.type.shape n)))
          ∙ (ap (λ m. one_does a enter o (Scalar p.path x) n >>> (λ u. gives (record { steps = inits rest; here = place_at v.1 (n + m) q }))) (sym (arrays_as p.type.shape v.0))
          ∙ ap (λ (env : Env). one_does a enter o (Scalar p.path x) n >>> (λ u. gives (record { steps = inits rest; here = place_at env (n + arrays_in x) q }))) (sym w.0))
      steps n q rest i OfWhole =
          let x : Typed = value_node v.0.typed in
          stored_is a enter o p.path x n (place_at v.1 (n + arrays_in v.0.typed) q) rest (value_at e from n q (shape_in x))
          (given_at n q (shape_in x) ∙ ap (λ (go : Action Datum). go >>> (λ d. gives (d, place_at v.1 (n + arrays_in v.0.typed) q))) (taken_itself a v.0 (t_exp a enter v.0.typed n) ∙ sym (used_is a enter v.0 n)))
          ∙ (ap (λ m. one_does a enter o (Aggregate p.path x) n >>> (λ u. gives (record { steps = inits rest; here = place_at v.1 (n + m) q }))) (sym (arrays_of_value v.0.typed))
          ∙ ap (λ (env : Env). one_does a enter o (Aggregate p.path x) n >>> (λ u. gives (record { steps = inits rest; here = place_at env (n + arrays_in x) q }))) (sym w.0))

  fills_literal : (e : ExprTree) (o : Object) (first at : ℕ) (p : Part) (l : Option (List ℕ)) (f : Filling) (env : Env) (y : Filling × Env) → with_literal first at p l f env ≡ Good y → Fills o (c_init a enter o (Lone e)) f.steps y.0.steps env y.1
  fills_literal e o first at p l f env y i = record {
    new = w.1.zeros ++ Bytes p.path w.1.bytes ∷ [];
    adds = w.1.adds;
    does = λ n q zs rest z. regrouped o (c_init a enter o (Lone e)) ((zs ++ w.1.zeros) ++ (Bytes p.path w.1.bytes ∷ rest)) (zs ++ ((w.1.zeros ++ Bytes p.path w.1.bytes ∷ []) ++ rest)) ((zs ++ w.1.zeros) ++ Bytes p.path w.1.bytes ∷ []) (zs ++ (w.1.zeros ++ Bytes p.path w.1.bytes ∷ [])) rest (place_at env n q) y.1
        (append_assoc zs w.1.zeros (Bytes p.path w.1.bytes ∷ rest) ∙ ap (λ xs. zs ++ xs) (sym (append_assoc w.1.zeros (Bytes p.path w.1.bytes ∷ []) rest))) (append_assoc zs w.1.zeros (Bytes p.path w.1.bytes ∷ []))
        (next_is a enter o (zs ++ w.1.zeros) rest (Bytes p.path w.1.bytes) (place_at env n q) y.1 (λ to. with_operand (expr e) (place_at env n q) (λ x k. syntax.of_value a to x k (c_exp a enter e (place_at env n q)))) (zero_append zs w.1.zeros z w.1.are) refl
        (ap (λ (v : Env). fill_part a o p.path w.1.bytes >>> (λ u. gives (record { steps = inits rest; here = place_at v n q }))) (sym w.0)
        ∙ ap (λ m. fill_part a o p.path w.1.bytes >>> (λ u. gives (record { steps = inits rest; here = place_at y.1 m q }))) (sym (add-zero n))));
  }
    where
      w : (y.1 ≡ env) × AddsBytes p f.steps y.0.steps
      w = literal_adds first at p l f env y i

  abbrev pub literal_walk : ℕ → ItemTrees → CType → Walk Operand
  literal_walk at items c v =
      (refuses_if (not (may_be_initialised v.types c)) code.Incomplete at >>= (λ u. initialise (is_static_here v) (whole_part c) (beginning c) (Braces at items false) >>= (λ f. compound_literal (is_static_here v) at (brace_at items) c f))) v

  alone_is : (is : ItemTrees) (l : ℕ × List (List ℕ)) → alone is ≡ Some l → is ≡ MoreItems (Item NoDesignators (Lone (Literals l.0 l.1))) NoItems
  alone_is (MoreItems (Item NoDesignators (Lone (Literals at texts))) NoItems) l e = ap (λ (x : ℕ × List (List ℕ)). MoreItems (Item NoDesignators (Lone (Literals x.0 x.1))) NoItems) (same (at, texts) l e)
    where
      same : (x y : ℕ × List (List ℕ)) → Some x ≡ Some y → x ≡ y
      same x y e = cc
  alone_is _ l e = cc

  -- the steps that are left are done at the end
  pub steps_are : (o : Object) (go : Rest → Action Rest) (new steps : List Init) (h : Here) (env : Env) → steps ≡ [] ++ new → Does a enter o (go (record { steps = inits (new ++ []); here = h })) new [] h env
      → steps_of a o (inits steps) h (λ p. go) ≡ t_inits a enter o (inits steps) h.arrays
  steps_are o go new steps h env e d =
      ap (λ xs. steps_of a o (inits xs) h (λ p. go)) (e ∙ sym (append-nil new))
      ∙ (ap (λ (x : Action Rest). x >>> (λ r. zeroes a o r.steps >>> (λ is. gives tt))) d.same
      ∙ (then_then (doing a enter o d.done h.arrays) (λ u. gives (record { steps = inits (d.left ++ []); here = record h { env = env; arrays = h.arrays + arrays_in_inits (inits d.done) } })) (λ r. zeroes a o r.steps >>> (λ is. gives tt))
      ∙ (ap (λ (x : Action (Unit {0})). doing a enter o d.done h.arrays >>> (λ u. x)) (ending d.left d.zeros (h.arrays + arrays_in_inits (inits d.done)))
      ∙ (sym (append_does a enter o d.done d.left h.arrays)
      ∙ ap (λ xs. t_inits a enter o (inits xs) h.arrays) (sym (e ∙ d.parts))))))
    where
      ending : (zs : List Init) → AreZero zs → (n : ℕ) → (zeroes a o (inits (zs ++ [])) >>> (λ is. gives tt)) ≡ doing a enter o zs n
      ending zs z n =
          ap (λ (x : Action Inits). x >>> (λ is. gives tt)) (zeroes_are a enter o zs [] n z)
          ∙ (then_then (doing a enter o zs n) (λ u. gives NoInits) (λ is. gives tt) ∙ then_gives (doing a enter o zs n))

  -- no item does nothing
  none_fills : (o : Object) (steps : List Init) (env : Env) → Fills o (c_init_items a enter o NoItems) steps steps env env
  none_fills o steps env = record {
    new = [];
    adds = sym (append-nil steps);
    does = λ n q zs rest z. record { done = []; left = zs; zeros = z; parts = append-nil zs; same = ap (λ m. gives (record { steps = inits (zs ++ rest); here = place_at env m q })) (sym (add-zero n)) };
  }

  -- an item, and those behind it

  abbrev pub left_at : List Init → List Init → Env → Place → ℕ → Rest
  left_at left rest env q n = record { steps = inits (left ++ rest); here = place_at env n q }

  two_does : (ds : DesignatorTrees) (i : InitTree) (is : ItemTrees) (o : Object) (from env next end : Env) → walked_designators ds from ≡ Good (tt, env) → (xs ys : List Init) (n : ℕ) (q : Place) (zs rest : List Init)
      → (d : Does a enter o (c_init a enter o i (left_at zs (xs ++ (ys ++ rest)) env q n)) (zs ++ xs) (ys ++ rest) (place_at env n q) next)
      → Does a enter o (c_init_items a enter o is (left_at d.left (ys ++ rest) next q (n + arrays_in_inits (inits d.done)))) (d.left ++ ys) rest (place_at next (n + arrays_in_inits (inits d.done)) q) end
      → Does a enter o (c_init_items a enter o (MoreItems (Item ds i) is) (left_at zs ((xs ++ ys) ++ rest) from q n)) (zs ++ (xs ++ ys)) rest (place_at from n q) end
  two_does ds i is o from env next end e xs ys n q zs rest d c = record {
    done = d.done ++ c.done;
    left = c.left;
    zeros = c.zeros;
    parts = sym (append_assoc zs xs ys) ∙ (ap (λ ps. ps ++ ys) d.parts ∙ (append_assoc d.done d.left ys ∙ (ap (λ ps. d.done ++ ps) c.parts ∙ sym (append_assoc d.done c.done c.left))));
    same =
        ap (λ ps. c_init_items a enter o (MoreItems (Item ds i) is) (record { steps = inits (zs ++ ps); here = place_at from n q })) (append_assoc xs ys rest)
        ∙ (parts_found (walked_designators ds) (place_at from n q) (λ u k. c_init a enter o i (record { steps = inits (zs ++ (xs ++ (ys ++ rest))); here = k }) >>> c_init_items a enter o is) (tt, env) e
        ∙ (ap (λ m. c_init a enter o i (left_at zs (xs ++ (ys ++ rest)) env q m) >>> c_init_items a enter o is) (add-zero n)
        ∙ (ap (λ (go : Action Rest). go >>> c_init_items a enter o is) d.same
        ∙ (then_then (doing a enter o d.done n) (λ u. gives (left_at d.left (ys ++ rest) next q (n + arrays_in_inits (inits d.done)))) (c_init_items a enter o is)
        ∙ (ap (λ (go : Action Rest). doing a enter o d.done n >>> (λ u. go)) c.same
        ∙ (sym (then_then (doing a enter o d.done n) (λ u. doing a enter o c.done (n + arrays_in_inits (inits d.done))) (λ u. gives (left_at c.left rest end q (n + arrays_in_inits (inits d.done) + arrays_in_inits (inits c.done)))))
        ∙ (ap (λ (go : Action (Unit {0})). go >>> (λ u. gives (left_at c.left rest end q (n + arrays_in_inits (inits d.done) + arrays_in_inits (inits c.done))))) (sym (append_does a enter o d.done c.done n))
        ∙ ap (λ m. doing a enter o (d.done ++ c.done) n >>> (λ u. gives (left_at c.left rest end q m))) (add_assoc n (arrays_in_inits (inits d.done)) (arrays_in_inits (inits c.done)) ∙ ap (λ m. n + m) (sym (append_arrays d.done c.done))))))))));
  }

  two_items : (ds : DesignatorTrees) (i : InitTree) (is : ItemTrees) (o : Object) (from env : Env) → walked_designators ds from ≡ Good (tt, env) → (before middle behind : List Init) (next end : Env)
      → Fills o (c_init a enter o i) before middle env next → Fills o (c_init_items a enter o is) middle behind next end → Fills o (c_init_items a enter o (MoreItems (Item ds i) is)) before behind from end
  two_items ds i is o from env e before middle behind next end x y = record {
    new = x.new ++ y.new;
    adds = y.adds ∙ (ap (λ ps. ps ++ y.new) x.adds ∙ append_assoc before x.new y.new);
    does = λ n q zs rest z.
        let d = x.does n q zs (y.new ++ rest) z in
        two_does ds i is o from env next end e x.new y.new n q zs rest d (y.does (n + arrays_in_inits (inits d.done)) q d.left rest d.zeros);
  }

  -- what a brace list does
  abbrev pub FillsItems : ItemTrees → Type 0
  FillsItems is = (o : Object) (f : Filling) (from : Env) (y : Filling × Env) → items_in false is f from ≡ Good y → Fills o (c_init_items a enter o is) f.steps y.0.steps from y.1

  literal_fills : (e : ExprTree) → Means e → (o : Object) (first at : ℕ) (p : Part) (f : Filling) (texts : List (List ℕ)) (from : Env) (y : Filling × Env) (b : Bool)
      → (if b then with_literal first at p (string_literal texts) f else (expr e >>= (λ x. with_value false at p x f))) from ≡ Good y → Fills o (c_init a enter o (Lone e)) f.steps y.0.steps from y.1
  literal_fills e means o first at p f texts from y true g = fills_literal e o first at p (string_literal texts) f from y g
  literal_fills e means o first at p f texts from y false g =
      let i = stepped {A = Operand} (expr e from) (λ x. with_value false at p x f) y g in
      fills_value e means o at p f from i.0 i.1 y i.2

  -- an expression for an object, and one that is an item
  object_is : (e : ExprTree) → Means e → (o : Object) (at : ℕ) (p : Part) (f : Filling) (from : Env) (y : Filling × Env) (l : Option (List (List ℕ))) → object_by false at p f l (expr e) from ≡ Good y
      → Fills o (c_init a enter o (Lone e)) f.steps y.0.steps from y.1
  object_is e means o at p f from y None g =
      let i = stepped {A = Operand} (expr e from) (λ x. with_value false at p x f) y g in
      fills_value e means o at p f from i.0 i.1 y i.2
  object_is e means o at p f from y (Some texts) g = literal_fills e means o at at p f texts from y (is_character_array from.types p.type.shape) g

  item_is : (e : ExprTree) → Means e → (o : Object) (first at : ℕ) (d : Option (Part × List Frame)) (f : Filling) (from : Env) (y : Filling × Env) (l : Option (List (List ℕ))) → item_by false first at d f l (expr e) from ≡ Good y
      → Fills o (c_init a enter o (Lone e)) f.steps y.0.steps from y.1
  item_is e means o first at d f from y None g =
      let i = stepped {A = Operand} (expr e from) (λ v. part_for first d f >>= (λ x. fitted first (AValue v) x >>= (λ z. with_value false at z.0 v (record f { frames = z.1 })))) y g in
      let j = stepped {A = Part × List Frame} (part_for first d f i.0.1) (λ x. fitted first (AValue i.0.0) x >>= (λ z. with_value false at z.0 i.0.0 (record f { frames = z.1 }))) y i.2 in
      let k = stepped {A = Part × List Frame} (fitted first (AValue i.0.0) j.0.0 j.0.1) (λ z. with_value false at z.0 i.0.0 (record f { frames = z.1 })) y j.2 in
      fills_value e means o at k.0.0.0 (record f { frames = k.0.0.1 }) from i.0 i.1 y
      (subst (λ (v : Env). with_value false at k.0.0.0 i.0.0 (record f { frames = k.0.0.1 }) v ≡ Good y) (fitted_here first (AValue i.0.0) j.0.0 j.0.1 k.0 k.1 ∙ part_here first d f i.0.1 j.0 j.1) k.2)
  item_is e means o first at d f from y (Some texts) g =
      let i = stepped {A = Unit {0}} (refuses_if (not (is_some (string_literal texts))) code.IntegerRange at from) (λ u. part_for first d f >>= (λ x. fitted first ALiteral x >>= (λ z. literal_for false first at z.0 (record f { frames = z.1 }) texts (expr e)))) y g in
      let j = stepped {A = Part × List Frame} (part_for first d f i.0.1) (λ x. fitted first ALiteral x >>= (λ z. literal_for false first at z.0 (record f { frames = z.1 }) texts (expr e))) y i.2 in
      let k = stepped {A = Part × List Frame} (fitted first ALiteral j.0.0 j.0.1) (λ z. literal_for false first at z.0 (record f { frames = z.1 }) texts (expr e)) y j.2 in
      literal_fills e means o first at k.0.0.0 (record f { frames = k.0.0.1 }) texts from y (is_character_array from.types k.0.0.0.type.shape)
      (subst (λ (v : Env). (if is_character_array v.types k.0.0.0.type.shape then with_literal first at k.0.0.0 (string_literal texts) (record f { frames = k.0.0.1 }) else (expr e >>= (λ x. with_value false at k.0.0.0 x (record f { frames = k.0.0.1 })))) v ≡ Good y)
      (fitted_here first ALiteral j.0.0 j.0.1 k.0 k.1 ∙ (part_here first d f i.0.1 j.0 j.1 ∙ faults_here (not (is_some (string_literal texts))) _ at from i.0 i.1)) k.2)

  braced_are : (is : ItemTrees) → FillsItems is → (o : Object) (p : Part) (f : Filling) (from : Env) (y : Filling × Env) → braced p f (λ g. items_in false is g) from ≡ Good y → Fills o (c_init_items a enter o is) f.steps y.0.steps from y.1
  braced_are is fills o p f from y g =
      let i = stepped {A = Filling} (items_in false is (with_brace from.types p f) from) (λ (x : Filling). pure (record x { frames = f.frames })) y g in
      let b = brace_adds from.types p f in
      let r = fills o (with_brace from.types p f) from i.0 i.1 in
      let e = good (record i.0.0 { frames = f.frames }, i.0.1) y i.2 in
      subst (λ (z : Filling × Env). Fills o (c_init_items a enter o is) f.steps z.0.steps from z.1) (sym e) (record {
        new = b.zeros ++ r.new;
        adds = r.adds ∙ (ap (λ xs. xs ++ r.new) b.adds ∙ append_assoc f.steps b.zeros r.new);
        does = λ n q zs rest z. regrouped o (c_init_items a enter o is) ((zs ++ b.zeros) ++ (r.new ++ rest)) (zs ++ ((b.zeros ++ r.new) ++ rest)) ((zs ++ b.zeros) ++ r.new) (zs ++ (b.zeros ++ r.new)) rest (record { env = from; arrays = n; place = q }) i.0.1
            (append_assoc zs b.zeros (r.new ++ rest) ∙ ap (λ xs. zs ++ xs) (sym (append_assoc b.zeros r.new rest))) (append_assoc zs b.zeros r.new) (r.does n q (zs ++ b.zeros) rest (zero_append zs b.zeros z b.are));
      })

  lone_braces : (is : ItemTrees) → FillsItems is → (o : Object) (p : Part) (f : Filling) (from : Env) (y : Filling × Env) (l : ℕ × List (List ℕ)) → alone is ≡ Some l → (b : Bool)
      → (if b then with_literal l.0 l.0 p (string_literal l.1) f else braced p f (λ g. items_in false is g)) from ≡ Good y → Fills o (c_init_items a enter o is) f.steps y.0.steps from y.1
  lone_braces is fills o p f from y l e true g =
      subst (λ (xs : ItemTrees). Fills o (c_init_items a enter o xs) f.steps y.0.steps from y.1) (sym (alone_is is l e))
      (two_items NoDesignators (Lone (Literals l.0 l.1)) NoItems o from from refl f.steps y.0.steps y.0.steps y.1 y.1 (fills_literal (Literals l.0 l.1) o l.0 l.0 p (string_literal l.1) f from y g) (none_fills o y.0.steps y.1))
  lone_braces is fills o p f from y l e false g = braced_are is fills o p f from y g

  braces_are : (is : ItemTrees) → FillsItems is → (at : ℕ) (o : Object) (p : Part) (f : Filling) (from : Env) (y : Filling × Env) (l : Option (ℕ × List (List ℕ))) → alone is ≡ l → braces_for false p f l (λ g. items_in false is g) from ≡ Good y
      → Fills o (c_init_items a enter o is) f.steps y.0.steps from y.1
  braces_are is fills at o p f from y None e g = braced_are is fills o p f from y g
  braces_are is fills at o p f from y (Some l) e g = lone_braces is fills o p f from y l e (is_character_array from.types p.type.shape) g

  -- a brace list that is an item
  item_braces : (is : ItemTrees) → FillsItems is → (at : ℕ) (o : Object) (first : ℕ) (d : Option (Part × List Frame)) (f : Filling) (from : Env) (y : Filling × Env)
      → (part_for first d f >>= (λ x. excludes_if (in_flexible x) feature.FlexibleInit first >>= (λ u. braces_for false x.0 (record f { frames = x.1 }) (alone is) (λ g. items_in false is g)))) from ≡ Good y
      → Fills o (c_init_items a enter o is) f.steps y.0.steps from y.1
  item_braces is fills at o first d f from y g =
      let p = stepped {A = Part × List Frame} (part_for first d f from) (λ x. excludes_if (in_flexible x) feature.FlexibleInit first >>= (λ u. braces_for false x.0 (record f { frames = x.1 }) (alone is) (λ g. items_in false is g))) y g in
      let u = stepped {A = Unit {0}} (excludes_if (in_flexible p.0.0) feature.FlexibleInit first p.0.1) (λ u. braces_for false p.0.0.0 (record f { frames = p.0.0.1 }) (alone is) (λ g. items_in false is g)) y p.2 in
      braces_are is fills at o p.0.0.0 (record f { frames = p.0.0.1 }) from y (alone is) refl
      (subst (λ (v : Env). braces_for false p.0.0.0 (record f { frames = p.0.0.1 }) (alone is) (λ g. items_in false is g) v ≡ Good y) (faults_here (in_flexible p.0.0) _ first p.0.1 u.0 u.1 ∙ part_here first d f from p.0 p.1) u.2)

  object_means : (at : ℕ) (items : ItemTrees) → FillsItems items → (c d : CType) (f : Filling) (h : Here) (env : Env) (y : Operand × Env) (static : Bool) → is_static_here h.env ≡ static → literal_object static at d f env ≡ Good y → (behind : Env)
      → initialise static (whole_part c) (beginning c) (Braces at items false) h.env ≡ Good (f, behind)
      → syntax.of_literal a y.0.typed h (λ o. c_init_items a enter o items) ≡ t_exp a enter y.0.typed h.arrays
  object_means at items fills c d f h env y true s g behind w =
      let i = stepped {A = ℕ} (made_entity env.evaluated (nameless at d (inits f.steps)) env) (λ n. pure (operand (place d false (StaticObject n)))) y g in
      subst (λ (z : Operand × Env). syntax.of_literal a z.0.typed h (λ o. c_init_items a enter o items) ≡ t_exp a enter z.0.typed h.arrays) (sym (good (operand (place d false (StaticObject i.0.0)), i.0.1) y i.2)) refl
  object_means at items fills c d f h env y false s g behind w =
      let i = stepped {A = ℕ} (number_of_literal env.evaluated at d env) (λ n. pure (operand (place d true (LiteralObject n (inits f.steps))))) y g in
      let o : Object = object_literal a i.0.0 d in
      let r = braces_are items fills at o (whole_part c) (beginning c) h.env (f, behind) (alone items) refl w in
      let e : Does a enter o (c_init a enter o (Braces at items false) (record { steps = inits (r.new ++ []); here = h })) r.new [] h behind = r.does h.arrays h.place [] [] tt in
      subst (λ (z : Operand × Env). syntax.of_literal a z.0.typed h (λ o. c_init_items a enter o items) ≡ t_exp a enter z.0.typed h.arrays)
      (sym (good (operand (place d true (LiteralObject i.0.0 (inits f.steps))), i.0.1) y i.2))
      (ap (λ (go : Action (Unit {0})). initialised o go >>> (λ u. gives (local_object a (literal_number a i.0.0)))) (steps_are o (c_init_items a enter o items) r.new f.steps h behind (r.adds) e))

  -- a compound literal, behind its type (6.5.2.5)
  literal_means : (at : ℕ) (items : ItemTrees) → FillsItems items → (c : CType) (h : Here) (y : Operand × Env) → literal_walk at items c h.env ≡ Good y
      → syntax.of_literal a y.0.typed h (λ o. c_init_items a enter o items) ≡ t_exp a enter y.0.typed h.arrays
  literal_means at items fills c h y g =
      let j = stepped {A = Unit {0}} (refuses_if (not (may_be_initialised h.env.types c)) code.Incomplete at h.env) (λ u. initialise (is_static_here h.env) (whole_part c) (beginning c) (Braces at items false) >>= (λ f. compound_literal (is_static_here h.env) at (brace_at items) c f)) y g in
      let k = stepped {A = Filling} (initialise (is_static_here h.env) (whole_part c) (beginning c) (Braces at items false) j.0.1) (λ f. compound_literal (is_static_here h.env) at (brace_at items) c f) y j.2 in
      let l = stepped {A = CType} (filled at (brace_at items) c k.0.0 k.0.1) (λ d. literal_object (is_static_here h.env) at d k.0.0) y k.2 in
      object_means at items fills c l.0.0 k.0.0 h l.0.1 y (is_static_here h.env) refl l.2 (k.0.1)
      (subst (λ (v : Env). initialise (is_static_here h.env) (whole_part c) (beginning c) (Braces at items false) v ≡ Good k.0) (faults_here (not (may_be_initialised h.env.types c)) _ at h.env j.0 j.1) k.1)

  mutual
    pub exp_is : (e : ExprTree) (h : Here) (y : Operand × Env) → expr e h.env ≡ Good y → c_exp a enter e h ≡ t_exp a enter y.0.typed h.arrays
    exp_is (Name at x) h y e =
        let n : Node = NameNode (option_and_then (designates h.env.types) (visible_name h.env x)) in
        let i = stepped {A = Unit {0}} (uses_name (visible_name h.env x) h.env) (λ u. at_node (by_node at) n) y e in
        let w = node_given (by_node at) n i.0.1 y i.2 in
        named h.env.types (visible_name h.env x) h.arrays (is_declared i.0.1.types n w.0) ∙ walked n i.0.1 y h.arrays w.1
    exp_is (Integer at text) h y e = constant_is at (integer_constant h.env.types.abi text) h.env y h.arrays e
    exp_is (Character at text) h y e = value_with (character_constant text) ∙ constant_is at (option_map (λ v. (int, v)) (character_constant text)) h.env y h.arrays e
    exp_is (Literals at texts) h y e = literal_is at (string_literal texts) h.env y h.arrays e
    exp_is (Parentheses at e) h y i = exp_is e h y i
    exp_is (Index at l r) h y e = two l r (exp_is l) (exp_is r) (by_node at) IndexNode (λ t x z. syntax.of_index a t x z) (λ t x z k f. index t x z k f) h y e
    exp_is (Call at f es) h y e =
        let i = stepped {A = Operand} (expr f h.env) (λ g. exprs es >>= (λ xs. at_call at (ats_of es) g xs)) y e in
        let j = stepped {A = List Operand} (exprs es i.0.1) (λ xs. at_call at (ats_of es) i.0.0 xs) y i.2 in
        let w = node_given _ (CallNode i.0.0 j.0.0) j.0.1 y j.2 in
        let k : Here = here_behind (λ (x : Operand). arrays_in x.typed) h i.0 in
        operand_found (expr f) h (λ x k. with_operands (exprs es) k (λ ys j. syntax.of_call a enter x (c_exp a enter f h) (λ ps. c_arguments a enter j.env.types ps es k))) i.0 i.1
        ∙ (operands_found (exprs es) k (λ ys j. syntax.of_call a enter i.0.0 (c_exp a enter f h) (λ ps. c_arguments a enter j.env.types ps es k)) j.0 j.1
        ∙ (ap (λ (go : Action Seen). syntax.of_call a enter i.0.0 go (λ ps. c_arguments a enter j.0.1.types ps es k)) (exp_is f h i.0 i.1)
        ∙ (call j.0.1.types i.0.0 j.0.0 h.arrays (λ ps. c_arguments a enter j.0.1.types ps es k) w.0 (λ ps. arguments_are es k j.0 j.1 j.0.1.types ps)
        ∙ walked (CallNode i.0.0 j.0.0) j.0.1 y h.arrays w.1)))
    exp_is (Member at e m) h y g = one e (exp_is e) (by_node at) (λ t x. member_node t m x) (λ t n x. syntax.of_member a n (dot_path t m x) x) (λ t x k o f. dot m t x k o f) h y g
    exp_is (Arrow at e m) h y g = one e (exp_is e) (by_node at) (λ t x. arrow_node t m x) (λ t n x. syntax.of_arrow a n (arrow_path t m x) x) (λ t x k o f. arrow m t x k o f) h y g
    exp_is (Postfix at e op) h y g = one e (exp_is e) (by_operand at (first_expr e)) (λ t x. StepNode (postfix_form op) x) (λ t n x. syntax.of_step a t (postfix_form op) x) (λ t x k o f. step (postfix_form op) t 0 x k o f) h y g
    exp_is (CompoundLiteral at t items comma) h y g =
        let i = stepped {A = CType} (named_type t h.env) (literal_walk at items) y g in
        parts_found (named_type t) h (λ c k. with_operand (expr (CompoundLiteral at t items comma)) h (λ x j. syntax.of_literal a x.typed k (λ o. c_init_items a enter o items))) i.0 i.1
        ∙ (operand_found (expr (CompoundLiteral at t items comma)) h (λ x j. syntax.of_literal a x.typed (here_behind none h i.0) (λ o. c_init_items a enter o items)) y g
        ∙ (literal_means at items (items_are items) i.0.0 (here_behind none h i.0) y i.2
        ∙ ap (λ n. t_exp a enter y.0.typed n) (add-zero h.arrays)))
    exp_is (Prefix at op e) h y g = one e (exp_is e) (by_operand at (first_expr e)) (λ t x. StepNode (prefix_form op) x) (λ t n x. syntax.of_step a t (prefix_form op) x) (λ t x k o f. step (prefix_form op) t 0 x k o f) h y g
    exp_is (Unary at op e) h y g = one e (exp_is e) (by_operand at (first_expr e)) (λ t x. unary_node op x) (λ t n x. syntax.of_unary a t op x) (λ t x k o f. unary op t x k o f) h y g
    exp_is (SizeofExpr at e) h y g =
        let i = stepped {A = Operand} (unevaluated (expr e) h.env) (λ x. at_node (by_sized at (first_expr e)) (SizeofNode (shape_in x.typed))) y g in
        operand_found (unevaluated (expr e)) h (λ x k. measured (size_in k.env.types (shape_in x.typed))) i.0 i.1
        ∙ measured_is _ (SizeofNode (shape_in i.0.0.typed)) i.0.1 y h.arrays (size_in i.0.1.types (shape_in i.0.0.typed)) i.2 refl
    exp_is (SizeofType at t) h y g =
        let i = stepped {A = CType} (unevaluated (named_type t) h.env) (λ (c : CType). at_node (by_sized at (at_first (first_type_name t))) (SizeofNode c.shape)) y g in
        parts_found (unevaluated (named_type t)) h (λ c k. measured (size_in k.env.types c.shape)) i.0 i.1
        ∙ measured_is _ (SizeofNode i.0.0.shape) i.0.1 y h.arrays (size_in i.0.1.types i.0.0.shape) i.2 refl
    exp_is (AlignofType at t) h y g =
        let i = stepped {A = CType} (unevaluated (named_type t) h.env) (λ (c : CType). at_node (by_sized at (at_first (first_type_name t))) (AlignofNode c.shape)) y g in
        parts_found (unevaluated (named_type t)) h (λ c k. measured (alignment_in k.env.types c.shape)) i.0 i.1
        ∙ measured_is _ (AlignofNode i.0.0.shape) i.0.1 y h.arrays (alignment_in i.0.1.types i.0.0.shape) i.2 refl
    exp_is (Cast at t e) h y g =
        let i = stepped {A = CType} (named_type t h.env) (λ c. expr e >>= (λ x. at_node (by_node at) (CastNode c x))) y g in
        let j = stepped {A = Operand} (expr e i.0.1) (λ x. at_node (by_node at) (CastNode i.0.0 x)) y i.2 in
        let w = node_given (by_node at) (CastNode i.0.0 j.0.0) j.0.1 y j.2 in
        let k : Here = here_behind none h i.0 in
        parts_found (named_type t) h (λ c k. with_operand (expr e) k (λ x j. syntax.of_cast a c.shape x (c_exp a enter e k))) i.0 i.1
        ∙ (operand_found (expr e) k (λ x j. syntax.of_cast a i.0.0.shape x (c_exp a enter e k)) j.0 j.1
        ∙ (ap (syntax.of_cast a i.0.0.shape j.0.0) (exp_is e k j.0 j.1)
        ∙ (ap (λ n. syntax.of_cast a i.0.0.shape j.0.0 (t_exp a enter j.0.0.typed n)) (add-zero h.arrays)
        ∙ (cast_is a enter j.0.0 i.0.0.shape h.arrays (recorded e i.0.1 j.0 j.1)
        ∙ walked (CastNode i.0.0 j.0.0) j.0.1 y h.arrays w.1))))
    exp_is (Binary at op l r) h y e = two l r (exp_is l) (exp_is r) (by_node at) (BinaryNode op) (λ t x z. syntax.of_binary a t op x z) (λ t x z k f. binary t op x z k f) h y e
    exp_is (Logical at op l r) h y e =
        two l r (exp_is l) (exp_is r) (by_node at) (LogicalNode (logic_of op)) (λ t x z go next. logical (logic_of op) (tested a x go) (tested a z next))
        (λ t x z k f. ap₂ (logical (logic_of op)) (sym (tested_is a enter x k)) (sym (behind_tested a enter x z k))) h y e
    exp_is (Conditional at c l r) h y e =
        let i = stepped {A = Operand} (expr c h.env) (λ x. expr l >>= (λ u. expr r >>= (λ v. at_node (by_node at) (ConditionalNode x u v)))) y e in
        let j = stepped {A = Operand} (expr l i.0.1) (λ u. expr r >>= (λ v. at_node (by_node at) (ConditionalNode i.0.0 u v))) y i.2 in
        let m = stepped {A = Operand} (expr r j.0.1) (λ v. at_node (by_node at) (ConditionalNode i.0.0 j.0.0 v)) y j.2 in
        let w = node_given (by_node at) (ConditionalNode i.0.0 j.0.0 m.0.0) m.0.1 y m.2 in
        let k : Here = here_behind (λ (x : Operand). arrays_in x.typed) h i.0 in
        let n : Here = here_behind (λ (x : Operand). arrays_in x.typed) k j.0 in
        operand_found (expr c) h (λ x k. with_operand (expr l) k (λ v j. with_operand (expr r) j (λ w i. syntax.of_conditional a i.env.types x v w (c_exp a enter c h) (c_exp a enter l k) (c_exp a enter r j)))) i.0 i.1
        ∙ (operand_found (expr l) k (λ v j. with_operand (expr r) j (λ w m. syntax.of_conditional a m.env.types i.0.0 v w (c_exp a enter c h) (c_exp a enter l k) (c_exp a enter r j))) j.0 j.1
        ∙ (operand_found (expr r) n (λ w m. syntax.of_conditional a m.env.types i.0.0 j.0.0 w (c_exp a enter c h) (c_exp a enter l k) (c_exp a enter r n)) m.0 m.1
        ∙ (ap (λ (go : Action Seen). syntax.of_conditional a m.0.1.types i.0.0 j.0.0 m.0.0 go (c_exp a enter l k) (c_exp a enter r n)) (exp_is c h i.0 i.1)
        ∙ (ap₂ (syntax.of_conditional a m.0.1.types i.0.0 j.0.0 m.0.0 (t_exp a enter i.0.0.typed h.arrays)) (exp_is l k j.0 j.1) (exp_is r n m.0 m.1)
        ∙ (conditional m.0.1.types i.0.0 j.0.0 m.0.0 h.arrays w.0
        ∙ walked (ConditionalNode i.0.0 j.0.0 m.0.0) m.0.1 y h.arrays w.1)))))
    exp_is (Assign at op l r) h y e = two l r (exp_is l) (exp_is r) (by_operand at (first_expr l)) (assign_node op) (λ t x z. syntax.of_assign a t op x z) (λ t x z k f. assign t op x z k f) h y e
    exp_is (Comma at l r) h y e = two l r (exp_is l) (exp_is r) (by_node at) CommaNode (λ t x z. syntax.of_comma a x z) (λ t x z k f. comma_is a enter x z k) h y e

    arguments_are : (es : ExprTrees) (h : Here) (ys : List Operand × Env) → exprs es h.env ≡ Good ys → (t : Types) (ps : Shapes) → c_arguments a enter t ps es h ≡ t_arguments a enter (passed t ps ys.0) h.arrays
    arguments_are NoExprs h ys e t ps = ap (λ xs. t_arguments a enter xs h.arrays) (sym (passed_none t ps)) ∙ ap (λ (v : List Operand × Env). t_arguments a enter (passed t ps v.0) h.arrays) (sym (good ([], h.env) ys e))
    arguments_are (MoreExprs e es) h ys g t ps =
        let i = stepped {A = Operand} (expr e h.env) (λ x. exprs es >>= (λ xs. pure (x ∷ xs))) ys g in
        let j = stepped {A = List Operand} (exprs es i.0.1) (λ xs. pure (i.0.0 ∷ xs)) ys i.2 in
        let k : Here = here_behind (λ (x : Operand). arrays_in x.typed) h i.0 in
        let to : Shape = passed_shape t ps i.0.0 in
        operand_found (expr e) h (λ x k. syntax.of_arguments a (passed_shape t ps x) x (c_exp a enter e h) (c_arguments a enter t (parameters_behind ps) es k)) i.0 i.1
        ∙ (ap (λ (go : Action Seen). syntax.of_arguments a to i.0.0 go (c_arguments a enter t (parameters_behind ps) es k)) (exp_is e h i.0 i.1)
        ∙ (argument_is a enter to i.0.0 h.arrays (c_arguments a enter t (parameters_behind ps) es k) (t_arguments a enter (passed t (parameters_behind ps) j.0.0) (h.arrays + arrays_in (value_as to i.0.0)))
        (arguments_are es k j.0 j.1 t (parameters_behind ps) ∙ ap (λ n. t_arguments a enter (passed t (parameters_behind ps) j.0.0) (h.arrays + n)) (sym (arrays_as to i.0.0)))
        ∙ (ap (λ xs. t_arguments a enter xs h.arrays) (sym (passed_more t ps i.0.0 j.0.0))
        ∙ ap (λ (v : List Operand × Env). t_arguments a enter (passed t ps v.0) h.arrays) (sym (good (i.0.0 ∷ j.0.0, j.0.1) ys j.2)))))

    -- an initialiser, an item, and the items of a brace list
    pub init_is : (i : InitTree) (o : Object) (p : Part) (f : Filling) (from : Env) (y : Filling × Env) → initialise false p f i from ≡ Good y → Fills o (c_init a enter o i) f.steps y.0.steps from y.1
    init_is (Lone e) o p f from y g = object_is e (exp_is e) o (first_expr e) p f from y (literal_in e) g
    init_is (Braces at is comma) o p f from y g = braces_are is (items_are is) at o p f from y (alone is) refl g

    item_means : (i : InitTree) (o : Object) (first : ℕ) (d : Option (Part × List Frame)) (f : Filling) (from : Env) (y : Filling × Env) → item false first d f i from ≡ Good y → Fills o (c_init a enter o i) f.steps y.0.steps from y.1
    item_means (Lone e) o first d f from y g = item_is e (exp_is e) o first (first_expr e) d f from y (literal_in e) g
    item_means (Braces at is comma) o first d f from y g = item_braces is (items_are is) at o first d f from y g

    items_are : (is : ItemTrees) → FillsItems is
    items_are NoItems o f from y g = subst (λ (z : Filling × Env). Fills o (c_init_items a enter o NoItems) f.steps z.0.steps from z.1) (sym (good (f, from) y g)) (none_fills o f.steps from)
    items_are (MoreItems (Item ds i) is) o f from y g =
        let first : ℕ = first_item (Item ds i) in
        let d = stepped {A = Option (Part × List Frame)} (designation f ds from) (λ z. item false first z f i >>= (λ k. items_in false is k)) y g in
        let k = stepped {A = Filling} (item false first d.0.0 f i d.0.1) (λ k. items_in false is k) y d.2 in
        two_items ds i is o from d.0.1 (designation_here f ds from d.0 d.1) f.steps k.0.0.steps y.0.steps k.0.1 y.1 (item_means i o first d.0.0 f d.0.1 k.0 k.1) (items_are is o k.0.0 k.0.1 y k.2)
