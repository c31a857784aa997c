-- Device: expressions of C are matched where calls are.
use Rattle.std.proofs.Common.{ℕ, List, [], Option, option_map}
use Rattle.std.specs.Prelude.{ℤ, length}
use Rattle.cil_base.specs.declared.kinds.IntKind.{IntKind}
use Rattle.type_graph.specs.Shapes.{Shapes}
use Rattle.execution.specs.States.{State, Result}
use Rattle.execution.specs.Calls.{Enter}
use Rattle.typed_tree.specs.Tree.{Typed, shape_in}
use Rattle.typed_tree.specs.Statements.{Stmt}
use Rattle.c_tree.specs.Syntax.{ExprTree, Name, Integer, Character, Literals, Parentheses, Index, Call, Member, Arrow, Postfix, CompoundLiteral, Prefix, Unary, SizeofExpr, SizeofType, AlignofType, Cast, Binary, Logical, Conditional, Assign, Comma, ExprTrees, NoExprs, MoreExprs, InitTree, Single, Braces, Item, ItemTrees, NoItems, MoreItems}
use Rattle.c_rules.specs.Types.{Types, size_in, alignment_in}
use Rattle.c_rules.specs.Conversions.{Operand}
use Rattle.c_rules.specs.Constants.{integer_constant, character_constant}
use Rattle.c_typing.specs.Scopes.{Env, Found, Good, Bad, Walk, unevaluated, visible_name}
use Rattle.c_typing.specs.Steps.{logic_of, postfix_form, prefix_form}
use Rattle.c_typing.specs.Walk.{expr, exprs, named_type}
use Rattle.c_semantics.specs.Places.{Activation, Here, here_behind, found, none, undefined, arrays_in, arrays_in_operands, arrays_in_maybe, arrays_in_list, with_parts, with_operand, with_operands, with_typed, with_maybe, with_stmts}
use Rattle.c_semantics.specs.Walks.{designators}
use Rattle.c_semantics.specs.Operations.{Object, Rest}
use Rattle.c_semantics.specs.Expressions.{passed_shape, parameters_behind, dot_path, arrow_path, c_exp, c_arguments, c_init, c_init_items}
use Rattle.c_semantics.proofs.Matched.{Matched, Ready, gives_matched, undefined_matched}
use Rattle.c_semantics.proofs.Nodes.{tested_m, logical_m, unit_object_m, of_number_m, measured_m, of_name_m, of_index_m, of_call_m, of_arguments_m, of_member_m, of_arrow_m, of_cast_m, of_binary_m, of_conditional_m, of_comma_m, of_unary_m, of_assign_m, of_step_m, of_literal_m, of_value_m, of_lone_m, then_rest_m}

-- what is found by a walk is found on both sides
pub found_m : {A B : Type 0} {n more : ℕ} {base : List ℕ} (count : A → ℕ) (h : Here) {f g : A → Here → State → Result B} → ((a : A) (k : Here) → Matched n more base (f a k) (g a k)) → (r : Found (A × Env))
    → Matched n more base (found count undefined h f r) (found count undefined h g r)
found_m count h m (Good x) = m x.0 (here_behind count h x)
found_m count h m (Bad fault at) = undefined_matched

pub parts_m : {A B : Type 0} {n more : ℕ} {base : List ℕ} (walk : Walk A) (h : Here) {f g : A → Here → State → Result B} → ((a : A) (k : Here) → Matched n more base (f a k) (g a k)) → Matched n more base (with_parts walk h f) (with_parts walk h g)
parts_m walk h m = found_m none h m (walk h.env)

pub operand_m : {B : Type 0} {n more : ℕ} {base : List ℕ} (walk : Walk Operand) (h : Here) {f g : Operand → Here → State → Result B} → ((x : Operand) (k : Here) → Matched n more base (f x k) (g x k)) → Matched n more base (with_operand walk h f) (with_operand walk h g)
operand_m walk h m = found_m (λ (x : Operand). arrays_in x.typed) h m (walk h.env)

pub operands_m : {B : Type 0} {n more : ℕ} {base : List ℕ} (walk : Walk (List Operand)) (h : Here) {f g : List Operand → Here → State → Result B} → ((x : List Operand) (k : Here) → Matched n more base (f x k) (g x k)) → Matched n more base (with_operands walk h f) (with_operands walk h g)
operands_m walk h m = found_m arrays_in_operands h m (walk h.env)

pub typed_m : {B : Type 0} {n more : ℕ} {base : List ℕ} (walk : Walk Typed) (h : Here) {f g : Typed → Here → State → Result B} → ((x : Typed) (k : Here) → Matched n more base (f x k) (g x k)) → Matched n more base (with_typed walk h f) (with_typed walk h g)
typed_m walk h m = found_m arrays_in h m (walk h.env)

pub maybe_m : {B : Type 0} {n more : ℕ} {base : List ℕ} (walk : Walk (Option Typed)) (h : Here) {f g : Option Typed → Here → State → Result B} → ((x : Option Typed) (k : Here) → Matched n more base (f x k) (g x k)) → Matched n more base (with_maybe walk h f) (with_maybe walk h g)
maybe_m walk h m = found_m arrays_in_maybe h m (walk h.env)

pub stmts_m : {B : Type 0} {n more : ℕ} {base : List ℕ} (walk : Walk (List Stmt)) (h : Here) {f g : List Stmt → Here → State → Result B} → ((x : List Stmt) (k : Here) → Matched n more base (f x k) (g x k)) → Matched n more base (with_stmts undefined walk h f) (with_stmts undefined walk h g)
stmts_m walk h m = found_m arrays_in_list h m (walk h.env)

mutual
  pub exp_m : {n more : ℕ} {base : List ℕ} (a : Activation) {enter also : Enter} → Ready n more base enter also → (e : ExprTree) (h : Here) → Matched n more base (c_exp a enter e h) (c_exp a also e h)
  exp_m a r (Name at x) h = of_name_m a (visible_name h.env x)
  exp_m a r (Integer at text) h = of_number_m (option_map (λ (c : IntKind × ℤ). c.1) (integer_constant h.env.types.abi text))
  exp_m a r (Character at text) h = of_number_m (character_constant text)
  exp_m a r (Literals at texts) h = unit_object_m a (length h.env.entities)
  exp_m a r (Parentheses at e) h = exp_m a r e h
  exp_m a r (Index at e f) h = operand_m (expr e) h (λ x k. operand_m (expr f) k (λ y j. of_index_m a j.env.types x y (exp_m a r e h) (exp_m a r f k)))
  exp_m a r (Call at f es) h = operand_m (expr f) h (λ x k. operands_m (exprs es) k (λ ys j. of_call_m a x r (exp_m a r f h) (λ ps. arguments_m a r j.env.types ps es k)))
  exp_m a r (Member at e m) h = operand_m (expr e) h (λ x k. of_member_m a k.arrays (dot_path k.env.types m x) x (exp_m a r e h))
  exp_m a r (Arrow at e m) h = operand_m (expr e) h (λ x k. of_arrow_m a k.arrays (arrow_path k.env.types m x) x (exp_m a r e h))
  exp_m a r (Postfix at e op) h = operand_m (expr e) h (λ x k. of_step_m a k.env.types (postfix_form op) x (exp_m a r e h))
  exp_m a r (CompoundLiteral at t items comma) h = parts_m (named_type t) h (λ c k. operand_m (expr (CompoundLiteral at t items comma)) h (λ x j. of_literal_m a x.typed k (λ o q. items_m a r o items q)))
  exp_m a r (Prefix at op e) h = operand_m (expr e) h (λ x k. of_step_m a k.env.types (prefix_form op) x (exp_m a r e h))
  exp_m a r (Unary at op e) h = operand_m (expr e) h (λ x k. of_unary_m a k.env.types op x (exp_m a r e h))
  exp_m a r (SizeofExpr at e) h = operand_m (unevaluated (expr e)) h (λ x k. measured_m (size_in k.env.types (shape_in x.typed)))
  exp_m a r (SizeofType at t) h = parts_m (unevaluated (named_type t)) h (λ c k. measured_m (size_in k.env.types c.shape))
  exp_m a r (AlignofType at t) h = parts_m (unevaluated (named_type t)) h (λ c k. measured_m (alignment_in k.env.types c.shape))
  exp_m a r (Cast at t e) h = parts_m (named_type t) h (λ c k. operand_m (expr e) k (λ x j. of_cast_m a c.shape x (exp_m a r e k)))
  exp_m a r (Binary at op e f) h = operand_m (expr e) h (λ x k. operand_m (expr f) k (λ y j. of_binary_m a j.env.types op x y (exp_m a r e h) (exp_m a r f k)))
  exp_m a r (Logical at op e f) h = operand_m (expr e) h (λ x k. operand_m (expr f) k (λ y j. logical_m (logic_of op) (tested_m a x (exp_m a r e h)) (tested_m a y (exp_m a r f k))))
  exp_m a r (Conditional at c e f) h = operand_m (expr c) h (λ x k. operand_m (expr e) k (λ y j. operand_m (expr f) j (λ z i. of_conditional_m a i.env.types x y z (exp_m a r c h) (exp_m a r e k) (exp_m a r f j))))
  exp_m a r (Assign at op e f) h = operand_m (expr e) h (λ x k. operand_m (expr f) k (λ y j. of_assign_m a j.env.types op x y (exp_m a r e h) (exp_m a r f k)))
  exp_m a r (Comma at e f) h = operand_m (expr e) h (λ x k. operand_m (expr f) k (λ y j. of_comma_m a x y (exp_m a r e h) (exp_m a r f k)))

  arguments_m : {n more : ℕ} {base : List ℕ} (a : Activation) {enter also : Enter} → Ready n more base enter also → (t : Types) (ps : Shapes) (es : ExprTrees) (h : Here) → Matched n more base (c_arguments a enter t ps es h) (c_arguments a also t ps es h)
  arguments_m a r t ps NoExprs h = gives_matched []
  arguments_m a r t ps (MoreExprs e es) h = operand_m (expr e) h (λ x k. of_arguments_m a (passed_shape t ps x) x (exp_m a r e h) (arguments_m a r t (parameters_behind ps) es k))

  pub init_m : {n more : ℕ} {base : List ℕ} (a : Activation) {enter also : Enter} → Ready n more base enter also → (o : Object) (i : InitTree) (q : Rest) → Matched n more base (c_init a enter o i q) (c_init a also o i q)
  init_m a r o (Single e) q = of_lone_m a o q (λ s. operand_m (expr e) q.here (λ x k. of_value_m a s x k (exp_m a r e q.here)))
  init_m a r o (Braces at is comma) q = items_m a r o is q

  items_m : {n more : ℕ} {base : List ℕ} (a : Activation) {enter also : Enter} → Ready n more base enter also → (o : Object) (is : ItemTrees) (q : Rest) → Matched n more base (c_init_items a enter o is q) (c_init_items a also o is q)
  items_m a r o NoItems q = gives_matched q
  items_m a r o (MoreItems (Item ds i) is) q = parts_m (designators ds) q.here (λ u k. then_rest_m (init_m a r o i (record q { here = k })) (λ p. items_m a r o is p))
