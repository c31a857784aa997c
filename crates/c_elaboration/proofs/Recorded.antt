-- Device: the members of values in what the walk gives are those of structures and unions.
use Rattle.std.proofs.Common.{◌≡◌, ℕ, Bool, true, false, not, ◌&&◌, List, [], ◌∷◌, Option, Some, None, option_map, refl, sym, subst}
use Rattle.std.specs.Prelude.{ℤ, pos, if◌then◌else◌}
use Rattle.std.specs.Option.{option_and_then}
use Rattle.cil_base.specs.declared.kinds.IntKind.{IntKind}
use Rattle.cil_base.specs.declared.kinds.IntKind.TheVariants.{Int as int}
use Rattle.cil_base.specs.declared.faults.Code.{Code}
use Rattle.cil_base.specs.declared.faults.Code.TheVariants as code
use Rattle.cil_base.specs.declared.operators.BinOp.{BinOp}
use Rattle.type_graph.specs.Shapes.{Shape}
use Rattle.typed_tree.specs.Tree.{Typed, Convert, Literal as LiteralObject, Entity as StaticObject, Bytes, Zero, shape_in}
use Rattle.c_tree.specs.declared.words.UnaryOp.{UnaryOp}
use Rattle.c_tree.specs.declared.words.UnaryOp.TheVariants.{Address, Indirection, Plus, Minus, Complement, Not as Negation}
use Rattle.c_tree.specs.Syntax.{ExprTree, Name, Integer, Character, Literals, Parentheses, Index, Call, Member, Arrow, Postfix, CompoundLiteral, Prefix, Unary, SizeofExpr, SizeofType, AlignofType, Cast, Binary, Logical, Conditional, Assign, Comma}
use Rattle.c_tree.specs.Places.{first_expr, first_type_name}
use Rattle.c_rules.specs.Types.{CType, Types, Hop, is_void, pointee, member_path, size_in, alignment_in}
use Rattle.c_rules.specs.Conversions.{Operand, operand, same_shape, same_effect, shape_of, promoted_shape, value_of as value_node}
use Rattle.c_rules.specs.Constants.{integer_constant, character_constant, string_literal}
use Rattle.c_typing.specs.Scopes.{Env, Denotes, TypedefName, EnumerationConstant, Automatic, Static, Good, ◌>>=◌, pure, unevaluated, refuses_if, visible_name}
use Rattle.c_rules.specs.Nodes as node
use Rattle.c_rules.specs.Operators.{binary_sides, subscript_sides, compound_sides, step_shape, branch_shape}
use Rattle.c_rules.specs.Constraints.{wrong_argument}
use Rattle.c_rules.specs.Nodes.{Node, NameNode, ConstantNode, IndexNode, CallNode, StepNode, BinaryNode, LogicalNode, ConditionalNode, CommaNode, CastNode, SizeofNode, AlignofNode, given, place, along, indirect, callee_of, constant_operand, integer_operand, size_shape, typed_node, cast_to}
use Rattle.c_typing.specs.Declarators.{at_first}
use Rattle.c_typing.specs.Initialisers.{Filling, inits, beginning, whole_part}
use Rattle.c_typing.specs.Steps.{at_node, by_node, by_operand, by_sized, by_argument, number_at, at_call, uses_name, designates, made_entity, nameless, literal_type, literal_of, logic_of, postfix_form, prefix_form, unary_node, assign_node, member_node, arrow_node, ats_of}
use Rattle.c_typing.specs.Walk.{brace_at, is_static_here, may_be_initialised, alone, braces_for, number_of_literal, literal_object, filled, compound_literal, expr, exprs, items_in, named_type}
use Rattle.c_elaboration.proofs.Unviolated.{stepped, node_given}
use Rattle.c_elaboration.proofs.Forms.{OfRecords, value_records, as_records}
use Rattle.c_elaboration.proofs.Members.{along_records, found_path}

given_records : {A : Type 0} (f : A → Operand) (o : Option A) → ((a : A) → o ≡ Some a → OfRecords (f a).typed) → OfRecords (given f o).typed
given_records f None h = tt
given_records f (Some a) h = h a refl

node_records : (at : Code → ℕ) (n : Node) (env : Env) (y : Operand × Env) → at_node at n env ≡ Good y → OfRecords (typed_node env.types n).typed → OfRecords y.0.typed
node_records at n env y e o = subst (λ (x : Operand × Env). OfRecords x.0.typed) (sym (node_given at n env y e).1) o

pure_records : (x : Operand) (env : Env) (y : Operand × Env) → Good (x, env) ≡ Good y → OfRecords x.typed → OfRecords y.0.typed
pure_records x env y e o = subst (λ (x : Operand × Env). OfRecords x.0.typed) (same (x, env) y e) o
  where
    same : (x y : Operand × Env) → Good x ≡ Good y → x ≡ y
    same x y e = cc

designated : (t : Types) (o : Option Denotes) → OfRecords (given (λ (x : Operand). x) (option_and_then (designates t) o)).typed
designated t None = tt
designated t (Some (TypedefName c)) = tt
designated t (Some (EnumerationConstant n)) = tt
designated t (Some (Automatic n c r)) = tt
designated t (Some (Static n c)) = tt

constants : (t : Types) (o : Option (IntKind × ℤ)) → OfRecords (given (λ (x : Operand). x) (option_map (λ (x : IntKind × ℤ). constant_operand t x.0 x.1) o)).typed
constants t None = tt
constants t (Some x) = tt

literals : (at : ℕ) (o : Option (List ℕ)) (env : Env) (y : Operand × Env) → literal_of at o env ≡ Good y → OfRecords y.0.typed
literals at None env y e = node_records (by_node at) (ConstantNode None) env y e tt
literals at (Some bytes) env y e =
    let i = stepped {A = ℕ} (made_entity env.evaluated (nameless at (literal_type bytes) (inits (Zero [] ∷ Bytes [] bytes ∷ []))) env) (λ n. at_node (by_node at) (ConstantNode (Some (operand (place (literal_type bytes) false (StaticObject n)))))) y e in
    node_records (by_node at) (ConstantNode (Some (operand (place (literal_type bytes) false (StaticObject i.0.0))))) i.0.1 y i.2 tt

cast_records : (to : Shape) (e : Typed) → OfRecords e → OfRecords (cast_to to e)
cast_records to e o = by (same_shape (shape_in e) to && not (is_void to))
  where
    by : (b : Bool) → OfRecords (if b then e else same_effect to e (Convert e))
    by true = o
    by false = tt

arrows : (x : Operand) (hops : List Hop) (o : Option CType) → OfRecords (given (λ (e : Typed). operand (along e hops)) (option_map (indirect (value_node x.typed)) o)).typed
arrows x hops None = tt
arrows x hops (Some c) = along_records (indirect (value_node x.typed) c) hops tt (λ i. cc)

unary_records : (op : UnaryOp) (t : Types) (x : Operand) → OfRecords x.typed → OfRecords (typed_node t (unary_node op x)).typed
unary_records Address t x o = tt
unary_records Indirection t x o = by (pointee (shape_of x))
  where
    by : (c : Option CType) → OfRecords (given operand (option_map (indirect (value_node x.typed)) c)).typed
    by None = tt
    by (Some c) = tt
unary_records Plus t x o = as_records (promoted_shape t (shape_of x)) x o
unary_records Minus t x o = tt
unary_records Complement t x o = tt
unary_records Negation t x o = tt

assign_records : (op : Option BinOp) (t : Types) (x y : Operand) → OfRecords (typed_node t (assign_node op x y)).typed
assign_records None t x y = tt
assign_records (Some op) t x y = given_records (node.of_compute op x y) (compound_sides t op x y) (λ z e. tt)

object_records : (static : Bool) (at : ℕ) (c : CType) (f : Filling) (env : Env) (y : Operand × Env) → literal_object static at c f env ≡ Good y → OfRecords y.0.typed
object_records true at c f env y e =
    let i = stepped {A = ℕ} (made_entity env.evaluated (nameless at c (inits f.steps)) env) (λ n. pure (operand (place c false (StaticObject n)))) y e in
    pure_records (operand (place c false (StaticObject i.0.0))) i.0.1 y i.2 tt
object_records false at c f env y e =
    let i = stepped {A = ℕ} (number_of_literal env.evaluated at c env) (λ n. pure (operand (place c true (LiteralObject n (inits f.steps))))) y e in
    pure_records (operand (place c true (LiteralObject i.0.0 (inits f.steps)))) i.0.1 y i.2 tt

pub recorded : (e : ExprTree) (env : Env) (y : Operand × Env) → expr e env ≡ Good y → OfRecords y.0.typed
recorded (Name at x) env y e =
    let i = stepped {A = Unit {0}} (uses_name (visible_name env x) env) (λ u. at_node (by_node at) (NameNode (option_and_then (designates env.types) (visible_name env x)))) y e in
    node_records (by_node at) (NameNode (option_and_then (designates env.types) (visible_name env x))) i.0.1 y i.2 (designated env.types (visible_name env x))
recorded (Integer at text) env y e = node_records (by_node at) (ConstantNode (option_map (λ (x : IntKind × ℤ). constant_operand env.types x.0 x.1) (integer_constant env.types.abi text))) env y e (constants env.types (integer_constant env.types.abi text))
recorded (Character at text) env y e =
    node_records (by_node at) (ConstantNode (option_map (λ (x : IntKind × ℤ). constant_operand env.types x.0 x.1) (option_map (λ v. (int, v)) (character_constant text)))) env y e (constants env.types (option_map (λ v. (int, v)) (character_constant text)))
recorded (Literals at texts) env y e = literals at (string_literal texts) env y e
recorded (Parentheses at e) env y h = recorded e env y h
recorded (Index at l r) env y e =
    let i = stepped {A = Operand} (expr l env) (λ a. expr r >>= (λ b. at_node (by_node at) (IndexNode a b))) y e in
    let j = stepped {A = Operand} (expr r i.0.1) (λ b. at_node (by_node at) (IndexNode i.0.0 b)) y i.2 in
    node_records (by_node at) (IndexNode i.0.0 j.0.0) j.0.1 y j.2 (given_records (node.of_index j.0.1.types i.0.0 j.0.0) (subscript_sides j.0.1.types i.0.0 j.0.0) (λ z f. tt))
recorded (Call at f es) env y e =
    let i = stepped {A = Operand} (expr f env) (λ g. exprs es >>= (λ xs. at_call at (ats_of es) g xs)) y e in
    let j = stepped {A = List Operand} (exprs es i.0.1) (λ xs. at_call at (ats_of es) i.0.0 xs) y i.2 in
    node_records (by_argument at (number_at at (ats_of es) (wrong_argument j.0.1.types i.0.0 j.0.0))) (CallNode i.0.0 j.0.0) j.0.1 y j.2 (given_records (node.of_call j.0.1.types i.0.0 j.0.0) (callee_of i.0.0) (λ c f. tt))
recorded (Member at e x) env y h =
    let i = stepped {A = Operand} (expr e env) (λ a v. at_node (by_node at) (member_node v.types x a) v) y h in
    node_records (by_node at) (member_node i.0.1.types x i.0.0) i.0.1 y i.2
    (given_records (node.of_member i.0.0) (member_path i.0.1.types x (shape_in i.0.0.typed)) (λ hops f. along_records i.0.0.typed hops (recorded e env i.0 i.1) (λ j. found_path i.0.1.types x (shape_in i.0.0.typed) hops f)))
recorded (Arrow at e x) env y h =
    let i = stepped {A = Operand} (expr e env) (λ a v. at_node (by_node at) (arrow_node v.types x a) v) y h in
    node_records (by_node at) (arrow_node i.0.1.types x i.0.0) i.0.1 y i.2
    (given_records (node.of_arrow i.0.0) (option_and_then (λ (c : CType). member_path i.0.1.types x c.shape) (pointee (shape_of i.0.0))) (λ hops f. arrows i.0.0 hops (pointee (shape_of i.0.0))))
recorded (Postfix at e op) env y h =
    let i = stepped {A = Operand} (expr e env) (λ a. at_node (by_operand at (first_expr e)) (StepNode (postfix_form op) a)) y h in
    node_records (by_operand at (first_expr e)) (StepNode (postfix_form op) i.0.0) i.0.1 y i.2 (given_records (node.of_step (postfix_form op) i.0.0) (step_shape i.0.1.types i.0.0) (λ s f. tt))
recorded (CompoundLiteral at t items comma) env y e =
    let i = stepped {A = CType} (named_type t env) (λ c v. (refuses_if (not (may_be_initialised v.types c)) code.Incomplete at >>= (λ u.
    braces_for (is_static_here v) (whole_part c) (beginning c) (alone items) (λ g. items_in (is_static_here v) items g) >>= (λ f. compound_literal (is_static_here v) at (brace_at items) c f))) v) y e in
    let j = stepped {A = Unit {0}} (refuses_if (not (may_be_initialised i.0.1.types i.0.0)) code.Incomplete at i.0.1) (λ u.
    braces_for (is_static_here i.0.1) (whole_part i.0.0) (beginning i.0.0) (alone items) (λ g. items_in (is_static_here i.0.1) items g) >>= (λ f. compound_literal (is_static_here i.0.1) at (brace_at items) i.0.0 f)) y i.2 in
    let k = stepped {A = Filling} (braces_for (is_static_here i.0.1) (whole_part i.0.0) (beginning i.0.0) (alone items) (λ g. items_in (is_static_here i.0.1) items g) j.0.1) (λ f. compound_literal (is_static_here i.0.1) at (brace_at items) i.0.0 f) y j.2 in
    let l = stepped {A = CType} (filled at (brace_at items) i.0.0 k.0.0 k.0.1) (λ c. literal_object (is_static_here i.0.1) at c k.0.0) y k.2 in
    object_records (is_static_here i.0.1) at l.0.0 k.0.0 l.0.1 y l.2
recorded (Prefix at op e) env y h =
    let i = stepped {A = Operand} (expr e env) (λ a. at_node (by_operand at (first_expr e)) (StepNode (prefix_form op) a)) y h in
    node_records (by_operand at (first_expr e)) (StepNode (prefix_form op) i.0.0) i.0.1 y i.2 (given_records (node.of_step (prefix_form op) i.0.0) (step_shape i.0.1.types i.0.0) (λ s f. tt))
recorded (Unary at op e) env y h =
    let i = stepped {A = Operand} (expr e env) (λ a. at_node (by_operand at (first_expr e)) (unary_node op a)) y h in
    node_records (by_operand at (first_expr e)) (unary_node op i.0.0) i.0.1 y i.2 (unary_records op i.0.1.types i.0.0 (recorded e env i.0 i.1))
recorded (SizeofExpr at e) env y h =
    let i = stepped {A = Operand} (unevaluated (expr e) env) (λ a. at_node (by_sized at (first_expr e)) (SizeofNode (shape_in a.typed))) y h in
    node_records (by_sized at (first_expr e)) (SizeofNode (shape_in i.0.0.typed)) i.0.1 y i.2 (given_records (λ n. integer_operand i.0.1.types (size_shape i.0.1.types) (pos n)) (size_in i.0.1.types (shape_in i.0.0.typed)) (λ n f. tt))
recorded (SizeofType at t) env y h =
    let i = stepped {A = CType} (unevaluated (named_type t) env) (λ (c : CType). at_node (by_sized at (at_first (first_type_name t))) (SizeofNode c.shape)) y h in
    node_records (by_sized at (at_first (first_type_name t))) (SizeofNode i.0.0.shape) i.0.1 y i.2 (given_records (λ n. integer_operand i.0.1.types (size_shape i.0.1.types) (pos n)) (size_in i.0.1.types i.0.0.shape) (λ n f. tt))
recorded (AlignofType at t) env y h =
    let i = stepped {A = CType} (unevaluated (named_type t) env) (λ (c : CType). at_node (by_sized at (at_first (first_type_name t))) (AlignofNode c.shape)) y h in
    node_records (by_sized at (at_first (first_type_name t))) (AlignofNode i.0.0.shape) i.0.1 y i.2 (given_records (λ n. integer_operand i.0.1.types (size_shape i.0.1.types) (pos n)) (alignment_in i.0.1.types i.0.0.shape) (λ n f. tt))
recorded (Cast at t e) env y h =
    let i = stepped {A = CType} (named_type t env) (λ c. expr e >>= (λ a. at_node (by_node at) (CastNode c a))) y h in
    let j = stepped {A = Operand} (expr e i.0.1) (λ a. at_node (by_node at) (CastNode i.0.0 a)) y i.2 in
    node_records (by_node at) (CastNode i.0.0 j.0.0) j.0.1 y j.2 (cast_records i.0.0.shape (value_node j.0.0.typed) (value_records j.0.0.typed (recorded e i.0.1 j.0 j.1)))
recorded (Binary at op l r) env y e =
    let i = stepped {A = Operand} (expr l env) (λ a. expr r >>= (λ b. at_node (by_node at) (BinaryNode op a b))) y e in
    let j = stepped {A = Operand} (expr r i.0.1) (λ b. at_node (by_node at) (BinaryNode op i.0.0 b)) y i.2 in
    node_records (by_node at) (BinaryNode op i.0.0 j.0.0) j.0.1 y j.2 (given_records (node.of_binary j.0.1.types op i.0.0 j.0.0) (binary_sides j.0.1.types op i.0.0 j.0.0) (λ z f. tt))
recorded (Logical at op l r) env y e =
    let i = stepped {A = Operand} (expr l env) (λ a. expr r >>= (λ b. at_node (by_node at) (LogicalNode (logic_of op) a b))) y e in
    let j = stepped {A = Operand} (expr r i.0.1) (λ b. at_node (by_node at) (LogicalNode (logic_of op) i.0.0 b)) y i.2 in
    node_records (by_node at) (LogicalNode (logic_of op) i.0.0 j.0.0) j.0.1 y j.2 tt
recorded (Conditional at c l r) env y e =
    let i = stepped {A = Operand} (expr c env) (λ x. expr l >>= (λ a. expr r >>= (λ b. at_node (by_node at) (ConditionalNode x a b)))) y e in
    let j = stepped {A = Operand} (expr l i.0.1) (λ a. expr r >>= (λ b. at_node (by_node at) (ConditionalNode i.0.0 a b))) y i.2 in
    let k = stepped {A = Operand} (expr r j.0.1) (λ b. at_node (by_node at) (ConditionalNode i.0.0 j.0.0 b)) y j.2 in
    node_records (by_node at) (ConditionalNode i.0.0 j.0.0 k.0.0) k.0.1 y k.2 (given_records (node.of_conditional k.0.1.types i.0.0 j.0.0 k.0.0) (branch_shape k.0.1.types j.0.0 k.0.0) (λ s f. tt))
recorded (Assign at op l r) env y e =
    let i = stepped {A = Operand} (expr l env) (λ a. expr r >>= (λ b. at_node (by_operand at (first_expr l)) (assign_node op a b))) y e in
    let j = stepped {A = Operand} (expr r i.0.1) (λ b. at_node (by_operand at (first_expr l)) (assign_node op i.0.0 b)) y i.2 in
    node_records (by_operand at (first_expr l)) (assign_node op i.0.0 j.0.0) j.0.1 y j.2 (assign_records op j.0.1.types i.0.0 j.0.0)
recorded (Comma at l r) env y e =
    let i = stepped {A = Operand} (expr l env) (λ a. expr r >>= (λ b. at_node (by_node at) (CommaNode a b))) y e in
    let j = stepped {A = Operand} (expr r i.0.1) (λ b. at_node (by_node at) (CommaNode i.0.0 b)) y i.2 in
    node_records (by_node at) (CommaNode i.0.0 j.0.0) j.0.1 y j.2 tt
