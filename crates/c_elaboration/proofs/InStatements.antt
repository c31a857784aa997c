-- Device: the expressions and initialisers of statements do what their typed forms do (6.7.9, 6.8).
use Rattle.std.proofs.Common.{◌≡◌, Bool, false, [], Some, ℤ, sym, ap, ◌∙◌}
use Rattle.type_graph.specs.Shapes.{Shape}
use Rattle.execution.specs.Data.{Datum}
use Rattle.execution.specs.Calls.{Enter}
use Rattle.typed_tree.specs.Tree.{Typed}
use Rattle.c_tree.specs.Syntax.{ExprTree, InitTree}
use Rattle.c_tree.specs.Places.{first_expr}
use Rattle.c_rules.specs.Types.{CType}
use Rattle.c_rules.specs.Conversions.{Operand, shape_of, promoted_shape, value_as}
use Rattle.c_typing.specs.Initialisers.{Filling, inits, beginning, whole_part}
use Rattle.c_rules.specs.Nodes.{Node, TestNode, SwitchNode, ValueNode, typed_node}
use Rattle.c_typing.specs.Scopes.{Env, Good, ◌>>=◌, pure}
use Rattle.c_typing.specs.Statements.{effect, test, selector}
use Rattle.c_typing.specs.Steps.{at_node, by_node}
use Rattle.c_typing.specs.Walk.{expr, initialise}
use Rattle.c_semantics.specs.Places.{Activation, Here}
use Rattle.c_semantics.specs.Operations.{Action, ◌>>=◌ as ◌>>>◌, Seen, gives, known, used, taken, tested, single, Object, steps_of}
use Rattle.c_semantics.specs.Expressions.{c_exp, c_init}
use Rattle.c_semantics.specs.Statements.{c_effect, c_test, c_selector, c_return}
use Rattle.byte_mem.specs.Operator.{number_in}
use Rattle.execution.specs.Jumps.{Signal, Returned}
use Rattle.typed_semantics.specs.Expressions.{t_inits}
use Rattle.typed_semantics.specs.Statements.{t_effect, t_test, t_selector, t_return}
use Rattle.c_elaboration.specs.Laws.{ExpressionsOfStatements}
use Rattle.c_elaboration.proofs.Unviolated.{stepped, node_given}
use Rattle.c_elaboration.proofs.Operands.{used_is, taken_is}
use Rattle.c_elaboration.proofs.Operators.{tested_is}
use Rattle.c_elaboration.proofs.Fillings.{good}
use Rattle.c_elaboration.proofs.Expressions.{operand_found, exp_is, init_is, steps_are}

-- a node that stands in a statement
node_in : (e : ExprTree) (n : Operand → Node) (env : Env) (y : Typed × Env) → (expr e >>= (λ x. at_node (by_node (first_expr e)) (n x) >>= (λ z. pure z.typed))) env ≡ Good y
    → (i : Operand × Env) × (expr e env ≡ Good i) × (y.0 ≡ (typed_node i.1.types (n i.0)).typed)
node_in e n env y g =
    let i = stepped {A = Operand} (expr e env) (λ x. at_node (by_node (first_expr e)) (n x) >>= (λ (z : Operand). pure z.typed)) y g in
    let j = stepped {A = Operand} (at_node (by_node (first_expr e)) (n i.0.0) i.0.1) (λ (z : Operand). pure z.typed) y i.2 in
    (i.0, i.1, ap (λ (w : Typed × Env). w.0) (good (j.0.0.typed, j.0.1) y j.2) ∙ ap (λ (w : Operand × Env). w.0.typed) (node_given (by_node (first_expr e)) (n i.0.0) i.0.1 j.0 j.1).1)

module _ (a : Activation) (enter : Enter) where
  effect_is : (e : ExprTree) (h : Here) (y : Typed × Env) → effect e h.env ≡ Good y → t_effect a enter y.0 h.arrays ≡ c_effect a enter e h
  effect_is e h y g =
      let i = node_in e ValueNode h.env y g in
      ap (λ w. t_effect a enter w h.arrays) i.2
      ∙ sym (operand_found (expr e) h (λ x k. used a x (c_exp a enter e h) >>> (λ d. gives tt)) i.0 i.1
      ∙ (ap (λ (go : Action Seen). used a i.0.0 go >>> (λ d. gives tt)) (exp_is a enter e h i.0 i.1)
      ∙ ap (λ (go : Action Datum). go >>> (λ d. gives tt)) (sym (used_is a enter i.0.0 h.arrays))))

  test_is : (e : ExprTree) (h : Here) (y : Typed × Env) → test e h.env ≡ Good y → t_test a enter y.0 h.arrays ≡ c_test a enter e h
  test_is e h y g =
      let i = node_in e TestNode h.env y g in
      ap (λ w. t_test a enter w h.arrays) i.2
      ∙ sym (operand_found (expr e) h (λ x k. tested a x (c_exp a enter e h)) i.0 i.1
      ∙ (ap (λ (go : Action Seen). tested a i.0.0 go) (exp_is a enter e h i.0 i.1) ∙ sym (tested_is a enter i.0.0 h.arrays)))

  selector_is : (e : ExprTree) (h : Here) (y : Typed × Env) → selector e h.env ≡ Good y → t_selector a enter y.0 h.arrays ≡ c_selector a enter e h
  selector_is e h y g =
      let i = node_in e SwitchNode h.env y g in
      let to : Shape = promoted_shape i.0.1.types (shape_of i.0.0) in
      ap (λ w. t_selector a enter w h.arrays) i.2
      ∙ sym (operand_found (expr e) h (λ x k. taken a x (promoted_shape k.env.types (shape_of x)) (c_exp a enter e h) >>> (λ d. single d >>> (λ v. known (number_in v)))) i.0 i.1
      ∙ (ap (λ (go : Action Seen). taken a i.0.0 to go >>> (λ d. single d >>> (λ v. known (number_in v)))) (exp_is a enter e h i.0 i.1)
      ∙ ap (λ (go : Action Datum). go >>> (λ d. single d >>> (λ v. known (number_in v)))) (sym (taken_is a enter i.0.0 to h.arrays))))

  return_is : (e : ExprTree) (h : Here) (y : Operand × Env) → expr e h.env ≡ Good y → t_return a enter (Some (value_as h.place.result y.0)) h.arrays ≡ c_return a enter (Some e) h
  return_is e h y g =
      sym (operand_found (expr e) h (λ x k. taken a x h.place.result (c_exp a enter e h) >>> (λ d. gives (Returned (Some d)))) y g
      ∙ (ap (λ (go : Action Seen). taken a y.0 h.place.result go >>> (λ d. gives (Returned (Some d)))) (exp_is a enter e h y g)
      ∙ ap (λ (go : Action Datum). go >>> (λ d. gives (Returned (Some d)))) (sym (taken_is a enter y.0 h.place.result h.arrays))))

  initialiser_is : (o : Object) (i : InitTree) (c : CType) (h : Here) (f : Filling) (behind : Env) → initialise false (whole_part c) (beginning c) i h.env ≡ Good (f, behind)
      → t_inits a enter o (inits f.steps) h.arrays ≡ steps_of a o (inits f.steps) h (λ p. c_init a enter p i)
  initialiser_is o i c h f behind g =
      let r = init_is a enter i o (whole_part c) (beginning c) h.env (f, behind) g in
      sym (steps_are a enter o (c_init a enter o i) r.new f.steps h behind r.adds (r.does h.arrays h.place [] [] tt))

pub in_statements : (a : Activation) (enter : Enter) → ExpressionsOfStatements a enter
in_statements a enter = record {
  effects = λ e h x behind g s. ap (λ (go : Action (Unit {0})). go s) (effect_is a enter e h (x, behind) g);
  tests = λ e h x behind g s. ap (λ (go : Action Bool). go s) (test_is a enter e h (x, behind) g);
  selectors = λ e h x behind g s. ap (λ (go : Action ℤ). go s) (selector_is a enter e h (x, behind) g);
  returns = λ e h x behind g s. ap (λ (go : Action Signal). go s) (return_is a enter e h (x, behind) g);
  initialisers = λ o i c h f behind g s. ap (λ (go : Action (Unit {0})). go s) (initialiser_is a enter o i c h f behind g);
}
