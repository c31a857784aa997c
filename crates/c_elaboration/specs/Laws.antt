-- Definition: typed expressions and initialisers mean what those of syntax trees do of which the walk makes them (C11 6.3, 6.5, 6.7.9, 6.8): in each state both go on with one place, value or answer to one state, or end so.
use Rattle.std.specs.Prelude.{◌≡◌, ℕ, false, Some}
use Rattle.execution.specs.States.{State, Result}
use Rattle.execution.specs.Calls.{Enter}
use Rattle.typed_tree.specs.Tree.{Typed}
use Rattle.c_tree.specs.Syntax.{ExprTree, InitTree}
use Rattle.c_rules.specs.Types.{CType}
use Rattle.c_rules.specs.Conversions.{Operand, value_as}
use Rattle.c_typing.specs.Initialisers.{Filling, inits, beginning, whole_part}
use Rattle.c_typing.specs.Scopes.{Env, Walk, Good}
use Rattle.c_typing.specs.Statements.{effect, test, selector}
use Rattle.c_typing.specs.Walk.{expr, initialise}
use Rattle.c_semantics.specs.Places.{Activation, Here}
use Rattle.c_semantics.specs.Operations.{Object, steps_of}
use Rattle.c_semantics.specs.Expressions.{c_exp, c_init}
use Rattle.c_semantics.specs.Statements.{c_effect, c_test, c_selector, c_return}
use Rattle.typed_semantics.specs.Expressions.{t_exp, t_inits}
use Rattle.typed_semantics.specs.Statements.{t_effect, t_test, t_selector, t_return}

-- in an activation, whatever calls do, wherever the expression stands
abbrev pub MeansItsSyntax : Activation → Enter → ExprTree → Type 0
MeansItsSyntax a enter e = (h : Here) (x : Operand) (behind : Env) → expr e h.env ≡ Good (x, behind) → (s : State) → t_exp a enter x.typed h.arrays s ≡ c_exp a enter e h s

-- an expression in a statement: what the walk makes of it does the same
abbrev pub Agree : {A : Type 0} → (ExprTree → Walk Typed) → (Typed → ℕ → State → Result A) → (ExprTree → Here → State → Result A) → Type 0
Agree walk typed does = (e : ExprTree) (h : Here) (x : Typed) (behind : Env) → walk e h.env ≡ Good (x, behind) → (s : State) → typed x h.arrays s ≡ does e h s

pub record ExpressionsOfStatements (a : Activation) (enter : Enter) : Type 0 where
  -- a value that is not used (6.8.3p2), a condition (6.8.4.1p2, 6.8.5p4), the value of a switch (6.8.4.2p5)
  pub effects : Agree effect (t_effect a enter) (c_effect a enter)
  pub tests : Agree test (t_test a enter) (c_test a enter)
  pub selectors : Agree selector (t_selector a enter) (c_selector a enter)
  -- what is returned goes to the type that the function returns (6.8.6.4p3)
  pub returns : (e : ExprTree) (h : Here) (x : Operand) (behind : Env) → expr e h.env ≡ Good (x, behind) → (s : State) → t_return a enter (Some (value_as h.place.result x)) h.arrays s ≡ c_return a enter (Some e) h s
  -- the initialiser of an object with automatic storage duration (6.7.9), of a type
  pub initialisers : (o : Object) (i : InitTree) (c : CType) (h : Here) (f : Filling) (behind : Env) → initialise false (whole_part c) (beginning c) i h.env ≡ Good (f, behind)
      → (s : State) → t_inits a enter o (inits f.steps) h.arrays s ≡ steps_of a o (inits f.steps) h (λ p. c_init a enter p i) s
