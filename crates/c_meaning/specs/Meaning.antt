-- Definition: what a translation unit of the form means.
use Rattle.std.specs.Prelude.{ℕ, ℤ, zero, suc, pos, [], Option, Some, option_and_then}
use Rattle.cil_base.specs.declared.kinds.IntKind.TheVariants.{Int}
use Rattle.cil_base.specs.declared.runs.Env.{Env}
use Rattle.cil_base.specs.declared.runs.Outcome.{Outcome}
use Rattle.cil_base.specs.declared.runs.Outcome.TheVariants.{Running}
use Rattle.cil_base.specs.Arithmetic.{arith_of}
use Rattle.cil_base.specs.Ends.{returned}
use Rattle.c_meaning.specs.Grammar.{Expression, Constant, Parentheses, Binary}

-- the value of an expression of type int (6.5.1, 6.5.6), operands from left to right; none where it is undefined (6.5p5)
abbrev pub value_of : Expression → Option ℤ
value_of (Constant value) = Some (pos value)
value_of (Parentheses inner) = value_of inner
value_of (Binary op left right) = option_and_then (λ a. option_and_then (λ b. arith_of op Int a b) (value_of right)) (value_of left)

-- the unit whose main returns the expression, run in an environment with a bound on its steps (5.1.2.3): the entry of main takes one step
abbrev pub RunC : Expression → Env → ℕ → Outcome
RunC e env zero = Running []
RunC e env (suc steps) = returned (value_of e) []
