-- Definition: what a CIL program of the form means.
use Rattle.std.specs.Prelude.{ℕ, ℤ, zero, suc, pos, [], Option, Some, option_and_then}
use Rattle.cil_base.specs.declared.kinds.IntKind.TheVariants.{Int}
use Rattle.cil_base.specs.declared.runs.Env.{Env}
use Rattle.cil_base.specs.declared.runs.Outcome.{Outcome}
use Rattle.cil_base.specs.declared.runs.Outcome.TheVariants.{Running}
use Rattle.cil_base.specs.Arithmetic.{arith_of}
use Rattle.cil_base.specs.Ends.{returned}
use Rattle.cil_meaning.specs.Program.{Exp, Const, Bin}

-- the value of an expression, none where it is undefined
abbrev pub value_of : Exp → Option ℤ
value_of (Const value) = Some (pos value)
value_of (Bin op left right) = option_and_then (λ a. option_and_then (λ b. arith_of op Int a b) (value_of right)) (value_of left)

-- the program whose main returns the expression, run in an environment with a bound on its steps: the entry of main takes one step
abbrev pub RunCil : Exp → Env → ℕ → Outcome
RunCil p env zero = Running []
RunCil p env (suc steps) = returned (value_of p) []
