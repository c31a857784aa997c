-- Device: a program of the form runs as the program of the whole language that it is.
use Rattle.std.proofs.Common.{◌≡◌, ℕ, zero, suc, Bool, true, false, List, [], ◌∷◌, Option, Some, None, option_map, refl}
use Rattle.std.specs.Prelude.{ℤ}
use Rattle.std.specs.Option.{option_and_then}
use Rattle.cil_base.specs.declared.kinds.Abi.{Abi}
use Rattle.cil_base.specs.declared.kinds.Mode.{Mode}
use Rattle.cil_base.specs.declared.kinds.IntKind.TheVariants.{Int as int}
use Rattle.cil_base.specs.declared.operators.BinOp.{BinOp}
use Rattle.cil_base.specs.declared.runs.Env.{Env}
use Rattle.cil_base.specs.Arithmetic.{arith_of}
use Rattle.type_graph.specs.Shapes.{IntType}
use Rattle.byte_mem.specs.declared.values.Value.TheVariants.{Int}
use Rattle.byte_mem.specs.Steps.{◌>>=◌}
use Rattle.byte_mem.specs.Memory.{Memory}
use Rattle.execution.specs.Data.{Datum, Single}
use Rattle.typed_values.specs.Values.{single_in}
use Rattle.cil_semantics.specs.Values.{value, binary_value}
use Rattle.cil_semantics.specs.Runs.{RunCil as WholeRun, activation_of}
use Rattle.cil_meaning.specs.Program.{Exp, Const, Bin, IsExp}
use Rattle.cil_meaning.specs.Meaning.{value_of, RunCil}
use Rattle.cil_commands.specs.Lowering.{returning_body}
use Rattle.cil_commands.specs.Small.{whole_exp, whole_program}
use Rattle.cil_commands.proofs.SmallTexts.{typed}

abbrev number : ℤ → Datum
number v = Single (Int v)

-- an operator on two values of int
operated : (p : Exp) (m : Memory) (op : BinOp) (a b : Option ℤ)
    → (option_map number a >>= single_in >>= λ v. option_map number b >>= single_in >>= λ w. option_map Single (binary_value (whole_program p).graph m op (IntType int) (IntType int) v w))
    ≡ option_map number (option_and_then (λ a. option_and_then (λ b. arith_of op int a b) b) a)
operated p m op None b = refl
operated p m op (Some a) None = refl
operated p m op (Some a) (Some b) = by (arith_of op int a b)
  where
    by : (o : Option ℤ) → option_map Single (option_map Int o) ≡ option_map number o
    by None = refl
    by (Some v) = refl

-- an expression has its value
valued : (p : Exp) (entities : List ℕ) (act : ℕ) (m : Memory) (e : Exp) → IsExp e → value (activation_of (whole_program p) entities (returning_body (whole_exp p)) act) m (whole_exp e) ≡ option_map number (value_of e)
valued p entities act m (Const v) is = refl
valued p entities act m (Bin op left right) is =
    rw (typed p left is.1.0, typed p right is.1.1, valued p entities act m left is.1.0, valued p entities act m right is.1.1)
    (operated p m op (value_of left) (value_of right))

-- a program alone runs so, whether tentative definitions are common or not
runs_in : (p : Exp) → IsExp p → (common : Bool) (abi : Abi) (words : List (List ℕ)) (input : List ℕ) (env : Env) (n : ℕ) → WholeRun (whole_program p ∷ []) (record { common = common; abi = abi }) words input n ≡ RunCil p env n
runs_in p is true abi words input env zero = refl
runs_in p is false abi words input env zero = refl
runs_in p is true abi words input env (suc n) = by (value_of p) refl
  where
    by : (o : Option ℤ) → value_of p ≡ o → WholeRun (whole_program p ∷ []) (record { common = true; abi = abi }) words input (suc n) ≡ RunCil p env (suc n)
    by None e = rw (valued p (1 ∷ []) 0 _ p is, e) refl
    by (Some v) e = rw (valued p (1 ∷ []) 0 _ p is, e) refl
runs_in p is false abi words input env (suc n) = by (value_of p) refl
  where
    by : (o : Option ℤ) → value_of p ≡ o → WholeRun (whole_program p ∷ []) (record { common = false; abi = abi }) words input (suc n) ≡ RunCil p env (suc n)
    by None e = rw (valued p (1 ∷ []) 0 _ p is, e) refl
    by (Some v) e = rw (valued p (1 ∷ []) 0 _ p is, e) refl

pub runs_alike : (p : Exp) → IsExp p → (mode : Mode) (words : List (List ℕ)) (input : List ℕ) (env : Env) (n : ℕ) → WholeRun (whole_program p ∷ []) mode words input n ≡ RunCil p env n
runs_alike p is mode words input env n = runs_in p is mode.common mode.abi words input env n
