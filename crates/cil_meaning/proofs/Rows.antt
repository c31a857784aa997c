-- Device: worked rows of texts and meanings.
use Rattle.std.proofs.Common.{◌≡◌, [], codes, refl}
use Rattle.std.specs.Fmt.{digits}
use Rattle.cil_base.specs.declared.operators.BinOp.TheVariants.{Add, Sub}
use Rattle.cil_base.specs.declared.runs.Env.{Env}
use Rattle.cil_base.specs.declared.runs.Outcome.TheVariants.{Exit, Running, Undefined}
use Rattle.cil_meaning.specs.Program.{Const, Bin}
use Rattle.cil_meaning.specs.Text.{Text}
use Rattle.cil_meaning.specs.Meaning.{RunCil}

text_of_a_sum : Text (Bin Add (Const 2) (Const 3)) ≡ codes "int main ( void ) ;\nint main ( void ) {\n  return ( 2 + 3 ) ;\n}\n"
unfolding digits
text_of_a_sum = refl

text_of_a_constant : Text (Const 2) ≡ codes "int main ( void ) ;\nint main ( void ) {\n  return 2 ;\n}\n"
unfolding digits
text_of_a_constant = refl

text_of_nested_differences : Text (Bin Sub (Bin Add (Const 10) (Const 0)) (Bin Sub (Const 7) (Const 2147483647))) ≡ codes "int main ( void ) ;\nint main ( void ) {\n  return ( ( 10 + 0 ) - ( 7 - 2147483647 ) ) ;\n}\n"
unfolding digits
text_of_nested_differences = refl

run_at_0 : (env : Env) → RunCil (Bin Add (Const 2) (Const 3)) env 0 ≡ Running []
run_at_0 env = refl

run_at_1 : (env : Env) → RunCil (Bin Add (Const 2) (Const 3)) env 1 ≡ Exit 5 []
run_at_1 env = refl

run_of_258 : (env : Env) → RunCil (Const 258) env 1 ≡ Exit 2 []
run_of_258 env = refl

run_of_a_negative_value : (env : Env) → RunCil (Bin Sub (Const 2) (Const 3)) env 1 ≡ Exit 255 []
run_of_a_negative_value env = refl

run_that_overflows : (env : Env) → RunCil (Bin Add (Const 2147483647) (Const 1)) env 1 ≡ Undefined []
run_that_overflows env = refl
