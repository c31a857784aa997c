-- Rows: the operands of an operator are typed from left to right (own), so that of two faults the one to the left is the first.
use Rattle.std.specs.Prelude.{◌≡◌, refl, [], Some}
use Rattle.cil_base.specs.declared.faults.Fault.TheVariants.{Constraint}
use Rattle.cil_base.specs.declared.faults.Code.TheVariants.{Undeclared}
use Rattle.cil_base.specs.declared.kinds.Abi.TheVariants.{Lp64}
use Rattle.cil_base.specs.declared.operators.BinOp.TheVariants.{Add}
use Rattle.c_tree.specs.Syntax.{Name, Binary}
use Rattle.c_typing.specs.Walk.{expr}
use Rattle.c_typing.specs.Faults.{start_env, fault_in}

-- `x + y`, neither of which is declared
left_first : fault_in (expr (Binary 0 Add (Name 0 (record { 0 = 0 })) (Name 2 (record { 0 = 1 }))) (start_env [] Lp64)) ≡ Some (Constraint Undeclared, 0)
left_first = refl
