-- Device: what an operator gives of integers is a value of its kind.
use Rattle.std.proofs.Common.{◌≡◌, Bool, true, false, not, Option, ℤ, int_lt, int_le, IfSome, arith, subst, sym}
use Rattle.std.specs.Ordering.{int_eq}
use Rattle.cil_base.specs.declared.kinds.IntKind.{IntKind}
use Rattle.cil_base.specs.declared.kinds.IntKind.TheVariants.{Int as int}
use Rattle.cil_base.specs.declared.operators.BinOp.{BinOp}
use Rattle.cil_base.specs.declared.operators.BinOp.TheVariants.{Mul, Div, Rem, Add, Sub, Shl, Shr, Lt, Gt, Le, Ge, Eq, Ne, And, Xor, Or}
use Rattle.cil_base.specs.Integer.{IsOf}
use Rattle.cil_base.specs.Arithmetic.{arith_of, told}
use Rattle.cil_base.proofs.ArithmeticLaws.{arith_value}
use Rattle.const_eval.specs.Values.{binary_kind}

told_value : (holds : Bool) → IsOf int (told holds)
told_value true = search arith
told_value false = search arith

computed_value : (op : BinOp) (kind : IntKind) (a b : ℤ) → IsOf kind a → IfSome (arith_of op kind a b) (IsOf (binary_kind op kind))
computed_value Mul kind a b h = arith_value Mul kind a b h
computed_value Div kind a b h = arith_value Div kind a b h
computed_value Rem kind a b h = arith_value Rem kind a b h
computed_value Add kind a b h = arith_value Add kind a b h
computed_value Sub kind a b h = arith_value Sub kind a b h
computed_value Shl kind a b h = arith_value Shl kind a b h
computed_value Shr kind a b h = arith_value Shr kind a b h
computed_value And kind a b h = arith_value And kind a b h
computed_value Xor kind a b h = arith_value Xor kind a b h
computed_value Or kind a b h = arith_value Or kind a b h
computed_value Lt kind a b h = told_value (int_lt a b)
computed_value Gt kind a b h = told_value (int_lt b a)
computed_value Le kind a b h = told_value (int_le a b)
computed_value Ge kind a b h = told_value (int_le b a)
computed_value Eq kind a b h = told_value (int_eq a b)
computed_value Ne kind a b h = told_value (not (int_eq a b))

pub computed_is : (op : BinOp) (kind given : IntKind) (a b : ℤ) (n : Option ℤ) → given ≡ binary_kind op kind → n ≡ arith_of op kind a b → IsOf kind a → IfSome n (IsOf given)
computed_is op kind given a b n is same h =
    subst (λ k. IfSome n (IsOf k)) (sym is) (subst (λ o. IfSome o (IsOf (binary_kind op kind))) (sym same) (computed_value op kind a b h))
