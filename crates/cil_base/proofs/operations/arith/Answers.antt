use Rattle.std.proofs.Common.{◌≡◌, IfSome, Option, ℤ, bit_and, bit_or, bit_xor, to_z, of_z, subst, sym, rules}
use Rattle.std.specs.Int.{w128}
use Rattle.cil_base.specs.declared.operators.BinOp.TheVariants.{Rem, And, Xor, Or}
use Rattle.cil_base.specs.Integer.{IsOf}
use Rattle.cil_base.specs.Arithmetic.{remainder, bitwise}
use Rattle.cil_base.proofs.ArithmeticLaws.{arith_value}
use Rattle.cil_base.proofs.operations.arith.Goals as goal

pub returns-in-Rem-clause-value : goal.returns-in-Rem-clause-value
returns-in-Rem-clause-value c =
    let e : c.remainder.result ≡ remainder c.args.kind c.args.a c.args.b = search rules in
    subst (λ (r : Option ℤ). IfSome r (IsOf c.args.kind)) (sym e) (arith_value Rem c.args.kind c.args.a c.args.b c.requires.left)

pub returns-in-And-clause-value : goal.returns-in-And-clause-value
returns-in-And-clause-value c =
    let e : to_z w128 (of_z w128 c.and.result) ≡ bitwise bit_and c.args.kind c.args.a c.args.b = search rules in
    subst (IsOf c.args.kind) (sym e) (arith_value And c.args.kind c.args.a c.args.b c.requires.left)

pub returns-in-Xor-clause-value : goal.returns-in-Xor-clause-value
returns-in-Xor-clause-value c =
    let e : to_z w128 (of_z w128 c.xor.result) ≡ bitwise bit_xor c.args.kind c.args.a c.args.b = search rules in
    subst (IsOf c.args.kind) (sym e) (arith_value Xor c.args.kind c.args.a c.args.b c.requires.left)

pub returns-in-Or-clause-value : goal.returns-in-Or-clause-value
returns-in-Or-clause-value c =
    let e : to_z w128 (of_z w128 c.or.result) ≡ bitwise bit_or c.args.kind c.args.a c.args.b = search rules in
    subst (IsOf c.args.kind) (sym e) (arith_value Or c.args.kind c.args.a c.args.b c.requires.left)
