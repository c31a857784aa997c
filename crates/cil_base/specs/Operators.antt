-- Definition: the binary operators of C11 6.5.5 to 6.5.12: how they are spelled, and which are additive.
use Rattle.std.specs.Prelude.{ℕ, List, codes}
use Rattle.cil_base.specs.declared.operators.BinOp.{BinOp}
use Rattle.cil_base.specs.declared.operators.BinOp.TheVariants.{Mul, Div, Rem, Add, Sub, Shl, Shr, Lt, Gt, Le, Ge, Eq, Ne, And, Xor, Or}

abbrev pub operator_spelling : BinOp → List ℕ
operator_spelling Mul = codes "*"
operator_spelling Div = codes "/"
operator_spelling Rem = codes "%"
operator_spelling Add = codes "+"
operator_spelling Sub = codes "-"
operator_spelling Shl = codes "<<"
operator_spelling Shr = codes ">>"
operator_spelling Lt = codes "<"
operator_spelling Gt = codes ">"
operator_spelling Le = codes "<="
operator_spelling Ge = codes ">="
operator_spelling Eq = codes "=="
operator_spelling Ne = codes "!="
operator_spelling And = codes "&"
operator_spelling Xor = codes "^"
operator_spelling Or = codes "|"

-- an operator of additive expressions (6.5.6)
abbrev pub IsAdditive : BinOp → Type 0
IsAdditive Add = Unit {0}
IsAdditive Sub = Unit {0}
IsAdditive _ = ⊥
