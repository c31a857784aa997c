-- Definition: which binary operators have one constraint (C11 6.5.5 to 6.5.12).
use Rattle.cil_base.specs.declared.operators.BinOp.{BinOp}
use Rattle.cil_base.specs.declared.operators.BinOp.TheVariants as op
use Rattle.operator_kinds.specs.declared.groups.Group.{Group}
use Rattle.operator_kinds.specs.declared.groups.Group.TheVariants.{Numbers, Shift, Add, Sub, Order, Equality}

abbrev pub group_of : BinOp → Group
group_of op.Add = Add
group_of op.Sub = Sub
group_of op.Mul = Numbers
group_of op.Div = Numbers
group_of op.Rem = Numbers
group_of op.Shl = Shift
group_of op.Shr = Shift
group_of op.Lt = Order
group_of op.Gt = Order
group_of op.Le = Order
group_of op.Ge = Order
group_of op.Eq = Equality
group_of op.Ne = Equality
group_of op.And = Numbers
group_of op.Xor = Numbers
group_of op.Or = Numbers
