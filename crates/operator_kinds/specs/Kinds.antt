-- Definition: the kind in which an operator computes, and that of what it gives, over numbers of two kinds (C11 6.3.1.8, 6.5).
use Rattle.cil_base.specs.declared.kinds.IntKind.{IntKind}
use Rattle.cil_base.specs.declared.kinds.IntKind.TheVariants.{Int}
use Rattle.cil_base.specs.Usual.{common, promoted}
use Rattle.operator_kinds.specs.declared.groups.Group.{Group}
use Rattle.operator_kinds.specs.declared.groups.Group.TheVariants.{Numbers, Shift, Add, Sub, Order, Equality}

-- the usual arithmetic conversions bring both operands to the common kind (6.5.5p3, 6.5.6p4, 6.5.8p3, 6.5.9p4, 6.5.10p3); the promotions are performed on each operand of a shift (6.5.7p3)
abbrev pub computing_kind : Group → IntKind → IntKind → IntKind
computing_kind Numbers left right = common left right
computing_kind Shift left right = promoted left
computing_kind Add left right = common left right
computing_kind Sub left right = common left right
computing_kind Order left right = common left right
computing_kind Equality left right = common left right

-- a comparison gives an int (6.5.8p6, 6.5.9p3), a shift the promoted type of its left operand (6.5.7p3)
abbrev pub given_kind : Group → IntKind → IntKind → IntKind
given_kind Numbers left right = common left right
given_kind Shift left right = promoted left
given_kind Add left right = common left right
given_kind Sub left right = common left right
given_kind Order left right = Int
given_kind Equality left right = Int

-- `++` and `--` add the int 1, or subtract it (6.5.2.4p2, 6.5.3.1p2)
abbrev pub stepping_kind : IntKind → IntKind
stepping_kind place = common place Int
