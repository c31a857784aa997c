-- Device: the tree of the code that a unit's expression becomes, and what it is in the whole language.
use Rattle.cil_base.specs.declared.kinds.IntKind.TheVariants.{Int as int}
use Rattle.c_meaning.specs.Grammar.{Expression, Constant, Parentheses, Binary}
use Rattle.cil_tree.specs.Tree.{Exp, Const, Bin, Program}
use Rattle.cil_meaning.specs.Program.{Exp as Small, Const as SmallConst, Bin as SmallBin}
use Rattle.cil_commands.specs.Lowering.{returning}

-- the expression without its parentheses
abbrev pub small : Expression → Small
small (Constant value) = SmallConst value
small (Parentheses inner) = small inner
small (Binary op left right) = SmallBin op (small left) (small right)

abbrev pub whole_exp : Small → Exp
whole_exp (SmallConst value) = Const int value
whole_exp (SmallBin op left right) = Bin op (whole_exp left) (whole_exp right)

abbrev pub whole_program : Small → Program
whole_program e = returning (whole_exp e)
