-- Definition: the expression that a tree of the code stands for.
use Rattle.cil_meaning.specs.declared.tree.Exp.{Exp}
use Rattle.cil_meaning.specs.declared.tree.Exp.TheVariants.{Const as Number, Bin'}
use Rattle.cil_meaning.specs.Program.{Exp as Plain, Const, Bin}

abbrev pub exp_of : Exp → Plain
exp_of (Number value) = Const value
exp_of (Bin' op p left q right) = Bin op (exp_of left) (exp_of right)
