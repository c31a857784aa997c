-- Definition: the expression that a tree of the code stands for.
use Rattle.c_meaning.specs.declared.tree.Expr.{Expr}
use Rattle.c_meaning.specs.declared.tree.Expr.TheVariants.{Constant as Number, Parentheses', Binary'}
use Rattle.c_meaning.specs.Grammar.{Expression, Constant, Parentheses, Binary}

abbrev pub expression_of : Expr → Expression
expression_of (Number value) = Constant value
expression_of (Parentheses' p inner) = Parentheses (expression_of inner)
expression_of (Binary' op p left q right) = Binary op (expression_of left) (expression_of right)
