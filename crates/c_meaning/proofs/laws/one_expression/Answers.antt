use Rattle.c_meaning.proofs.Units.{same_expression}
use Rattle.c_meaning.proofs.laws.one_expression.Goals as goal

pub returns : goal.returns
returns c = same_expression
