use Rattle.c_elaboration.proofs.InStatements.{in_statements}
use Rattle.c_elaboration.proofs.laws.typed_parts_of_statements_mean_their_syntax.Goals as goal

pub returns : goal.returns
returns c = λ a enter. in_statements a enter
