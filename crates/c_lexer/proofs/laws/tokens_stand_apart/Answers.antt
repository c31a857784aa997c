use Rattle.c_lexer.proofs.Refusals.{stand_apart}
use Rattle.c_lexer.proofs.laws.tokens_stand_apart.Goals as goal

pub returns : goal.returns
returns c = stand_apart
