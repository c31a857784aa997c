use Rattle.c_lexer.proofs.Answered.{same_answer}
use Rattle.c_lexer.proofs.laws.one_answer.Goals as goal

pub returns : goal.returns
returns c = same_answer
