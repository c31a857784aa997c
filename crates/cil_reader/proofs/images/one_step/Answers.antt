use Rattle.std.proofs.Common.{arith}
use Rattle.std.proofs.lemmas.Grind.{common_steps}
use Rattle.cil_reader.proofs.images.one_step.Goals as goal

pub returns-in_err-found-in-Dot-clause-is : goal.returns-in_err-found-in-Dot-clause-is
returns-in_err-found-in-Dot-clause-is c = grind (arith, common_steps)

pub returns-in-LeftBracket-clause-is : goal.returns-in-LeftBracket-clause-is
returns-in-LeftBracket-clause-is c = grind (arith, common_steps)

pub returns-in_ok-found-in-Dot-clause-is : goal.returns-in_ok-found-in-Dot-clause-is
returns-in_ok-found-in-Dot-clause-is c = grind (arith, common_steps)

pub returns-in_default-clause-is : goal.returns-in_default-clause-is
returns-in_default-clause-is c = grind (arith, common_steps)
