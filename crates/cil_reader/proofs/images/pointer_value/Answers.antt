use Rattle.std.proofs.Common.{arith}
use Rattle.std.proofs.lemmas.Grind.{common_steps}
use Rattle.cil_reader.proofs.OnwardLaws.{onward_none}
use Rattle.cil_reader.proofs.images.pointer_value.Goals as goal

pub returns-in-LeftParen-clause-gives : goal.returns-in-LeftParen-clause-gives
returns-in-LeftParen-clause-gives c = grind (arith, common_steps)

pub returns-in_default-clause-gives : goal.returns-in_default-clause-gives
returns-in_default-clause-gives c = grind (arith, common_steps)

pub returns-in_default-clause-on : goal.returns-in_default-clause-on
returns-in_default-clause-on c = onward_none c.args.r.now
