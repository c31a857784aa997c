use Rattle.std.proofs.Common.{arith}
use Rattle.std.proofs.lemmas.Grind.{common_steps}
use Rattle.cil_reader.proofs.OnwardLaws.{onward_none}
use Rattle.cil_reader.proofs.globals.next_definition.Goals as goal

pub returns-in-empty-clause-gives : goal.returns-in-empty-clause-gives
returns-in-empty-clause-gives c = grind (arith, common_steps)

pub returns-in-empty-clause-on : goal.returns-in-empty-clause-on
returns-in-empty-clause-on c = onward_none c.args.r.now

pub returns-in-len1-up-clause-gives : goal.returns-in-len1-up-clause-gives
returns-in-len1-up-clause-gives c = grind (arith, common_steps)
