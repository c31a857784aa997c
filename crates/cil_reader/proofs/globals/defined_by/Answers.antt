use Rattle.std.proofs.Common.{arith}
use Rattle.std.proofs.lemmas.Grind.{common_steps}
use Rattle.cil_reader.proofs.GlobalLaws.{flat_zero}
use Rattle.cil_reader.proofs.OnwardLaws.{onward_none}
use Rattle.cil_reader.proofs.globals.defined_by.Goals as goal

pub returns-in-Semicolon-clause-gives : goal.returns-in-Semicolon-clause-gives
returns-in-Semicolon-clause-gives c = grind (arith, common_steps)

pub returns-in-Semicolon-clause-flat : goal.returns-in-Semicolon-clause-flat
returns-in-Semicolon-clause-flat c = flat_zero

pub returns-in-Semicolon-clause-on : goal.returns-in-Semicolon-clause-on
returns-in-Semicolon-clause-on c = onward_none c.args.r.now

pub returns-in-Assign-clause-gives : goal.returns-in-Assign-clause-gives
returns-in-Assign-clause-gives c = grind (arith, common_steps)

pub returns-in_default-clause-gives : goal.returns-in_default-clause-gives
returns-in_default-clause-gives c = grind (arith, common_steps)

pub returns-in_default-clause-on : goal.returns-in_default-clause-on
returns-in_default-clause-on c = onward_none c.args.r.now
