use Rattle.std.proofs.Common.{arith}
use Rattle.std.proofs.lemmas.Grind.{common_steps}
use Rattle.c_exprs.proofs.declarators.name_or_none.Goals as goal

pub returns-in_err-n-clause-gives : goal.returns-in_err-n-clause-gives
returns-in_err-n-clause-gives g c = grind (arith, common_steps)

pub returns-then-at_name-clause-gives : goal.returns-then-at_name-clause-gives
returns-then-at_name-clause-gives g c = grind (arith, common_steps)

pub returns-then-not-may_be_absent-clause-gives : goal.returns-then-not-may_be_absent-clause-gives
returns-then-not-may_be_absent-clause-gives g c = grind (arith, common_steps)

pub returns-clause-gives : goal.returns-clause-gives
returns-clause-gives g c = grind (arith, common_steps)
