use Rattle.std.proofs.Common.{arith}
use Rattle.cil_reader.proofs.HeadsLaws.{opened_fails, opened_open, opened_gives}
use Rattle.cil_reader.proofs.heads.opened.Goals as goal

pub returns-in_err-value-clause-gives : goal.returns-in_err-value-clause-gives
returns-in_err-value-clause-gives c = grind (arith, opened_fails)

pub returns-then-not-ends_opening-clause-gives : goal.returns-then-not-ends_opening-clause-gives
returns-then-not-ends_opening-clause-gives c = grind (arith, opened_open)

pub returns-clause-gives : goal.returns-clause-gives
returns-clause-gives c = grind (arith, opened_gives)
