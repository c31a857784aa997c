use Rattle.std.proofs.Common.{arith}
use Rattle.cil_reader.proofs.HeadsLaws.{tested_fails, tested_gives, known_tested}
use Rattle.cil_reader.proofs.heads.read_if.Goals as goal

pub returns-in_err-test-clause-gives : goal.returns-in_err-test-clause-gives
returns-in_err-test-clause-gives c = grind (arith, tested_fails)

pub returns-clause-gives : goal.returns-clause-gives
returns-clause-gives c = grind (arith, tested_gives)

pub returns-clause-known : goal.returns-clause-known
returns-clause-known c = known_tested _ _ c.in_ok-test.test.exp c.in_ok-test.test.to c.in_ok-test.ensures.known
