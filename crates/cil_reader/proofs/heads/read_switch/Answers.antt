use Rattle.std.proofs.Common.{arith}
use Rattle.cil_reader.proofs.HeadsLaws.{tested_fails, tested_gives, known_turned}
use Rattle.cil_reader.proofs.heads.read_switch.Goals as goal

pub returns-in_err-value-clause-gives : goal.returns-in_err-value-clause-gives
returns-in_err-value-clause-gives c = grind (arith, tested_fails)

pub returns-clause-gives : goal.returns-clause-gives
returns-clause-gives c = grind (arith, tested_gives)

pub returns-clause-known : goal.returns-clause-known
returns-clause-known c = known_turned _ _ c.in_ok-value.value.exp c.in_ok-value.value.to c.in_ok-value.ensures.known
