use Rattle.std.proofs.Common.{arith}
use Rattle.cil_reader.proofs.MemberLaws.{declared_fails, declared_nameless, declared_open, declared_gives}
use Rattle.cil_reader.proofs.aggregates.declared.Goals as goal

pub returns-in_err-named-clause-gives : goal.returns-in_err-named-clause-gives
returns-in_err-named-clause-gives c = grind (arith, declared_fails)

pub returns-in_default-clause-gives : goal.returns-in_default-clause-gives
returns-in_default-clause-gives c = grind (arith, declared_nameless)

pub returns-then-not-is_end-clause-gives : goal.returns-then-not-is_end-clause-gives
returns-then-not-is_end-clause-gives c = grind (arith, declared_open)

pub returns-clause-gives : goal.returns-clause-gives
returns-clause-gives c = grind (arith, declared_gives)
