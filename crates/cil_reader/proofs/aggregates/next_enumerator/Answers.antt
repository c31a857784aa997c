use Rattle.std.proofs.Common.{arith}
use Rattle.std.proofs.lemmas.Grind.{common_steps}
use Rattle.cil_reader.proofs.MemberLaws.{line_closed, line_fails, line_read}
use Rattle.cil_reader.proofs.PoolLaws.{pool_same}
use Rattle.cil_reader.proofs.aggregates.next_enumerator.Goals as goal

pub returns-then-is_close-clause-gives : goal.returns-then-is_close-clause-gives
returns-then-is_close-clause-gives c = grind (arith, common_steps, line_closed)

pub returns-then-is_close-clause-less : goal.returns-then-is_close-clause-less
returns-then-is_close-clause-less c = grind (arith, common_steps)

pub returns-then-is_close-clause-pool : goal.returns-then-is_close-clause-pool
returns-then-is_close-clause-pool c = pool_same c.args.pool.now

pub returns-in_err-one_enumerator-in-len1-up-clause-gives : goal.returns-in_err-one_enumerator-in-len1-up-clause-gives
returns-in_err-one_enumerator-in-len1-up-clause-gives c = grind (arith, line_fails)

pub returns-in-empty-clause-gives : goal.returns-in-empty-clause-gives
returns-in-empty-clause-gives c = grind (arith, common_steps)

pub returns-in-empty-clause-pool : goal.returns-in-empty-clause-pool
returns-in-empty-clause-pool c = pool_same c.args.pool.now

pub returns-in_ok-one_enumerator-in-len1-up-clause-gives : goal.returns-in_ok-one_enumerator-in-len1-up-clause-gives
returns-in_ok-one_enumerator-in-len1-up-clause-gives c = grind (arith, common_steps, line_read)

pub returns-in_ok-one_enumerator-in-len1-up-clause-less : goal.returns-in_ok-one_enumerator-in-len1-up-clause-less
returns-in_ok-one_enumerator-in-len1-up-clause-less c = grind (arith, common_steps)
