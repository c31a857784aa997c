use Rattle.std.proofs.Common.{arith}
use Rattle.std.proofs.lemmas.Grind.{common_steps}
use Rattle.cil_reader.proofs.ReadLaws.{read_none}
use Rattle.cil_reader.proofs.PoolLaws.{pool_same}
use Rattle.cil_reader.proofs.aggregates.next_tag.Goals as goal

pub returns-in_err-add_tag-clause-gives : goal.returns-in_err-add_tag-clause-gives
returns-in_err-add_tag-clause-gives c = grind (arith, common_steps)

pub returns-in-Some-clause-gives : goal.returns-in-Some-clause-gives
returns-in-Some-clause-gives c = grind (arith, common_steps)

pub returns-in-Some-clause-less : goal.returns-in-Some-clause-less
returns-in-Some-clause-less c = grind (arith, common_steps)

pub returns-clause-gives : goal.returns-clause-gives
returns-clause-gives c = grind (arith, common_steps)

pub returns-clause-read : goal.returns-clause-read
returns-clause-read c = read_none c.args.r.now c.args.pool.now c.args.first c.requires.holds

pub returns-clause-pool : goal.returns-clause-pool
returns-clause-pool c = pool_same c.args.pool.now
