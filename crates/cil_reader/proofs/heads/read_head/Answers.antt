use Rattle.std.proofs.Common.{arith}
use Rattle.std.proofs.lemmas.Grind.{common_steps}
use Rattle.cil_reader.proofs.heads.read_head.Goals as goal

pub returns-then-is_block-clause-gives : goal.returns-then-is_block-clause-gives
returns-then-is_block-clause-gives c = grind (arith, common_steps)

pub returns-then-is_jump-clause-gives : goal.returns-then-is_jump-clause-gives
returns-then-is_jump-clause-gives c = grind (arith, common_steps)

pub returns-clause-gives : goal.returns-clause-gives
returns-clause-gives c = grind (arith, common_steps)
