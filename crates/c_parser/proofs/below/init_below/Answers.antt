use Rattle.std.proofs.Common.{arith}
use Rattle.c_parser.proofs.Lower.{no_init, init_same, init_fails}
use Rattle.c_parser.proofs.below.init_below.Goals as goal

pub returns-then-height-lt1-clause-gives : goal.returns-then-height-lt1-clause-gives
returns-then-height-lt1-clause-gives g c = grind (arith, no_init)

pub returns-in_err-initialiser-clause-gives : goal.returns-in_err-initialiser-clause-gives
returns-in_err-initialiser-clause-gives g c = grind (arith, init_fails)

pub returns-clause-gives : goal.returns-clause-gives
returns-clause-gives g c = grind (arith, init_same)
