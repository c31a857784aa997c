use Rattle.std.proofs.Common.{arith}
use Rattle.c_parser.proofs.Lower.{no_declarator, declarator_same, declarator_fails}
use Rattle.c_parser.proofs.below.declarator_below.Goals as goal

pub returns-then-height-lt1-clause-gives : goal.returns-then-height-lt1-clause-gives
returns-then-height-lt1-clause-gives g c = grind (arith, no_declarator)

pub returns-in_err-declarator-clause-gives : goal.returns-in_err-declarator-clause-gives
returns-in_err-declarator-clause-gives g c = grind (arith, declarator_fails)

pub returns-clause-gives : goal.returns-clause-gives
returns-clause-gives g c = grind (arith, declarator_same)
