use Rattle.std.proofs.Common.{arith}
use Rattle.c_parser.proofs.Lower.{no_specifiers, specifiers_same, specifiers_fails}
use Rattle.c_parser.proofs.below.specifiers_below.Goals as goal

pub returns-then-height-lt1-clause-gives : goal.returns-then-height-lt1-clause-gives
returns-then-height-lt1-clause-gives g c = grind (arith, no_specifiers)

pub returns-in_err-specifiers-clause-gives : goal.returns-in_err-specifiers-clause-gives
returns-in_err-specifiers-clause-gives g c = grind (arith, specifiers_fails)

pub returns-clause-gives : goal.returns-clause-gives
returns-clause-gives g c = grind (arith, specifiers_same)
