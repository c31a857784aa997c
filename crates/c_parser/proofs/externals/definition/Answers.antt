use Rattle.std.proofs.Common.{◌∙◌, arith}
use Rattle.std.proofs.lemmas.Grind.{common_steps}
use Rattle.c_parser.proofs.Kept.{two_kept}
use Rattle.c_parser.proofs.externals.definition.Goals as goal

pub returns-in_err-enter_function-clause-gives : goal.returns-in_err-enter_function-clause-gives
returns-in_err-enter_function-clause-gives g c = grind (arith, common_steps)

pub returns-in_err-declarations-clause-gives : goal.returns-in_err-declarations-clause-gives
returns-in_err-declarations-clause-gives g c = grind (arith, common_steps)

pub returns-in_err-body-clause-gives : goal.returns-in_err-body-clause-gives
returns-in_err-body-clause-gives g c = grind (arith, common_steps)

pub leave_block-requires : goal.leave_block-requires
leave_block-requires g c = two_kept c.body_below.new.s c.enter_function.new.s (c.in_ok-body.ensures.outer ∙ c.in_ok-declarations.ensures.outer) c.in_ok-enter_function.ensures.room

pub returns-clause-gives : goal.returns-clause-gives
returns-clause-gives g c = grind (arith, common_steps)
