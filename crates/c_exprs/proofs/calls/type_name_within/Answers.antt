use Rattle.std.proofs.Common.{◌∙◌, arith}
use Rattle.std.proofs.lemmas.Grind.{common_steps}
use Rattle.c_exprs.proofs.calls.type_name_within.Goals as goal

pub returns-in_err-specifiers-clause-gives : goal.returns-in_err-specifiers-clause-gives
returns-in_err-specifiers-clause-gives g c = grind (arith, common_steps)

pub returns-in_err-declarator-clause-gives : goal.returns-in_err-declarator-clause-gives
returns-in_err-declarator-clause-gives g c = grind (arith, common_steps)

pub returns-in_err-declarator-clause-onward : goal.returns-in_err-declarator-clause-onward
returns-in_err-declarator-clause-onward g c = record { same = c.declarator.ensures.onward.same ∙ c.specifiers.ensures.onward.same; onward = omega (arith, c.declarator.ensures.onward.onward, c.specifiers.ensures.onward.onward) }

pub returns-then-goes_on_type_name-clause-gives : goal.returns-then-goes_on_type_name-clause-gives
returns-then-goes_on_type_name-clause-gives g c = grind (arith, common_steps)

pub returns-then-goes_on_type_name-clause-onward : goal.returns-then-goes_on_type_name-clause-onward
returns-then-goes_on_type_name-clause-onward g c = record { same = c.declarator.ensures.onward.same ∙ c.specifiers.ensures.onward.same; onward = omega (arith, c.declarator.ensures.onward.onward, c.specifiers.ensures.onward.onward) }

pub returns-in_err-type_name_of-clause-onward : goal.returns-in_err-type_name_of-clause-onward
returns-in_err-type_name_of-clause-onward g c = record { same = c.declarator.ensures.onward.same ∙ c.specifiers.ensures.onward.same; onward = omega (arith, c.declarator.ensures.onward.onward, c.specifiers.ensures.onward.onward) }

pub returns-clause-gives : goal.returns-clause-gives
returns-clause-gives g c = grind (arith, common_steps)

pub returns-clause-onward : goal.returns-clause-onward
returns-clause-onward g c = record { same = c.declarator.ensures.onward.same ∙ c.specifiers.ensures.onward.same; onward = omega (arith, c.declarator.ensures.onward.onward, c.specifiers.ensures.onward.onward) }
