use Rattle.std.proofs.Common.{arith}
use Rattle.cil_check.proofs.PathLaws.{element_low, element_there, element_none}
use Rattle.cil_check.proofs.paths.element_part.Goals as goal

pub scaled-requires : goal.scaled-requires
scaled-requires c = grind (arith, element_low)

pub returns-in_ok-size-in-Array-default-Some-clause-told : goal.returns-in_ok-size-in-Array-default-Some-clause-told
returns-in_ok-size-in-Array-default-Some-clause-told c = grind (arith, element_there)

pub returns-in_err-size-in-Array-default-Some-clause-told : goal.returns-in_err-size-in-Array-default-Some-clause-told
returns-in_err-size-in-Array-default-Some-clause-told c = grind (arith, element_none)
