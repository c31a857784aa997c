use Rattle.std.proofs.Common.{arith}
use Rattle.cil_reader.proofs.ImageLaws.{scalar_int, scalar_pointer, scalar_other}
use Rattle.cil_reader.proofs.OnwardLaws.{onward_none}
use Rattle.cil_reader.proofs.images.read_constant.Goals as goal

pub returns-in-Int-clause-gives : goal.returns-in-Int-clause-gives
returns-in-Int-clause-gives c = grind (arith, scalar_int)

pub returns-in-Int-clause-on : goal.returns-in-Int-clause-on
returns-in-Int-clause-on c = onward_none c.args.r.now

pub returns-in-Pointer-clause-gives : goal.returns-in-Pointer-clause-gives
returns-in-Pointer-clause-gives c = grind (arith, scalar_pointer)

pub returns-in-Other-clause-gives : goal.returns-in-Other-clause-gives
returns-in-Other-clause-gives c = grind (arith, scalar_other)

pub returns-in-Other-clause-on : goal.returns-in-Other-clause-on
returns-in-Other-clause-on c = onward_none c.args.r.now
