use Rattle.std.proofs.Common.{arith}
use Rattle.cil_reader.proofs.GlobalLaws.{own_line_next, plain_line}
use Rattle.cil_reader.proofs.OnwardLaws.{onward_none}
use Rattle.cil_reader.proofs.globals.next_global.Goals as goal

pub returns-then-is_called-clause-gives : goal.returns-then-is_called-clause-gives
returns-then-is_called-clause-gives c = grind (arith, own_line_next)

pub returns-in_err-plain_global-clause-on : goal.returns-in_err-plain_global-clause-on
returns-in_err-plain_global-clause-on c = onward_none c.args.r.now

pub returns-clause-gives : goal.returns-clause-gives
returns-clause-gives c = grind (arith, plain_line)

pub returns-clause-on : goal.returns-clause-on
returns-clause-on c = onward_none c.args.r.now
