use Rattle.std.proofs.Common.{arith}
use Rattle.cil_text.proofs.PartsAdded.{adds_none}
use Rattle.cil_reader.proofs.HeadsLaws.{known_nothing, return_nothing, return_fails, return_open, known_return, return_gives}
use Rattle.cil_reader.proofs.OnwardLaws.{onward_none}
use Rattle.cil_reader.proofs.heads.read_return.Goals as goal

pub whole-requires : goal.whole-requires
whole-requires c = known_nothing c.args.r.now.graph

pub returns-then-is_end_of_line-clause-gives : goal.returns-then-is_end_of_line-clause-gives
returns-then-is_end_of_line-clause-gives c = grind (arith, return_nothing)

pub returns-then-is_end_of_line-clause-on : goal.returns-then-is_end_of_line-clause-on
returns-then-is_end_of_line-clause-on c = onward_none c.args.r.now

pub returns-then-is_end_of_line-clause-adds : goal.returns-then-is_end_of_line-clause-adds
returns-then-is_end_of_line-clause-adds c = grind (arith, adds_none)

pub returns-in_err-value-clause-gives : goal.returns-in_err-value-clause-gives
returns-in_err-value-clause-gives c = grind (arith, return_fails)

pub returns-then-not-is_end-clause-gives : goal.returns-then-not-is_end-clause-gives
returns-then-not-is_end-clause-gives c = grind (arith, return_open)

pub whole-requires-2 : goal.whole-requires-2
whole-requires-2 c = grind (arith, known_return)

pub returns-clause-gives : goal.returns-clause-gives
returns-clause-gives c = grind (arith, return_gives)
