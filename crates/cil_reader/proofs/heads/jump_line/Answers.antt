use Rattle.std.proofs.Common.{arith}
use Rattle.std.proofs.lemmas.Grind.{common_steps}
use Rattle.cil_text.proofs.PartsAdded.{adds_none}
use Rattle.cil_reader.proofs.HeadsLaws.{known_default, known_break}
use Rattle.cil_reader.proofs.OnwardLaws.{onward_none}
use Rattle.cil_reader.proofs.heads.jump_line.Goals as goal

pub whole-requires : goal.whole-requires
whole-requires c = known_default c.args.r.now.graph

pub whole-requires-in-BreakWord : goal.whole-requires-in-BreakWord
whole-requires-in-BreakWord c = known_break c.args.r.now.graph

pub returns-in-CaseWord-clause-on : goal.returns-in-CaseWord-clause-on
returns-in-CaseWord-clause-on c = onward_none c.args.r.now

pub returns-in-DefaultWord-clause-on : goal.returns-in-DefaultWord-clause-on
returns-in-DefaultWord-clause-on c = onward_none c.args.r.now

pub returns-in-DefaultWord-clause-adds : goal.returns-in-DefaultWord-clause-adds
returns-in-DefaultWord-clause-adds c = grind (arith, adds_none)

pub returns-in-GotoWord-clause-on : goal.returns-in-GotoWord-clause-on
returns-in-GotoWord-clause-on c = onward_none c.args.r.now

pub returns-in-BreakWord-clause-on : goal.returns-in-BreakWord-clause-on
returns-in-BreakWord-clause-on c = onward_none c.args.r.now

pub returns-in-BreakWord-clause-adds : goal.returns-in-BreakWord-clause-adds
returns-in-BreakWord-clause-adds c = grind (arith, adds_none)

pub returns-in_default-clause-on : goal.returns-in_default-clause-on
returns-in_default-clause-on c = onward_none c.args.r.now

pub returns-in-CaseWord-clause-gives : goal.returns-in-CaseWord-clause-gives
returns-in-CaseWord-clause-gives c = grind (arith, common_steps)

pub returns-in-DefaultWord-clause-gives : goal.returns-in-DefaultWord-clause-gives
returns-in-DefaultWord-clause-gives c = grind (arith, common_steps)

pub returns-in-GotoWord-clause-gives : goal.returns-in-GotoWord-clause-gives
returns-in-GotoWord-clause-gives c = grind (arith, common_steps)

pub returns-in-BreakWord-clause-gives : goal.returns-in-BreakWord-clause-gives
returns-in-BreakWord-clause-gives c = grind (arith, common_steps)

pub returns-in-ReturnWord-clause-gives : goal.returns-in-ReturnWord-clause-gives
returns-in-ReturnWord-clause-gives c = grind (arith, common_steps)

pub returns-in_default-clause-gives : goal.returns-in_default-clause-gives
returns-in_default-clause-gives c = grind (arith, common_steps)
